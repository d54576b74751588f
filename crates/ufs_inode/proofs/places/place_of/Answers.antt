use Rattle.std.proofs.Common.{◌/◌, ◌%◌, ◌<◌, arith}
use Rattle.ufs_inode.proofs.PlaceLaws.{placed}
use Rattle.ufs_inode.proofs.places.place_of.Goals as goal

pub overflow_add-result : goal.overflow_add-result
overflow_add-result c =
    let g = c.args.g.now in
    let p = placed g (c.args.inode % g.ipg) c.requires.geometry (omega arith) in
    omega arith

pub returns-clause-inside : goal.returns-clause-inside
returns-clause-inside c =
    let g = c.args.g.now in
    let p = placed g (c.args.inode % g.ipg) c.requires.geometry (omega arith) in
    omega arith

pub returns-clause-whole : goal.returns-clause-whole
returns-clause-whole c =
    let g = c.args.g.now in
    (placed g (c.args.inode % g.ipg) c.requires.geometry (omega arith)).whole

pub returns-clause-role : goal.returns-clause-role
returns-clause-role c =
    let g = c.args.g.now in
    let p = placed g (c.args.inode % g.ipg) c.requires.geometry (omega arith) in
    let low : c.args.inode / g.ipg < g.ncg = grind arith in
    let own = c.own_blocks_of_groups.ensures g (c.args.inode / g.ipg) c.requires.geometry low in
    own.inodes _ (omega arith) (omega arith)
