use Rattle.std.proofs.Common.{◌<◌, ◌*◌, length, arith}
use Rattle.ufs_build.proofs.PartLaws.{given_parts}
use Rattle.ufs_build.proofs.PlacingLaws.{block_start}
use Rattle.ufs_build.specs.Images.{data_parts}
use Rattle.ufs_build.specs.Placements.{blocks_of}
use Rattle.ufs_build.specs.Placings.{file_of}
use Rattle.ufs_build.proofs.images.put_bytes.Goals as goal

pub put_block-requires : goal.put_block-requires
put_block-requires c =
    let low : c.loop-n.n < blocks_of c.args.g.now (file_of c.args.node.now) = rw (← c.blocks_of-n-end.ensures) c.loop-n-test.true in
    let start : c.loop-n.n * c.args.g.now.bsize < length c.args.node.now.bytes.now = block_start c.args.g.now (file_of c.args.node.now) c.loop-n.n c.requires low in
    omega (arith, c.args.node.now.short)

pub loop-n-preserved : goal.loop-n-preserved
loop-n-preserved c =
    given_parts (data_parts c.args.g.now (file_of c.args.node.now) c.args.addresses.now) c.loop-n.n _ _ _ c.loop-n.invariant c.put_block.ensures
