use Rattle.std.proofs.Common.{◌≡◌, ℕ, ◌^◌, ◌≤◌, sym, subst, arith}
use Rattle.std.specs.Int.{div_ceil}
use Rattle.ufs_pointer.proofs.file_blocks.block_count.Goals as goal

pub returns-clause-few : goal.returns-clause-few
returns-clause-few c =
    let size : c.from.result ≡ c.args.g.now.bsize = omega arith in
    let few = c.file_blocks_are_few.ensures c.args.g.now c.args.inode.now c.requires.geometry c.requires.small in
    let bound = subst (λ (bytes : ℕ). div_ceil c.args.inode.now.size bytes ≤ 2 ^ 20) (sym size) few in omega arith
