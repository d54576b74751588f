use Rattle.std.proofs.Common.{arith}
use Rattle.ufs_pointer.proofs.BlockLaws.{fetches_bytes, fetches_no_bytes}
use Rattle.ufs_pointer.proofs.LossLaws.{bytes_lost}
use Rattle.ufs_pointer.proofs.file_blocks.read_run.Goals as goal

pub returns-then-not-read_block-clause-fetched : goal.returns-then-not-read_block-clause-fetched
returns-then-not-read_block-clause-fetched g c =
    fetches_no_bytes c.args.g.now c.args.a c.args.k (rw (← c.requires.geometry.fsize) at c.if-not-read_block.ensures.fetched)

pub returns-clause-fetched : goal.returns-clause-fetched
returns-clause-fetched g c =
    fetches_bytes c.args.g.now c.args.a c.args.k _ g.met.V.View.fetched_both (g.met.V.View.fetched_none c.read_block.new.view)
    (rw (← c.requires.geometry.fsize) at c.if-not-read_block.ensures.rule) (rw (← c.requires.geometry.fsize) at c.if-not-read_block.ensures.fetched)

pub returns-then-not-read_block-clause-lost : goal.returns-then-not-read_block-clause-lost
returns-then-not-read_block-clause-lost g c =
    bytes_lost c.args.g.now c.args.a c.args.k (g.V.View.count c.args.view.now) (omega (arith, c.requires.inside, c.requires.geometry.size)) c.if-not-read_block.ensures.area
