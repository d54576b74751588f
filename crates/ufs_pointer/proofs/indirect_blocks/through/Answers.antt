use Rattle.std.proofs.Common.{arith}
use Rattle.ufs_model.specs.Pointers.{through}
use Rattle.ufs_pointer.specs.FetchLaws.{fetches_none}
use Rattle.ufs_pointer.proofs.LossLaws.{through_lost}
use Rattle.ufs_pointer.proofs.indirect_blocks.through.Goals as goal

pub returns-then-not-read_area-clause-fetched : goal.returns-then-not-read_area-clause-fetched
unfolding through
returns-then-not-read_area-clause-fetched g c =
    rw (c.in-At.is, c.requires.geometry.fsize) (fetches_none _ c.if-not-read_area.ensures.fetched)

pub returns-then-not-read_area-clause-lost : goal.returns-then-not-read_area-clause-lost
returns-then-not-read_area-clause-lost g c =
    let inside = (rw c.in-At.is at c.requires.whole).1 in
    rw c.in-At.is
    (through_lost c.args.g.now c.args.i c.in-At.a c.in-At.k (g.V.View.count c.args.view.now) (omega (arith, inside, c.requires.geometry.size)) c.if-not-read_area.ensures.area)
