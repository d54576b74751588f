use Rattle.std.proofs.Common.{arith}
use Rattle.dg_pair.specs.Boundaries.{members_of, size_of, slots_of}
use Rattle.dg_pair.proofs.BesideLemmas.{beside_same}
use Rattle.dg_pair.proofs.BoundaryLemmas.{lost_is, holds_moves, read_moves, goods_are, same_goods}
use Rattle.dg_pair.proofs.CaseLemmas.{leaves_from, only_at}
use Rattle.dg_pair.proofs.boundaries.Boundary.read.Goals as goal

pub returns-clause-leaves : goal.returns-clause-leaves
returns-clause-leaves g c = rw (← c.replace.ensures.value) (
    leaves_from g.R.Rack (members_of c.replace.result) c.replace.result c.read_any-next.result.0 _ _ (rw c.replace.ensures.value c.requires.well) c.read_any-next.ensures.leaves c.read_any-next.ensures.falls c.read_any-next.ensures.room
    (only_at g.R.Rack c.replace.result _ _ (rw c.replace.ensures.value c.requires.well) c.read_any-next.ensures.made))

pub returns-clause-beside : goal.returns-clause-beside
returns-clause-beside g c = rw (← c.replace.ensures.value) (λ q. beside_same (size_of c.replace.result) (slots_of c.replace.result) _ _ (c.read_any-next.ensures.same q))

pub returns-clause-lost : goal.returns-clause-lost
returns-clause-lost g c = rw (← c.replace.ensures.value) (lost_is _ c.read_any-next.result.0 c.replace.result c.read_any-next.ensures.leaves.well c.read_any-next.ensures.leaves.number c.read_any-next.ensures.lost)

pub returns-clause-got : goal.returns-clause-got
returns-clause-got g c = rw (← c.replace.ensures.value) (λ got v holds told.
    read_moves c.replace.result c.read_any-next.result.0 (size_of c.replace.result) _ _ v _ _ (rw c.replace.ensures.value c.requires.well) c.read_any-next.ensures.kept (c.read_any-next.ensures.got got) holds told)

pub returns-clause-kept : goal.returns-clause-kept
returns-clause-kept g c = rw (← c.replace.ensures.value) (λ x v.
    holds_moves c.replace.result c.read_any-next.result.0 (size_of c.replace.result) x v _ _ (rw c.replace.ensures.value c.requires.well) (c.read_any-next.ensures.kept x v))

pub returns-clause-most : goal.returns-clause-most
returns-clause-most g c = rw (← c.replace.ensures.value) (
    let goods = goods_are c.replace.result (rw c.replace.ensures.value c.requires.well) in
    omega (arith, c.read_any-next.ensures.most))

pub returns-clause-once : goal.returns-clause-once
returns-clause-once g c = rw (← c.replace.ensures.value) (λ same.
    c.read_any-next.ensures.once (same_goods c.read_any-next.result.0 c.replace.result c.read_any-next.ensures.leaves.well (rw c.replace.ensures.value c.requires.well) c.read_any-next.ensures.leaves.number same))
