use Rattle.std.proofs.Common.{refl}
use Rattle.dg_pair.specs.Boundaries.{members_of, number_of, size_of, slots_of, HasNext}
use Rattle.dg_pair.specs.Calls.{copied}
use Rattle.dg_pair.proofs.BesideLemmas.{beside_slot}
use Rattle.dg_pair.proofs.CaseLemmas.{leaves_from, only_at}
use Rattle.dg_pair.proofs.CopyLemmas.{copy_falls, copy_keeps, copy_moves}
use Rattle.dg_pair.proofs.boundaries.Boundary.copy_slot.Goals as goal

pub returns-clause-moved : goal.returns-clause-moved
returns-clause-moved g c = rw (← c.replace.ensures.value) (λ copied x v filling told had.
    copy_moves c.replace.result (members_of c.copy_any-next.result.0) (size_of c.replace.result) x c.copy_any-next.new.buf v _ _ (rw c.replace.ensures.value c.requires.well) filling
    (c.copy_any-next.ensures.copied copied) c.copy_any-next.ensures.other_bytes (λ q some. c.copy_any-next.ensures.moved copied q x some filling) told had)

pub returns-clause-kept : goal.returns-clause-kept
returns-clause-kept g c = rw (← c.replace.ensures.value) (λ x v other had.
    copy_keeps c.copy_any-next.result.1 (size_of c.replace.result) (number_of c.replace.result) x v (members_of c.replace.result) (members_of c.copy_any-next.result.0) _ _ _ _
    c.copy_any-next.ensures.copied c.copy_any-next.ensures.falls c.copy_any-next.ensures.other_bytes c.copy_any-next.ensures.kept other had)

pub returns-clause-torn : goal.returns-clause-torn
returns-clause-torn g c = rw (← c.replace.ensures.value) c.copy_any-next.ensures.torn

pub returns-clause-leaves : goal.returns-clause-leaves
returns-clause-leaves g c = rw (← c.replace.ensures.value) (
    leaves_from g.R.Rack (copied c.copy_any-next.result.1 (members_of c.replace.result)) c.replace.result c.copy_any-next.result.0 _ _ (rw c.replace.ensures.value c.requires.well) c.copy_any-next.ensures.leaves
    (copy_falls c.copy_any-next.result.1 (members_of c.replace.result) (members_of c.copy_any-next.result.0) _ _ c.copy_any-next.ensures.copied c.copy_any-next.ensures.falls) c.copy_any-next.ensures.room
    (only_at g.R.Rack c.replace.result _ _ (rw c.replace.ensures.value c.requires.well) c.copy_any-next.ensures.made))

pub returns-clause-fell : goal.returns-clause-fell
returns-clause-fell g c = rw (← c.replace.ensures.value) c.copy_any-next.ensures.fell

pub returns-clause-good_fell : goal.returns-clause-good_fell
returns-clause-good_fell g c = rw (← c.replace.ensures.value) c.copy_any-next.ensures.good_fell

pub returns-clause-beside : goal.returns-clause-beside
returns-clause-beside g c = rw (← c.replace.ensures.value) (λ q.
    let next : HasNext (members_of c.replace.result) (slots_of c.replace.result) = rw c.replace.ensures.value c.requires.next in
    beside_slot (size_of c.replace.result) (slots_of c.replace.result) next.have (size_of c.replace.result) _ _ next.below refl (c.copy_any-next.ensures.torn q next.have next.filling))
