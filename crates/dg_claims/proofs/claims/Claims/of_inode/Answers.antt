use Rattle.std.proofs.Common.{◌≡◌, ◌∙◌, ◌+◌, ap, arith, refl, subst}
use Rattle.ufs_model.specs.Claims.{slot_fragments}
use Rattle.dg_claims.proofs.SourceLaws.{all_slots, next_bare, other_slots, sets_cut, sets_more, sets_over, slot_apart}
use Rattle.dg_claims.specs.Kept.{HasFragments, SetsFirst}
use Rattle.dg_claims.specs.Places.{slot_place}
use Rattle.dg_claims.specs.Runs.{run_fragments}
use Rattle.dg_claims.proofs.claims.Claims.of_inode.Goals as goal

pub set-requires-clause-none : goal.set-requires-clause-none
set-requires-clause-none c =
    next_bare c.args.self.now.runs c.clear_slots.new.self.runs c.loop-slot.self.runs (slot_place c.args.number) (HasFragments (slot_fragments c.in-Some.g c.args.inode.now)) c.loop-slot.slot 15
    (slot_apart c.args.number) c.clear_slots.ensures.cleared c.loop-slot.invariant.slots c.loop-slot-test.true

pub returns-in_err-set-clause-others : goal.returns-in_err-set-clause-others
returns-in_err-set-clause-others c =
    other_slots c.args.number c.args.self.now.runs c.set.new.self.runs
    (sets_cut c.args.self.now.runs c.clear_slots.new.self.runs c.loop-slot.self.runs c.set.new.self.runs (slot_place c.args.number) (HasFragments (slot_fragments c.in-Some.g c.args.inode.now))
    c.loop-slot.slot 15 c.clear_slots.ensures.cleared c.loop-slot.invariant.slots c.set.ensures.others)

pub returns-clause-slots : goal.returns-clause-slots
returns-clause-slots c =
    let last : c.loop-slot.slot ≡ 15 = omega (arith, c.loop-slot-test.false, c.loop-slot.auto.slot-end) in
    all_slots c.args.self.now c.in-Some.g c.args.number c.args.inode.now c.loop-slot.self.runs c.in-Some.ensures.sources c.in-Some.ensures.value c.in-Some.ensures.number
    (sets_over c.args.self.now.runs c.clear_slots.new.self.runs c.loop-slot.self.runs (slot_place c.args.number) (HasFragments (slot_fragments c.in-Some.g c.args.inode.now)) 15 c.clear_slots.ensures.cleared
    (subst (λ n. SetsFirst c.clear_slots.new.self.runs c.loop-slot.self.runs (slot_place c.args.number) (HasFragments (slot_fragments c.in-Some.g c.args.inode.now)) n) last c.loop-slot.invariant.slots))

pub returns-clause-others : goal.returns-clause-others
returns-clause-others c =
    other_slots c.args.number c.args.self.now.runs c.loop-slot.self.runs
    (λ place off. c.loop-slot.invariant.slots.others place (λ k lt e. off k e) ∙ c.clear_slots.ensures.cleared.others place (λ k lt e. off k e))

pub loop-slot-preserved : goal.loop-slot-preserved
loop-slot-preserved c = record {
  geometry = c.in_ok-set.ensures.geometry ∙ c.loop-slot.invariant.geometry;
  slots = sets_more c.clear_slots.new.self.runs c.loop-slot.self.runs c.set.new.self.runs (slot_place c.args.number) (HasFragments (slot_fragments c.in-Some.g c.args.inode.now)) c.loop-slot.slot
      (c.loop-slot.slot + 1) refl (slot_apart c.args.number) c.loop-slot.invariant.slots (ap run_fragments c.in_ok-set.ensures.set ∙ c.slot_run.ensures.value) c.in_ok-set.ensures.others;
}
