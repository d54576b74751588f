use Rattle.std.proofs.Common.{◌≡◌, ◌+◌, ◌≤◌, ℕ, false, inl, inr, refl, ◌∙◌, ap, subst, arith}
use Rattle.std.specs.Prelude.{nat_lt}
use Rattle.std.proofs.lemmas.Bool.{le-ltb}
use Rattle.dg_model.specs.declared.shapes.Shape.{Shape}
use Rattle.dg_model.specs.declared.members.MemberState.TheVariants.{Filling}
use Rattle.dg_store.specs.ReadLaws.{stays_both}
use Rattle.dg_store.specs.Stores.{members_of, shape_of}
use Rattle.dg_rebuild.proofs.Answers.{breaks, copied_stands, fell_off, few_copies, not_broken, stops, stops_as, whole_as}
use Rattle.dg_rebuild.proofs.Steps.{went_both, went_none}
use Rattle.dg_rebuild.proofs.rebuilds.refill.Goals as goal

-- within a limit of 0 no more copies are to be made
no_more : (done limit : ℕ) → limit ≡ 0 → nat_lt done limit ≡ false
no_more done limit none = le-ltb done limit (omega (arith, none))

pub loop-slot-init : goal.loop-slot-init
loop-slot-init g c = record {
  went = went_none g.R.Rack c.args.dead.now c.args.boundary c.args.store.now c.args.have c.args.reaped.now.items c.requires.have c.requires.sound
      c.requires.filled;
  few = omega arith;
  size = c.requires.size;
  still = λ none. refl;
}

pub overflow_add-done : goal.overflow_add-done
overflow_add-done g c =
    let arm = c.in-Ok-Done in
    let few = few_copies c.loop-slot.done c.args.limit arm.copies c.loop-slot.invariant.few (arm.ensures.most arm.copies arm.field-0-is) in
    let limit = c.ranges.limit in
    omega (arith, few, limit)

pub loop-slot-preserved : goal.loop-slot-preserved
loop-slot-preserved g c =
    let arm = c.in-Ok-Done in
    let old = c.loop-slot.invariant in
    record {
      went = went_both g.R.Rack c.args.dead.now c.args.boundary c.args.store.now c.loop-slot.store c.refill_slot.new.store c.args.have c.loop-slot.slot
          (c.loop-slot.slot + 1) c.loop-slot.done arm.copies (c.loop-slot.done + arm.copies) c.args.reaped.now.items c.loop-slot.reaped.items
          c.refill_slot.new.reaped.items refl old.went (arm.ensures.done arm.copies arm.field-0-is);
      few = few_copies c.loop-slot.done c.args.limit arm.copies old.few (arm.ensures.most arm.copies arm.field-0-is);
      size = c.refill_slot.ensures.size ∙ old.size;
      still = λ none. c.refill_slot.ensures.still (no_more c.loop-slot.done c.args.limit none) ∙ old.still none;
    }

pub returns-in-Ok-Kept-clause-copied : goal.returns-in-Ok-Kept-clause-copied
returns-in-Ok-Kept-clause-copied g c d l e =
    let kept = c.in-Ok-Kept.ensures.kept c.in-Ok-Kept.field-0-is in
    let used = c.in-Ok-Kept.ensures.used (inl c.in-Ok-Kept.field-0-is) in
    let k = ap (λ (sh : Shape). sh.k) c.shape.ensures in
    stops_as g.R.Rack c.args.dead.now c.args.boundary c.args.store.now c.loop-slot.store c.refill_slot.new.store c.args.have c.loop-slot.slot c.args.limit
    c.loop-slot.done c.used_from-left.result d l c.args.reaped.now.items c.loop-slot.reaped.items c.refill_slot.new.reaped.items c.requires.sound.table kept.1
    (c.in-Ok-Kept.ensures.none (inl c.in-Ok-Kept.field-0-is)) c.loop-slot.invariant.went (omega (arith, k, c.loop-slot-test.true)) c.loop-slot.invariant.few
    kept.0 used.0 used.1 c.used_from-left.ensures e

pub returns-in-Ok-Kept-clause-lost : goal.returns-in-Ok-Kept-clause-lost
returns-in-Ok-Kept-clause-lost g c =
    let kept = c.in-Ok-Kept.ensures.kept c.in-Ok-Kept.field-0-is in
    let used = c.in-Ok-Kept.ensures.used (inl c.in-Ok-Kept.field-0-is) in
    let k = ap (λ (sh : Shape). sh.k) c.shape.ensures in
    copied_stands g.R.Rack c.args.dead.now c.args.boundary c.args.store.now c.refill_slot.new.store c.args.limit c.loop-slot.done c.used_from-left.result
    c.args.reaped.now.items c.refill_slot.new.reaped.items
    (stops g.R.Rack c.args.dead.now c.args.boundary c.args.store.now c.loop-slot.store c.refill_slot.new.store c.args.have c.loop-slot.slot c.args.limit
    c.loop-slot.done c.used_from-left.result c.args.reaped.now.items c.loop-slot.reaped.items c.refill_slot.new.reaped.items c.requires.sound.table kept.1
    (c.in-Ok-Kept.ensures.none (inl c.in-Ok-Kept.field-0-is)) c.loop-slot.invariant.went (omega (arith, k, c.loop-slot-test.true)) c.loop-slot.invariant.few
    kept.0 used.0 used.1 c.used_from-left.ensures)

pub returns-in-Ok-Lost-clause-stays : goal.returns-in-Ok-Lost-clause-stays
returns-in-Ok-Lost-clause-stays g c =
    stays_both g.R.Rack _ _ _ c.loop-slot.invariant.went.slots.stays (c.in-Ok-Lost.ensures.stood (inl c.in-Ok-Lost.field-0-is)).stays

pub returns-in-Ok-Lost-clause-broken : goal.returns-in-Ok-Lost-clause-broken
returns-in-Ok-Lost-clause-broken g c why =
    let k = ap (λ (sh : Shape). sh.k) c.shape.ensures in
    breaks g.R.Rack c.args.dead.now c.args.boundary c.args.store.now c.loop-slot.store c.refill_slot.new.store c.args.have c.loop-slot.slot c.loop-slot.done
    c.args.reaped.now.items c.loop-slot.reaped.items c.refill_slot.new.reaped.items c.requires.sound.table (c.in-Ok-Lost.ensures.none (inr (inl c.in-Ok-Lost.field-0-is)))
    c.loop-slot.invariant.went (omega (arith, k, c.loop-slot-test.true)) (c.in-Ok-Lost.ensures.used (inr (inl c.in-Ok-Lost.field-0-is)))
    (c.in-Ok-Lost.ensures.stood (inl c.in-Ok-Lost.field-0-is))

pub returns-in-Ok-Fell-clause-stays : goal.returns-in-Ok-Fell-clause-stays
returns-in-Ok-Fell-clause-stays g c =
    stays_both g.R.Rack _ _ _ c.loop-slot.invariant.went.slots.stays (c.in-Ok-Fell.ensures.stood (inr c.in-Ok-Fell.field-0-is)).stays

pub returns-in-Ok-Fell-clause-failed : goal.returns-in-Ok-Fell-clause-failed
returns-in-Ok-Fell-clause-failed g c is =
    fell_off g.R.Rack c.args.dead.now c.args.boundary c.args.store.now c.loop-slot.store c.refill_slot.new.store c.args.have c.loop-slot.slot c.loop-slot.done
    c.args.reaped.now.items c.loop-slot.reaped.items c.loop-slot.invariant.went (c.in-Ok-Fell.ensures.stood (inr c.in-Ok-Fell.field-0-is))
    (c.in-Ok-Fell.ensures.fault c.in-Ok-Fell.field-0-is)

pub returns-in-Ok-Fell-clause-broken : goal.returns-in-Ok-Fell-clause-broken
returns-in-Ok-Fell-clause-broken g c why =
    let k = ap (λ (sh : Shape). sh.k) c.shape.ensures in
    breaks g.R.Rack c.args.dead.now c.args.boundary c.args.store.now c.loop-slot.store c.refill_slot.new.store c.args.have c.loop-slot.slot c.loop-slot.done
    c.args.reaped.now.items c.loop-slot.reaped.items c.refill_slot.new.reaped.items c.requires.sound.table (c.in-Ok-Fell.ensures.none (inr (inr c.in-Ok-Fell.field-0-is)))
    c.loop-slot.invariant.went (omega (arith, k, c.loop-slot-test.true)) (c.in-Ok-Fell.ensures.used (inr (inr c.in-Ok-Fell.field-0-is)))
    (c.in-Ok-Fell.ensures.stood (inr c.in-Ok-Fell.field-0-is))

pub complete-requires-clause-all : goal.complete-requires-clause-all
complete-requires-clause-all g c =
    let went = c.loop-slot.invariant.went in
    let k = ap (λ (sh : Shape). sh.k) c.shape.ensures in
    let same = ap (λ (sh : Shape). sh.k) went.slots.stays.shape in
    let start : c.args.have ≤ c.shape.result.now.k + 1 = omega (arith, k, c.requires.have) in
    let end : c.loop-slot.slot ≡ (shape_of c.loop-slot.store).k + 1 =
    omega (arith, k, same, c.loop-slot-test.false, c.loop-slot.auto.slot-end start)
    in
    record {
      member = went.members.q;
      refilled = (went.members.was.0, subst (λ (n : ℕ). members_of c.loop-slot.store went.members.q ≡ Filling n) end went.members.left.member);
    }

pub returns-clause-copied : goal.returns-clause-copied
returns-clause-copied g c d l e =
    let did = c.complete.ensures in
    let k = ap (λ (sh : Shape). sh.k) c.shape.ensures in
    let start : c.args.have ≤ c.shape.result.now.k + 1 = omega (arith, k, c.requires.have) in
    let end : c.loop-slot.slot ≡ (shape_of c.args.store.now).k + 1 = omega (arith, k, c.loop-slot-test.false, c.loop-slot.auto.slot-end start) in
    whole_as g.R.Rack c.args.dead.now c.args.boundary c.args.store.now c.loop-slot.store c.complete.new.self c.args.have c.loop-slot.slot c.args.limit
    c.loop-slot.done d l c.args.reaped.now.items c.loop-slot.reaped.items c.requires.sound.table end c.loop-slot.invariant.few c.loop-slot.invariant.went did.sound did.stays did.rack
    did.table did.completed did.stands e

pub returns-clause-lost : goal.returns-clause-lost
returns-clause-lost g c =
    let did = c.complete.ensures in
    let k = ap (λ (sh : Shape). sh.k) c.shape.ensures in
    let start : c.args.have ≤ c.shape.result.now.k + 1 = omega (arith, k, c.requires.have) in
    let end : c.loop-slot.slot ≡ (shape_of c.args.store.now).k + 1 = omega (arith, k, c.loop-slot-test.false, c.loop-slot.auto.slot-end start) in
    copied_stands g.R.Rack c.args.dead.now c.args.boundary c.args.store.now c.complete.new.self c.args.limit c.loop-slot.done 0
    c.args.reaped.now.items c.loop-slot.reaped.items
    (whole_as g.R.Rack c.args.dead.now c.args.boundary c.args.store.now c.loop-slot.store c.complete.new.self c.args.have c.loop-slot.slot c.args.limit
    c.loop-slot.done c.loop-slot.done 0 c.args.reaped.now.items c.loop-slot.reaped.items c.requires.sound.table end c.loop-slot.invariant.few c.loop-slot.invariant.went did.sound
    did.stays did.rack did.table did.completed did.stands refl)

pub returns-clause-broken : goal.returns-clause-broken
returns-clause-broken g c why = not_broken c.loop-slot.done 0 c.args.boundary why
