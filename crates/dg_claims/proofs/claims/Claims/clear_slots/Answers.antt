use Rattle.std.proofs.Common.{◌≡◌, ◌∙◌, ◌+◌, arith, refl, subst}
use Rattle.dg_claims.proofs.RangeLaws.{bare_slots, slot_up}
use Rattle.dg_claims.proofs.SourceLaws.{sets_more, slot_apart}
use Rattle.dg_claims.specs.Kept.{HasNone, KeptClaims, SetsFirst}
use Rattle.dg_claims.specs.Places.{slot_place}
use Rattle.dg_claims.proofs.claims.Claims.clear_slots.Goals as goal

pub has_any-requires : goal.has_any-requires
has_any-requires c = slot_up c.args.number 0 14 (omega arith)

pub returns-then-not-has_any-clause-cleared : goal.returns-then-not-has_any-clause-cleared
returns-then-not-has_any-clause-cleared c =
    subst (λ (k : KeptClaims). SetsFirst k.runs k.runs (slot_place c.args.number) HasNone 15) c.self.view_is
    (bare_slots c.self.inside.runs c.args.number _ c.has_any.ensures c.if-not-has_any.true)

pub returns-clause-cleared : goal.returns-clause-cleared
returns-clause-cleared c =
    let last : c.loop-slot.slot ≡ 15 = omega (arith, c.loop-slot-test.false, c.loop-slot.auto.slot-end) in
    subst (λ n. SetsFirst c.args.self.now.runs c.loop-slot.self.runs (slot_place c.args.number) HasNone n) last c.loop-slot.invariant.cleared

pub loop-slot-preserved : goal.loop-slot-preserved
loop-slot-preserved c = record {
  geometry = c.clear.ensures.geometry ∙ c.loop-slot.invariant.geometry;
  cleared = sets_more c.args.self.now.runs c.loop-slot.self.runs c.clear.new.self.runs (slot_place c.args.number) HasNone c.loop-slot.slot (c.loop-slot.slot + 1) refl (slot_apart c.args.number)
      c.loop-slot.invariant.cleared c.clear.ensures.none c.clear.ensures.others;
}
