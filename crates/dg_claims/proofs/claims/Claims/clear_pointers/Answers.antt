use Rattle.std.proofs.Common.{◌≡◌, ◌∙◌, ◌+◌, ◌/◌, arith, refl, subst}
use Rattle.dg_claims.proofs.RangeLaws.{bare_pointers, pointer_up}
use Rattle.dg_claims.proofs.SourceLaws.{pointer_apart, sets_more}
use Rattle.dg_claims.specs.Kept.{HasNone, KeptClaims, SetsFirst}
use Rattle.dg_claims.specs.Places.{pointer_place}
use Rattle.dg_claims.proofs.claims.Claims.clear_pointers.Goals as goal

pub has_any-requires : goal.has_any-requires
has_any-requires c = pointer_up c.args.fragment c.args.level 0 65535 (omega arith)

pub returns-then-not-has_any-clause-cleared : goal.returns-then-not-has_any-clause-cleared
returns-then-not-has_any-clause-cleared c =
    subst (λ (k : KeptClaims). SetsFirst k.runs k.runs (pointer_place c.args.fragment c.args.level) HasNone (c.args.g.now.fsize / 4)) c.self.view_is
    (bare_pointers c.args.g.now c.self.inside.runs c.args.fragment c.args.level _ c.requires c.has_any.ensures c.if-not-has_any.true)

pub returns-clause-cleared : goal.returns-clause-cleared
returns-clause-cleared c =
    let last : c.loop-at.at ≡ c.args.g.now.fsize / 4 = omega (arith, c.loop-at-test.false, c.loop-at.auto.at-end) in
    subst (λ n. SetsFirst c.args.self.now.runs c.loop-at.self.runs (pointer_place c.args.fragment c.args.level) HasNone n) last c.loop-at.invariant.cleared

pub loop-at-preserved : goal.loop-at-preserved
loop-at-preserved c = record {
  geometry = c.clear.ensures.geometry ∙ c.loop-at.invariant.geometry;
  cleared = sets_more c.args.self.now.runs c.loop-at.self.runs c.clear.new.self.runs (pointer_place c.args.fragment c.args.level) HasNone c.loop-at.at (c.loop-at.at + 1) refl
      (pointer_apart c.args.fragment c.args.level) c.loop-at.invariant.cleared c.clear.ensures.none c.clear.ensures.others;
}
