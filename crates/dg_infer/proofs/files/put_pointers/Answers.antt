use Rattle.std.proofs.Common.{◌≡◌, ◌<◌, ◌∙◌, ℕ, Some, Option, sym, subst, arith}
use Rattle.ufs_model.specs.declared.claims.ClaimSource.TheVariants.{Pointer}
use Rattle.ufs_model.specs.declared.geometries.Geometry.{Geometry}
use Rattle.dg_claims.specs.Tables.{IsSource}
use Rattle.dg_infer.proofs.FileLaws.{gains_as, gains_next, gains_none, no_source, pointer_below}
use Rattle.dg_infer.specs.Files.{IsSoleSource, IsOfPointer}
use Rattle.dg_infer.proofs.files.put_pointers.Goals as goal

pub returns-in_default : goal.returns-in_default
returns-in_default c =
    gains_none c.args.list.now.items (IsOfPointer c.args.claims.now c.args.fragment c.args.level)
    (λ f h. no_source c.args.claims.now.geometry (Pointer c.args.fragment c.args.level (h.0)) (sym c.in_default.ensures.value) (c.claims_inside.ensures.sources f (Pointer c.args.fragment c.args.level (h.0)) h.1.claim))

pub loop-at-preserved : goal.loop-at-preserved
loop-at-preserved c = record {
  gains = gains_next c.args.list.now.items c.loop-at.list.items c.put_claimed.new.list.items c.loop-at.at
      (λ at f. IsSoleSource c.args.claims.now (Pointer c.args.fragment c.args.level at) f) c.loop-at.invariant.gains c.in_ok-put_claimed.ensures;
}

pub returns : goal.returns
returns c =
    let same : c.args.claims.now.geometry ≡ Some c.in-Some.g = sym c.geometry.ensures.value ∙ c.in-Some.is in
    gains_as c.args.list.now.items c.loop-at.list.items
    (λ f. (at : ℕ) × (at < c.loop-at.at) × IsSoleSource c.args.claims.now (Pointer c.args.fragment c.args.level at) f)
    (IsOfPointer c.args.claims.now c.args.fragment c.args.level) c.loop-at.invariant.gains
    (λ f h. (h.0, h.2))
    (λ f h.
    let low = pointer_below c.in-Some.g c.args.fragment c.args.level (h.0) (subst (λ (g : Option Geometry). IsSource g (Pointer c.args.fragment c.args.level (h.0))) same
    (c.claims_inside.ensures.sources f (Pointer c.args.fragment c.args.level (h.0)) h.1.claim)) in
    (h.0, omega (arith, low, c.loop-at-test.false, c.loop-at.auto.at-end), h.1))
