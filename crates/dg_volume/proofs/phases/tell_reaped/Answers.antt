use Rattle.std.proofs.Common.{◌≡◌, ◌∙◌, ℕ, inl, inr, sym, subst, arith}
use Rattle.std.specs.Prelude.{slice_index_or, slice_set}
use Rattle.std.proofs.lemmas.Bool.{cases_lt}
use Rattle.dg_infer.specs.Meanings.{KeptInference, StandsFor}
use Rattle.dg_model.specs.Blocks.{zeros}
use Rattle.dg_volume.specs.Phases.{CanReap}
use Rattle.dg_volume.proofs.phases.tell_reaped.Goals as goal

pub loop-place-preserved : goal.loop-place-preserved
loop-place-preserved c =
    let before = c.loop-place.invariant in (
      c.reaped.ensures.same ∙ before.0,
      λ k low. elim (cases_lt k c.loop-place.place) [
        | inl less ↦ before.1 k less
        | inr past ↦
            let at : k ≡ c.loop-place.place = omega (arith, low, past) in
            subst (λ (j : ℕ). CanReap c.args.inference.now (slice_index_or c.args.blocks.now j 0)) (sym at)
            (subst (λ (kept : KeptInference). CanReap kept (slice_index_or c.args.blocks.now c.loop-place.place 0)) before.0
            (λ table V fits held dead.
            subst (λ (kept : KeptInference). StandsFor kept (slice_set V (slice_index_or c.args.blocks.now c.loop-place.place 0) (zeros c.loop-place.inference.l))) c.reaped.ensures.same
            (c.reaped.ensures.stands table V fits held dead)))
      ],
    )
