use Rattle.std.proofs.Common.{◌-◌, ℕ, List, Contains, inl, inr, sym, subst, arith}
use Rattle.std.proofs.lemmas.Bool.{cases_eq}
use Rattle.ufs_model.specs.declared.claims.ClaimSource.TheVariants.{Pointer}
use Rattle.dg_claims.specs.Kept.{claimed_by}
use Rattle.dg_infer.proofs.TargetLaws.{source_within}
use Rattle.dg_infer.proofs.WatchLaws.{grows_both, grows_same, touched_grows}
use Rattle.dg_infer.proofs.pointers.watch_old.Goals as goal

pub loop-at-init : goal.loop-at-init
loop-at-init c = record {
  grows = grows_same c.args.watch.now;
  touched = λ a f lt has. absurd (omega (arith, lt));
  watched = λ before is. is;
}

pub loop-at-preserved : goal.loop-at-preserved
loop-at-preserved c =
    let so_far = c.loop-at.invariant in
    record {
      grows = grows_both c.args.watch.now c.loop-at.watch c.watch_run.new.watch so_far.grows c.watch_run.ensures.grows;
      touched = λ a f lt has. elim (cases_eq a c.loop-at.at) [
        | inl e ↦ c.in_ok-watch_run.ensures.touched f (subst (λ (xs : List ℕ). Contains xs f) (sym c.run.ensures.value) (subst (λ (n : ℕ). Contains (claimed_by c.args.claims.now.runs (Pointer c.args.fragment c.args.level n)) f) e has))
        | inr ne ↦ touched_grows c.loop-at.watch c.watch_run.new.watch (c.args.level - 1) f c.watch_run.ensures.grows (so_far.touched a f (omega (arith, lt, ne)) has)
      ];
      watched = λ before is. c.watch_run.ensures.watched before (so_far.watched before is);
    }

pub returns-clause-touched : goal.returns-clause-touched
returns-clause-touched c = λ a f has.
    let within = source_within c.args.g.now c.args.claims.now.geometry c.args.fragment c.args.level a c.requires.table (c.claims_inside.ensures.sources f (Pointer c.args.fragment c.args.level a) has) in
    c.loop-at.invariant.touched a f (omega (arith, within, c.loop-at-test.false, c.loop-at.auto.at-end)) has
