use Rattle.std.proofs.Common.{◌-◌, ℕ, List, Contains, inl, inr, sym, subst, arith}
use Rattle.std.proofs.lemmas.Bool.{cases_eq}
use Rattle.ufs_model.specs.declared.claims.ClaimSource.TheVariants.{Slot}
use Rattle.dg_claims.specs.Kept.{claimed_by}
use Rattle.dg_infer.proofs.TargetLaws.{slot_within}
use Rattle.dg_infer.proofs.WatchLaws.{grows_both, grows_same, touched_grows}
use Rattle.dg_infer.specs.Watches.{IsTouched}
use Rattle.dg_infer.proofs.inodes.watch_old.Goals as goal

pub loop-slot-init : goal.loop-slot-init
loop-slot-init c = record {
  grows = grows_same c.args.watch.now;
  touched = λ s f lt has. absurd (omega (arith, lt));
  watched = λ before is. is;
}

pub loop-slot-preserved : goal.loop-slot-preserved
loop-slot-preserved c =
    let so_far = c.loop-slot.invariant in
    record {
      grows = grows_both c.args.watch.now c.loop-slot.watch c.watch_run.new.watch so_far.grows c.watch_run.ensures.grows;
      touched = λ s f lt has. elim (cases_eq s c.loop-slot.slot) [
        | inl e ↦ subst (λ (n : ℕ). IsTouched c.watch_run.new.watch (n - 11) f) (sym e) (subst (λ (x : ℕ). IsTouched c.watch_run.new.watch x f) c.saturating_sub.ensures (c.in_ok-watch_run.ensures.touched f (subst (λ (xs : List ℕ). Contains xs f) (sym c.run.ensures.value) (subst (λ (n : ℕ). Contains (claimed_by c.args.claims.now.runs (Slot c.args.number n)) f) e has))))
        | inr ne ↦ touched_grows c.loop-slot.watch c.watch_run.new.watch (s - 11) f c.watch_run.ensures.grows (so_far.touched s f (omega (arith, lt, ne)) has)
      ];
      watched = λ before is. c.watch_run.ensures.watched before (so_far.watched before is);
    }

pub returns-clause-touched : goal.returns-clause-touched
returns-clause-touched c = λ s f has.
    let within = slot_within c.args.claims.now.geometry c.args.number s (c.claims_inside.ensures.sources f (Slot c.args.number s) has) in
    c.loop-slot.invariant.touched s f (omega (arith, within, c.loop-slot-test.false, c.loop-slot.auto.slot-end)) has
