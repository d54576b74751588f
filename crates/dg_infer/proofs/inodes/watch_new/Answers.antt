use Rattle.std.proofs.Common.{◌-◌, ℕ, List, Contains, inl, inr, sym, subst, arith}
use Rattle.std.proofs.lemmas.Bool.{cases_eq}
use Rattle.ufs_model.specs.Claims.{slot_fragments}
use Rattle.dg_infer.proofs.ListLaws.{below_cases, contains_none}
use Rattle.dg_infer.proofs.TargetLaws.{past_slots}
use Rattle.dg_infer.proofs.WatchLaws.{grows_both, grows_same, touched_grows}
use Rattle.dg_infer.specs.Watches.{IsTouched}
use Rattle.dg_infer.proofs.inodes.watch_new.Goals as goal

pub loop-slot-init : goal.loop-slot-init
loop-slot-init c = record {
  grows = grows_same c.args.watch.now;
  touched = λ s f lt has. absurd (omega (arith, lt));
  watched = λ before is. is;
}

pub loop-slot-preserved : goal.loop-slot-preserved
loop-slot-preserved c =
    let so_far = c.loop-slot.invariant in
    record {
      grows = grows_both c.args.watch.now c.loop-slot.watch c.watch_run.new.watch so_far.grows c.watch_run.ensures.grows;
      touched = λ s f lt has. elim (cases_eq s c.loop-slot.slot) [
        | inl e ↦ subst (λ (n : ℕ). IsTouched c.watch_run.new.watch (n - 11) f) (sym e) (subst (λ (x : ℕ). IsTouched c.watch_run.new.watch x f) c.saturating_sub.ensures (c.in_ok-watch_run.ensures.touched f (subst (λ (xs : List ℕ). Contains xs f) (sym c.slot_run.ensures.value) (subst (λ (n : ℕ). Contains (slot_fragments c.args.g.now c.args.inode.now n) f) e has))))
        | inr ne ↦ touched_grows c.loop-slot.watch c.watch_run.new.watch (s - 11) f c.watch_run.ensures.grows (so_far.touched s f (omega (arith, lt, ne)) has)
      ];
      watched = λ before is. c.watch_run.ensures.watched before (so_far.watched before is);
    }

pub returns-clause-touched : goal.returns-clause-touched
returns-clause-touched c = λ s f has. elim (below_cases s 15) [
  | inl lt ↦ c.loop-slot.invariant.touched s f (omega (arith, lt, c.loop-slot-test.false, c.loop-slot.auto.slot-end)) has
  | inr le ↦ absurd (contains_none f (subst (λ (xs : List ℕ). Contains xs f) (past_slots c.args.g.now c.args.inode.now s le) has))
]
