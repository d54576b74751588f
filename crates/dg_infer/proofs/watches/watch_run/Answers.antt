use Rattle.std.proofs.Common.{◌+◌, ℕ, Option, Contains, inl, inr, sym, subst, arith}
use Rattle.std.proofs.lemmas.Bool.{cases_eq}
use Rattle.dg_claims.specs.Runs.{run_fragments}
use Rattle.dg_claims.specs.declared.runs.Run.{Run}
use Rattle.dg_infer.proofs.ListLaws.{contains_from}
use Rattle.dg_infer.proofs.WatchLaws.{grows_both, grows_same, touched_grows}
use Rattle.dg_infer.specs.Watches.{IsTouched}
use Rattle.dg_infer.proofs.watches.watch_run.Goals as goal

pub loop-i-init : goal.loop-i-init
loop-i-init c = record {
  grows = grows_same c.args.watch.now;
  touched = λ f low high. absurd (omega (arith, low, high));
  watched = λ before is. is;
}

pub loop-i-preserved : goal.loop-i-preserved
loop-i-preserved c =
    let so_far = c.loop-i.invariant in
    record {
      grows = grows_both c.args.watch.now c.loop-i.watch c.touch.new.self so_far.grows c.touch.ensures.grows;
      touched = λ f low high. elim (cases_eq f (c.in-Some.claimed.first + c.loop-i.i)) [
        | inl e ↦ subst (λ (x : ℕ). IsTouched c.touch.new.self c.args.level x) (sym e) (subst (λ (x : ℕ). IsTouched c.touch.new.self c.args.level (c.in-Some.claimed.first + x)) c.from.ensures c.in_ok-touch.ensures.touched)
        | inr ne ↦ touched_grows c.loop-i.watch c.touch.new.self c.args.level f c.touch.ensures.grows (so_far.touched f low (omega (arith, high, ne)))
      ];
      watched = λ before is. c.touch.ensures.watched before (so_far.watched before is);
    }

pub returns-clause-touched : goal.returns-clause-touched
returns-clause-touched c = λ f has.
    let within = contains_from c.in-Some.claimed.count c.in-Some.claimed.first f (subst (λ (r : Option Run). Contains (run_fragments r) f) c.in-Some.is has) in
    c.loop-i.invariant.touched f (within.0) (omega (arith, within.1, c.loop-i-test.false))
