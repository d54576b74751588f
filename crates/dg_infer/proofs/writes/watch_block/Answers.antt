use Rattle.std.proofs.Common.{ℕ, inl, inr, sym, subst, arith}
use Rattle.std.proofs.lemmas.Bool.{cases_eq}
use Rattle.dg_claims.specs.Kept.{claimed_by}
use Rattle.dg_infer.proofs.WatchLaws.{touched_grows, watched_first}
use Rattle.dg_infer.specs.Watches.{IsTouched, IsWatched}
use Rattle.dg_infer.proofs.writes.watch_block.Goals as goal

pub loop-level-init : goal.loop-level-init
loop-level-init c = record {
  touched = λ k low high. absurd (omega (arith, low, high));
  watched = subst (λ w. IsWatched (claimed_by c.args.claims.now.runs) (claimed_by c.args.claims.now.runs) w) (sym c.new-watch.ensures) (watched_first (claimed_by c.args.claims.now.runs));
}

pub loop-level-preserved : goal.loop-level-preserved
loop-level-preserved c =
    let so_far = c.loop-level.invariant in
    record {
      touched = λ k low high. elim (cases_eq k c.loop-level.level) [
        | inl e ↦ subst (λ (n : ℕ). IsTouched c.touch.new.self n c.args.block) (sym e) c.in_ok-touch.ensures.touched
        | inr ne ↦ touched_grows c.loop-level.watch c.touch.new.self k c.args.block c.touch.ensures.grows (so_far.touched k low (omega (arith, high, ne)))
      ];
      watched = c.touch.ensures.watched (claimed_by c.args.claims.now.runs) so_far.watched;
    }

pub returns-clause-touched : goal.returns-clause-touched
returns-clause-touched c = λ k low high. c.loop-level.invariant.touched k low (omega (arith, high, c.loop-level-test.false))
