use Rattle.std.proofs.Common.{◌≡◌, ◌<◌, ◌≤◌, ℕ}
use Rattle.dg_model.specs.Wants.{want_of}
use Rattle.dg_plan.proofs.files.run_start.Given as goal

abbrev pub invariant-loop-first : goal.invariant-loop-first
invariant-loop-first l = record {
  before : l.first < l.end;
  same : (k : ℕ) → l.first ≤ k → k < l.end → want_of l.wants k ≡ want_of l.wants l.first;
}

abbrev pub decreases-loop-first : goal.decreases-loop-first
decreases-loop-first l = l.first
