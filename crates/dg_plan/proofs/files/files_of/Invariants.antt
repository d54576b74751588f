use Rattle.std.proofs.Common.{◌≡◌, ◌+◌, ◌≤◌, ℕ, drop, length}
use Rattle.dg_plan.specs.Files.{blocks_at, files_with}
use Rattle.dg_plan.proofs.files.files_of.Given as goal

abbrev pub invariant-loop-end : goal.invariant-loop-end
invariant-loop-end l = record {
  within : l.end ≤ length l.wants;
  entries : l.files.entries ≡ files_with (drop l.end l.wants);
  counts : (i : ℕ) → blocks_at l.files.entries i + l.end ≤ length l.wants;
}

abbrev pub decreases-loop-end : goal.decreases-loop-end
decreases-loop-end l = l.end
