use Rattle.std.proofs.Common.{◌+◌, ◌<◌, ◌≤◌}
use Rattle.dg_infer.specs.Files.{Gains, IsSoleSource}
use Rattle.dg_infer.proofs.files.put_claimed.Given as goal

abbrev pub invariant-loop-i : goal.invariant-loop-i
invariant-loop-i l = record {
  gains : Gains l.fn.list.items l.list.items (λ f. (l.run.first ≤ f) × (f < l.run.first + l.i) × IsSoleSource l.claims l.source f);
}
