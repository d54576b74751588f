use Rattle.std.proofs.Common.{◌≡◌, ◌<◌, ◌≤◌, ℕ, false}
use Rattle.dg_model.specs.Marks.{is_marked}
use Rattle.dg_volume.proofs.queries.first_mark.Given as goal

abbrev pub invariant-loop-block : goal.invariant-loop-block
invariant-loop-block l = (c : ℕ) → l.from ≤ c → c < l.block → is_marked l.marks c ≡ false
