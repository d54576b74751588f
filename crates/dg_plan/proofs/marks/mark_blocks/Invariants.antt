use Rattle.std.proofs.Common.{◌≡◌, ◌<◌, ◌≤◌, ℕ, get_or, length}
use Rattle.dg_model.specs.Wants.{want_of}
use Rattle.dg_plan.specs.Marks.{IsMarkBy}
use Rattle.dg_plan.specs.Placings.{homes_in}
use Rattle.dg_plan.proofs.marks.mark_blocks.Given as goal

abbrev pub invariant-loop-block : goal.invariant-loop-block
invariant-loop-block l = record {
  size : length l.marks.items ≡ length l.fn.marks.items;
  marked : (b : ℕ) → b < l.block → IsMarkBy l.shape (homes_in l.homes.entries) b (want_of l.wants b) (get_or l.fn.marks.items b 0) (get_or l.marks.items b 0);
  rest : (b : ℕ) → l.block ≤ b → get_or l.marks.items b 0 ≡ get_or l.fn.marks.items b 0;
}
