use Rattle.std.proofs.Common.{◌≡◌, ◌<◌, ◌≤◌, ◌||◌, ℕ, length}
use Rattle.dg_model.specs.Marks.{is_marked}
use Rattle.dg_model.specs.Sites.{is_gone}
use Rattle.dg_store.specs.Stores.{members_of, table_of}
use Rattle.dg_volume.proofs.left_lists.mark_gone.Given as goal

abbrev pub invariant-loop-block : goal.invariant-loop-block
invariant-loop-block g l = record {
  size : length l.marks.items ≡ length l.fn.marks.items;
  marked : (b : ℕ) → b < l.block → is_marked l.marks.items b ≡ (is_marked l.fn.marks.items b || is_gone (table_of l.store) (members_of l.store) b);
  rest : (b : ℕ) → l.block ≤ b → is_marked l.marks.items b ≡ is_marked l.fn.marks.items b;
}
