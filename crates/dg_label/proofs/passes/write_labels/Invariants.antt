use Rattle.std.proofs.Common.{◌≡◌, ◌<◌, ℕ, false, true}
use Rattle.dg_io.specs.Told.{Patched}
use Rattle.dg_model.specs.Members.{is_good}
use Rattle.dg_model.specs.Saves.{label_bytes}
use Rattle.dg_store.specs.Leaves.{HasWritten}
use Rattle.dg_store.specs.Stores.{members_of, rack_of, shape_of}
use Rattle.dg_label.specs.Pages.{LeavesFallen, PageFails, numbered, page_of}
use Rattle.dg_label.specs.Passes.{Passes}
use Rattle.dg_label.proofs.passes.write_labels.Given as goal

abbrev pub invariant-loop-member : goal.invariant-loop-member
invariant-loop-member g l = record {
  passes : Passes g.R.Rack l.member (λ q. Patched 0 (label_bytes (numbered (shape_of l.fn.store) l.kept q))) l.fn.store l.store;
  fallen : LeavesFallen g.R.Rack (λ (q : ℕ). PageFails (g.R.Rack.steady (rack_of l.fn.store)) (page_of (shape_of l.fn.store) l.kept q)) l.fn.store l.store;
  some : l.some ≡ true → (q : ℕ) × (q < l.member) × (is_good (members_of l.store q) ≡ true);
  none : l.some ≡ false → (q : ℕ) → q < l.member → is_good (members_of l.store q) ≡ false;
  wrote : (q : ℕ) → q < l.member → is_good (members_of l.fn.store q) ≡ true → HasWritten g.R.Rack l.fn.store l.store;
}
