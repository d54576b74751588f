use Rattle.std.proofs.Common.{ℕ, length}
use Rattle.dg_io.specs.Told.{Patched, Torn}
use Rattle.dg_label.specs.Pages.{LeavesFallen}
use Rattle.dg_model.specs.Saves.{body_place}
use Rattle.dg_store.specs.Stores.{shape_of}
use Rattle.dg_label.specs.Passes.{Passes}
use Rattle.dg_label.proofs.passes.write_bodies.Given as goal

abbrev pub invariant-loop-member : goal.invariant-loop-member
invariant-loop-member g l = record {
  passes : Passes g.R.Rack l.member (λ (q : ℕ). Patched (body_place (shape_of l.fn.store)) l.body) l.fn.store l.store;
  fallen : LeavesFallen g.R.Rack (λ (q : ℕ). Torn (body_place (shape_of l.fn.store)) (length l.body)) l.fn.store l.store;
}
