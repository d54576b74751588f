-- What calls leave of volumes of which `regroup` may be called.
use Rattle.std.proofs.Common.{◌≤◌, ℕ, ap, arith}
use Rattle.dg_io.specs.declared.outside.Rack.{Ghosts}
use Rattle.dg_model.specs.declared.shapes.Shape.{Shape}
use Rattle.dg_volume.specs.Regroups.{AnswersRegroup, GoesOn, HasBoundaries, TakesOut}
use Rattle.dg_volume.specs.Volumes.{Leaves, any_phase, rack_of, shape_of}
use Rattle.dg_volume.specs.declared.phases.AnyPhase.{AnyPhase}
use Rattle.dg_volume.specs.declared.phases.InPhase as phases
use Rattle.dg_volume.specs.declared.regroups.RegroupAnswer.{RegroupAnswer}
use Rattle.dg_volume.specs.declared.regroups.RegroupAnswer.TheVariants.{Regrouped, TooFew, Whole}
use Rattle.dg_volume.specs.declared.volumes.Volume.{Volume}
use Rattle.dg_volume_tests.specs.Ready.{IsReady}

-- any call but one that takes boundaries out of use
pub stays_ready : {S T R : Type 0} (from : phases.Ghosts S) (to : phases.Ghosts T) (rack : Ghosts R) (boundaries : R → ℕ) (old : Volume S R) (new : Volume T R)
    → Leaves from to rack old new → IsReady from rack boundaries old → IsReady to rack boundaries new
stays_ready from to rack boundaries old new leaves ready = record {
  well = leaves.well;
  names = ready.names;
  enough = omega (arith, ready.enough, ready.names (rack_of new) (rack_of old) leaves.same_rack, ap (λ (s : Shape). s.b) leaves.shape);
}

-- what `regroup` requires
pub has_boundaries : {S R : Type 0} (phase : phases.Ghosts S) (rack : Ghosts R) (boundaries : R → ℕ) (volume : Volume S R)
    → IsReady phase rack boundaries volume → HasBoundaries rack boundaries volume
has_boundaries phase rack boundaries volume ready r same = omega (arith, ready.enough, ready.names r (rack_of volume) same)

-- it has as many boundaries as the array at least, also without those that were taken out
enough_left : {R : Type 0} (rack : Ghosts R) (boundaries : R → ℕ) (dropped : R → ℕ → R → Type 0) (old new : Volume AnyPhase R)
    → IsReady any_phase rack boundaries old → (out : TakesOut rack boundaries dropped old.store new.store) → (shape_of new).b ≤ boundaries (rack_of new)
enough_left rack boundaries dropped old new ready out =
    let before = ready.names _ (rack_of old) out.opened.stays.same_rack in
    let after = ready.names (rack_of new) _ out.read.stays.same_rack in
    omega (arith, ready.enough, before, after, out.rest, ap (λ (s : Shape). s.b) out.opened.shape, ap (λ (s : Shape). s.b) out.read.shape)

-- what `regroup` leaves
pub regrouped_ready : {R : Type 0} (rack : Ghosts R) (boundaries : R → ℕ) (dropped : R → ℕ → R → Type 0) (old new : Volume AnyPhase R) (answer : RegroupAnswer)
    → GoesOn any_phase rack old new → AnswersRegroup rack boundaries dropped old new answer → IsReady any_phase rack boundaries old
    → IsReady any_phase rack boundaries new
regrouped_ready rack boundaries dropped old new Whole on is ready = stays_ready any_phase any_phase rack boundaries old new is.leaves ready
regrouped_ready rack boundaries dropped old new TooFew on is ready = stays_ready any_phase any_phase rack boundaries old new is.leaves ready
regrouped_ready rack boundaries dropped old new (Regrouped r c) on is ready = record {
  well = on.well;
  names = ready.names;
  enough = enough_left rack boundaries dropped old new ready is.out;
}
