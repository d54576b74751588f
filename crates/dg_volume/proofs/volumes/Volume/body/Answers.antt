use Rattle.std.proofs.Common.{◌≡◌, ap, subst}
use Rattle.dg_model.specs.Saves.{CanBeSaved, SavedState}
use Rattle.dg_save.specs.States.{state_of}
use Rattle.dg_volume.proofs.SaveLaws.{bodies_fit, of_any}
use Rattle.dg_volume.specs.Volumes.{shape_of}
use Rattle.dg_volume.proofs.volumes.Volume.body.Goals as goal

pub returns-clause-room : goal.returns-clause-room
returns-clause-room g c =
    let state = state_of c.in_ok-state.state in
    let shape : state.table.shape ≡ shape_of c.args.self.now = ap (λ (s : SavedState). s.table.shape) c.in_ok-state.ensures.is in
    bodies_fit state (shape_of c.args.self.now) c.encode.result shape (c.bodies_have_room.ensures 2 state c.in_ok-state.ensures.form) c.encode.ensures

pub returns-clause-form : goal.returns-clause-form
returns-clause-form g c = of_any c.encode.result (subst (λ (s : SavedState). CanBeSaved s) c.in_ok-state.ensures.is c.in_ok-state.ensures.form.can)
