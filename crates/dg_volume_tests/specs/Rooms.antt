-- Volumes of which `commit` may be called.
use Rattle.std.specs.Prelude.{◌≡◌, ◌≤◌, ◌+◌, ◌*◌, ℕ, IfSome, List, Option}
use Rattle.dg_io.specs.RackCalls.{RackCall}
use Rattle.dg_io.specs.declared.outside.Rack.{Ghosts}
use Rattle.dg_volume.specs.Volumes.{IsWell, rack_of, shape_of}
use Rattle.dg_volume.specs.declared.phases.InPhase as phases
use Rattle.dg_volume.specs.declared.volumes.Volume.{Volume}

-- All is well with a volume, and its rack has room for what may stand beside its state, which no call takes away.
pub record HasRoom {S R : Type 0} (phase : phases.Ghosts S) (rack : Ghosts R) (room : R → Option ℕ) (volume : Volume S R) : Type 0 where
  pub well : IsWell phase rack volume
  pub stays : (a b : R) (made : List RackCall) → rack.made a made b → room b ≡ room a
  pub enough : IfSome (room (rack_of volume)) (λ bytes. 30 + 4 * (shape_of volume).n ≤ bytes)
