-- Volumes of which `regroup` may be called.
use Rattle.std.specs.Prelude.{◌≡◌, ◌≤◌, ℕ}
use Rattle.dg_io.specs.declared.outside.Rack.{Ghosts}
use Rattle.dg_volume.specs.Volumes.{IsWell, rack_of, shape_of}
use Rattle.dg_volume.specs.declared.phases.InPhase as phases
use Rattle.dg_volume.specs.declared.volumes.Volume.{Volume}

-- All is well with a volume, and its rack has as many boundaries as the array at least, which the rack's name tells.
pub record IsReady {S R : Type 0} (phase : phases.Ghosts S) (rack : Ghosts R) (boundaries : R → ℕ) (volume : Volume S R) : Type 0 where
  pub well : IsWell phase rack volume
  pub names : (r s : R) → rack.name r ≡ rack.name s → boundaries r ≡ boundaries s
  pub enough : (shape_of volume).b ≤ boundaries (rack_of volume)
