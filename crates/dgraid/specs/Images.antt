-- What image files are as a rack. They tell no bytes: no proof sees what a file system does.
use Rattle.std.specs.Prelude.{ℕ, Bool, true, List, [], ◌++◌, Option, None, slice_index}
use Rattle.dg_model.specs.States.{Counts}
use Rattle.dg_io.specs.Disks.{DiskStates, no_disks}
use Rattle.dg_io.specs.Kept.{Kept}
use Rattle.dg_io.specs.Made.{AfterCalls}
use Rattle.dg_io.specs.MadeLaws.{after_both, after_none}
use Rattle.dg_io.specs.RackCalls.{RackCall}
use Rattle.dgraid.specs.declared.images.ImageRack.{ImageRack}

-- it isn't lent, and isn't steady
abbrev pub name_in : ImageRack → ℕ
name_in rack = 0

abbrev pub steady_in : ImageRack → Type 0
steady_in rack = ⊥

abbrev pub counts_in : ImageRack → Counts
counts_in rack = record { faults = λ q. slice_index rack.faults q; calls = rack.calls; writes = rack.writes }

-- each of its members may be called, and none tells its bytes
abbrev pub stands_in : ImageRack → ℕ → Bool
stands_in rack q = true

abbrev pub bytes_in : ImageRack → ℕ → Option (List ℕ)
bytes_in rack q = None

abbrev pub tells_in : ImageRack → ℕ → Type 0
tells_in rack q = ⊥

-- it keeps no checkpoint, and has no disks
abbrev pub keeps_in : ImageRack → Option Kept → Type 0
keeps_in rack kept = ⊥

abbrev pub disks_in : ImageRack → DiskStates
disks_in rack = no_disks

-- what just these calls leave of it
abbrev pub made_in : ImageRack → List RackCall → ImageRack → Type 0
made_in old calls new = AfterCalls name_in bytes_in counts_in stands_in steady_in tells_in keeps_in disks_in calls old new

pub made_no_call : (s : ImageRack) → made_in s [] s
made_no_call s = after_none name_in bytes_in counts_in stands_in steady_in tells_in keeps_in disks_in s

pub made_more : (a b c : ImageRack) (x y : List RackCall) → made_in a x b → made_in b y c → made_in a (x ++ y) c
made_more a b c x y first second = after_both name_in bytes_in counts_in stands_in steady_in tells_in keeps_in disks_in a b c x y first second
