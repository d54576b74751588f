-- A group that is made anew. The rules are this project's own.
use Rattle.std.specs.Prelude.{◌≡◌, ◌≢◌, ◌↔◌, ◌<◌, ◌≤◌, ℕ, true, false, replicate, IfSome}
use Rattle.dg_model.specs.Causes.{Rose}
use Rattle.dg_model.specs.States.{CountsRise}
use Rattle.dg_io.specs.Told.{Told, IsSame, StillTold}
use Rattle.dg_io.specs.declared.outside.Rack.{Ghosts}
use Rattle.dg_parity.specs.Groups.{disk_number, is_out, length_of, IsAlikeBut}
use Rattle.dg_parity.specs.declared.groups.Group.{Group}

-- q is no disk of the group
abbrev pub IsForeign : Group → ℕ → Type 0
IsForeign group q = (j : ℕ) → j < group.disks → q ≢ disk_number group.number j

-- What calls on any disks of a group leave of the rack.
pub record LeavesOthers {S : Type 0} (rack : Ghosts S) (group : Group) (before now : S) : Type 0 where
  pub others : (q : ℕ) → IsForeign group q → Told IsSame (rack.bytes before q) (rack.bytes now q)
  pub other_faults : (q : ℕ) → IsForeign group q → (rack.counts now).faults q ≡ (rack.counts before).faults q
  pub others_stand : (q : ℕ) → IsForeign group q → rack.stands before q ≡ true → rack.stands now q ≡ true
  pub rise : CountsRise (rack.counts before) (rack.counts now)
  pub tells : StillTold (rack.bytes before) (rack.bytes now)
  pub same_rack : rack.name now ≡ rack.name before
  pub steady_on : rack.steady before ↔ rack.steady now

-- Disk j was made anew: it has zeros alone, or its count of faults rose and it is out. No other was called.
pub record BlanksOne {S : Type 0} (rack : Ghosts S) (j : ℕ) (old new : Group) (before now : S) : Type 0 where
  pub same : IsAlikeBut old new
  pub renewed : new.noted ≡ false
  pub rest : (i : ℕ) → i ≢ j → is_out new i ≡ is_out old i
  pub stands : is_out new j ≡ false → rack.stands now (disk_number old.number j) ≡ true
  pub zeros : is_out new j ≡ false → IfSome (rack.bytes now (disk_number old.number j)) (λ all. all ≡ replicate (length_of old) 0)
  pub cause : is_out new j ≡ true → Rose ((rack.counts before).faults (disk_number old.number j)) ((rack.counts now).faults (disk_number old.number j))
  pub others : (q : ℕ) → q ≢ disk_number old.number j → Told IsSame (rack.bytes before q) (rack.bytes now q)
  pub other_faults : (q : ℕ) → q ≢ disk_number old.number j → (rack.counts now).faults q ≡ (rack.counts before).faults q
  pub others_stand : (q : ℕ) → q ≢ disk_number old.number j → rack.stands before q ≡ true → rack.stands now q ≡ true
  pub rise : CountsRise (rack.counts before) (rack.counts now)
  pub tells : StillTold (rack.bytes before) (rack.bytes now)
  pub same_rack : rack.name now ≡ rack.name before
  pub steady_on : rack.steady before ↔ rack.steady now

-- Each of the first n disks was made anew: it has zeros alone, or its count of faults rose and it is out. The others weren't called.
pub record IsBlanked {S : Type 0} (rack : Ghosts S) (old new : Group) (before now : S) (n : ℕ) : Type 0 where
  pub same : IsAlikeBut old new
  pub renewed : new.noted ≡ false
  pub later : (j : ℕ) → n ≤ j → is_out new j ≡ is_out old j
  pub stands : (j : ℕ) → j < n → is_out new j ≡ false → rack.stands now (disk_number old.number j) ≡ true
  pub zeros : (j : ℕ) → j < n → is_out new j ≡ false → IfSome (rack.bytes now (disk_number old.number j)) (λ all. all ≡ replicate (length_of old) 0)
  pub cause : (j : ℕ) → j < n → is_out new j ≡ true
      → Rose ((rack.counts before).faults (disk_number old.number j)) ((rack.counts now).faults (disk_number old.number j))
  pub leaves : LeavesOthers rack old before now
