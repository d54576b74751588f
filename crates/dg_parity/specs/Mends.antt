-- A disk that comes back, stripe by stripe. The rules are this project's own.
use Rattle.std.specs.Prelude.{◌≡◌, ◌≢◌, ◌↔◌, true, false, ◌+◌, ◌*◌, ◌<◌, ◌≤◌, ℕ, length, slice_index, IfSome}
use Rattle.dg_io.specs.declared.outside.Rack.{Ghosts}
use Rattle.dg_model.specs.Causes.{Rose}
use Rattle.dg_model.specs.States.{CountsRise}
use Rattle.dg_io.specs.Told.{Told, IsSame, StillTold}
use Rattle.dg_parity.specs.Groups.{disk_number, is_out, length_of, disk_in, AreNumbered, IsLater, IsReady, IsApart}
use Rattle.dg_parity.specs.declared.groups.Group.{Group}

-- disk j has its bytes in the first t stripes
pub record FilledTo {S : Type 0} (rack : Ghosts S) (group : Group) (now : S) (j : ℕ) (has : ℕ → ℕ → ℕ) (t : ℕ) : Type 0 where
  pub at : (x : ℕ) → 512 ≤ x → x < 512 + 512 * t → slice_index (disk_in rack group now j) x ≡ has j x

-- disk j, which is out, stands and has its length
pub record IsRefilled {S : Type 0} (rack : Ghosts S) (group : Group) (now : S) (j : ℕ) : Type 0 where
  pub stands : rack.stands now (disk_number group.number j) ≡ true
  pub room : IfSome (rack.bytes now (disk_number group.number j)) (λ all. length all ≡ length_of group)

-- What calls on the disks of a group leave, among them calls on disk j, which is out.
pub record LeavesBut {S : Type 0} (rack : Ghosts S) (j : ℕ) (old new : Group) (before now : S) : Type 0 where
  pub later : IsLater old new
  pub cause : (i : ℕ) → i < old.disks → is_out old i ≡ false → is_out new i ≡ true
      → Rose ((rack.counts before).faults (disk_number old.number i)) ((rack.counts now).faults (disk_number old.number i))
  pub ready : IsReady rack new now
  pub numbers : AreNumbered rack old before → AreNumbered rack new now
  pub others : (q : ℕ) → IsApart old q → q ≢ disk_number old.number j → Told IsSame (rack.bytes before q) (rack.bytes now q)
  pub other_faults : (q : ℕ) → IsApart old q → q ≢ disk_number old.number j → (rack.counts now).faults q ≡ (rack.counts before).faults q
  pub others_stand : (q : ℕ) → IsApart old q → q ≢ disk_number old.number j → rack.stands before q ≡ true → rack.stands now q ≡ true
  pub rise : CountsRise (rack.counts before) (rack.counts now)
  pub tells : StillTold (rack.bytes before) (rack.bytes now)
  pub same_rack : rack.name now ≡ rack.name before
  pub steady_on : rack.steady before ↔ rack.steady now

-- Calls for disk j of a group: each other disk went out only where its count of faults rose, and none came back.
pub record FallBut {S : Type 0} (rack : Ghosts S) (j : ℕ) (old new : Group) (before now : S) : Type 0 where
  pub cause : (i : ℕ) → i < old.disks → i ≢ j → is_out old i ≡ false → is_out new i ≡ true
      → Rose ((rack.counts before).faults (disk_number old.number i)) ((rack.counts now).faults (disk_number old.number i))
  pub stays : (i : ℕ) → i ≢ j → is_out old i ≡ true → is_out new i ≡ true
