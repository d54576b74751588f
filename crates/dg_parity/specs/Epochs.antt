-- What a group leaves on its disks, and what the next opening makes of it. The rules are this project's own.
use Rattle.std.specs.Prelude.{◌≡◌, ◌<◌, ◌^◌, ℕ, true, false, IfSome, IsSome}
use Rattle.dg_model.specs.Causes.{Rose}
use Rattle.dg_io.specs.Told.{Told, IsSame}
use Rattle.dg_io.specs.declared.outside.Rack.{Ghosts}
use Rattle.dg_parity.specs.Groups.{disk_number, is_out}
use Rattle.dg_parity.specs.Openings.{HasFront}
use Rattle.dg_parity.specs.declared.groups.Group.{Group}
use Rattle.dg_parity.specs.declared.headers.Header.{Header}

-- its epoch is one of a header that counts
abbrev pub IsCountable : Group → Type 0
IsCountable group = group.epoch < 2 ^ 63

-- The disks as a group left them: those that weren't out have the bytes that they had, and on each that was out a header of the group's width that
-- counts is of a lower epoch, if there is one. All of them are told.
pub record IsLeft {S : Type 0} (rack : Ghosts S) (group : Group) (left now : S) : Type 0 where
  pub same : (j : ℕ) → j < group.disks → is_out group j ≡ false → Told IsSame (rack.bytes left (disk_number group.number j)) (rack.bytes now (disk_number group.number j))
  pub past : (j : ℕ) → j < group.disks → is_out group j ≡ true
      → IfSome (rack.bytes now (disk_number group.number j)) (λ all. (h : Header) → HasFront group.number j all h → h.disks ≡ group.disks → h.epoch < group.epoch)
  pub told : (j : ℕ) → j < group.disks → IsSome (rack.bytes now (disk_number group.number j))

-- The next opening made the same group of them: no disk is in that was out, and another one is out only where its count of faults rose.
pub record IsReopened {S : Type 0} (rack : Ghosts S) (group next : Group) (before now : S) : Type 0 where
  pub number : next.number ≡ group.number
  pub disks : next.disks ≡ group.disks
  pub size : next.length ≡ group.length
  pub epoch : next.epoch ≡ group.epoch
  pub stays : (j : ℕ) → is_out group j ≡ true → is_out next j ≡ true
  pub cause : (j : ℕ) → j < group.disks → is_out group j ≡ false → is_out next j ≡ true
      → Rose ((rack.counts before).faults (disk_number group.number j)) ((rack.counts now).faults (disk_number group.number j))
