-- What a group tells of its member, and what is kept so that it does. The rules are this project's own.
use Rattle.std.specs.Prelude.{◌≡◌, ◌+◌, ◌*◌, ◌&&◌, ℕ, zero, suc, List, Bool, true, false, Option, None, Some, is_some, if◌then◌else◌}
use Rattle.dg_io.specs.declared.outside.Rack.{Ghosts}
use Rattle.dg_parity.specs.Stripes.{IsClear, IsEven, member_by, made_up, stripes_of}
use Rattle.dg_parity.specs.Groups.{disk_number, is_out, is_lost, is_sure, disk_in, AllTold, AreNumbered, IsReady}
use Rattle.dg_parity.specs.Runs.{passes_in, reads_at, runs_of}
use Rattle.dg_parity.specs.declared.groups.Group.{Group}

-- whether a test holds of each number below n
abbrev pub all_upto : (ℕ → Bool) → ℕ → Bool
all_upto p zero = true
all_upto p (suc n) = all_upto p n && p n

-- whether each disk tells its bytes, and nothing was wrong with these when the group was opened
abbrev pub all_told : {S : Type 0} → Ghosts S → Group → S → Bool
all_told rack group now = is_sure group && all_upto (λ j. is_some (rack.bytes now (disk_number group.number j))) group.disks

-- what the disks have, one that is out by the others
abbrev pub made_by : {S : Type 0} → Ghosts S → Group → S → ℕ → ℕ → ℕ
made_by rack group now = made_up group.disks (is_out group) (disk_in rack group now)

-- the bytes of its member, where it tells them
abbrev pub bytes_in : {S : Type 0} → Ghosts S → Group → S → Option (List ℕ)
bytes_in rack group now = if group.told && all_told rack group now then Some (member_by group.disks group.length (made_by rack group now)) else None

-- what is kept of a group
pub record IsKept {S : Type 0} (rack : Ghosts S) (group : Group) (now : S) : Type 0 where
  pub ready : is_lost group ≡ false → IsReady rack group now
  pub numbers : is_lost group ≡ false → AreNumbered rack group now
  pub even : is_lost group ≡ false → AllTold rack group now → IsEven group.disks group.length (made_by rack group now)
  pub clear : is_lost group ≡ false → AllTold rack group now → IsClear group.disks group.length (made_by rack group now)

-- how many calls a read of so many bytes from a place on takes at most: in each pass of 16 stripes one of each disk, two passes more where a disk goes
-- out, and two rounds of headers
abbrev pub calls_to_read : ℕ → ℕ → ℕ → ℕ
calls_to_read n place count = n * passes_in n place count + 4 * n

-- and a write: in each pass one of each disk, the reads at both ends, and twice two rounds of headers
abbrev pub calls_to_write : ℕ → ℕ → ℕ → ℕ
calls_to_write n place count = n * passes_in n place count + (reads_at n place + reads_at n (place + count)) + 4 * n

-- A disk that comes back: in each run of 16 stripes one call of each disk, the blank, and two rounds of headers.
abbrev pub calls_to_mend : ℕ → ℕ → ℕ
calls_to_mend n size = n * runs_of (stripes_of n size) + 2 * n + 1

-- A write in which no disk goes out, to a group whose headers say which of its disks are out: no header is written.
abbrev pub quiet_calls_to_write : ℕ → ℕ → ℕ → ℕ
quiet_calls_to_write n place count = n * passes_in n place count + (reads_at n place + reads_at n (place + count))
