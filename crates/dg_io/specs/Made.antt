-- What any number of calls leave of a rack, whatever their answers.
use Rattle.std.specs.Prelude.{◌≡◌, ◌↔◌, ◌+◌, ◌≤◌, ℕ, Bool, List, length, Option}
use Rattle.dg_model.specs.States.{Counts, CountsRise}
use Rattle.dg_io.specs.Disks.{DiskStates, DisksAfter}
use Rattle.dg_io.specs.Kept.{Kept, KeepsOn}
use Rattle.dg_io.specs.RackCalls.{RackCall, Each, IsNotOn, IsNoBlank}
use Rattle.dg_io.specs.Told.{Told, IsSame}

-- What just these calls leave of a rack, one after another. The first eight words are what the rack means.
pub record AfterCalls {S : Type 0} (name : S → ℕ) (bytes : S → ℕ → Option (List ℕ)) (counts : S → Counts) (stands : S → ℕ → Bool) (steady : S → Type 0)
    (tells : S → ℕ → Type 0) (keeps : S → Option Kept → Type 0) (disks : S → DiskStates) (calls : List RackCall) (old new : S) : Type 0 where
  -- it is the same rack, steady or not as it was
  pub same_rack : name new ≡ name old
  pub steady_on : steady old ↔ steady new
  -- no count fell, and no more calls were counted than these
  pub rise : CountsRise (counts old) (counts new)
  pub most : (counts new).calls ≤ (counts old).calls + length calls
  -- a member on which none of the calls is has the bytes, the count of faults and the standing that it had
  pub other_bytes : (q : ℕ) → Each (IsNotOn q) calls → Told IsSame (bytes old q) (bytes new q)
  pub other_faults : (q : ℕ) → Each (IsNotOn q) calls → (counts new).faults q ≡ (counts old).faults q
  pub others_stand : (q : ℕ) → Each (IsNotOn q) calls → stands new q ≡ stands old q
  -- what tells its bytes now did so before
  pub told_before : (q : ℕ) → tells new q → tells old q
  -- where none of the calls makes a member anew, the checkpoint is kept
  pub keeps_on : Each IsNoBlank calls → KeepsOn keeps old new
  pub disks_after : DisksAfter calls (disks old) (disks new)
