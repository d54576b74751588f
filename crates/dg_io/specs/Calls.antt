-- What a call on a member leaves of a rack, whatever the call is.
use Rattle.std.specs.Prelude.{◌≡◌, ◌≢◌, ◌↔◌, ℕ, Bool, true, List, Option, Result, OnOk}
use Rattle.dg_model.specs.Causes.{RoseByOne}
use Rattle.dg_model.specs.States.{Counts, CountsRise}
use Rattle.dg_io.specs.Faults.{HasCause, OnlyMember}
use Rattle.dg_io.specs.Told.{StillTold, OthersSame}

-- What a call on one member leaves of a rack, with its answer. The first five words are what the rack means.
pub record LeavesRack {S T E : Type 0} (name : S → ℕ) (bytes : S → ℕ → Option (List ℕ)) (counts : S → Counts) (stands : S → ℕ → Bool) (steady : S → Type 0)
    (member : ℕ) (result : Result T E) (old new : S) : Type 0 where
  -- it is the same rack
  pub same_rack : name new ≡ name old
  -- the member's count of faults rose exactly where the call failed
  pub cause : HasCause ((counts old).faults member) ((counts new).faults member) result
  -- the call was counted, and no count fell
  pub counted : RoseByOne (counts old).calls (counts new).calls
  pub rise : CountsRise (counts old) (counts new)
  -- each other member is as it was
  pub others : OthersSame member (bytes old) (bytes new)
  pub other_faults : OnlyMember member (counts old).faults (counts new).faults
  pub others_stand : (q : ℕ) → q ≢ member → stands old q ≡ true → stands new q ≡ true
  -- the member stands on where the call was done
  pub stands_on : OnOk result (stands old member ≡ true → stands new member ≡ true)
  -- what is told now was told before
  pub tells : StillTold (bytes old) (bytes new)
  -- steady or not is for good
  pub steady_on : steady old ↔ steady new
