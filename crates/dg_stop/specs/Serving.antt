-- What some calls on one member, one after the other, leave of a rack.
use Rattle.std.specs.Prelude.{◌≡◌, ◌≢◌, ◌↔◌, ℕ, true, Result, OnErr, OnOk}
use Rattle.dg_model.specs.Causes.{Rose}
use Rattle.dg_model.specs.States.{CountsRise}
use Rattle.dg_io.specs.Faults.{OnlyMember}
use Rattle.dg_io.specs.Told.{OthersSame, StillTold}
use Rattle.dg_io.specs.RackCalls.{RackCall}
use Rattle.dg_io.specs.RackCalls.RackCall.{calls}
use Rattle.dg_io.specs.declared.outside.Rack.{Ghosts}

-- a call that reads or writes this member
abbrev pub IsOn : ℕ → RackCall → Type 0
IsOn member call = call ≡ calls member

pub record Serves {S T E : Type 0} (rack : Ghosts S) (member : ℕ) (result : Result T E) (old new : S) : Type 0 where
  pub same_rack : rack.name new ≡ rack.name old
  -- the member's count of faults rose where it failed, and not where all was done
  pub cause : OnErr result (Rose ((rack.counts old).faults member) ((rack.counts new).faults member))
  pub spared : OnOk result ((rack.counts new).faults member ≡ (rack.counts old).faults member)
  pub rise : CountsRise (rack.counts old) (rack.counts new)
  -- each other member is as it was
  pub others : OthersSame member (rack.bytes old) (rack.bytes new)
  pub other_faults : OnlyMember member (rack.counts old).faults (rack.counts new).faults
  pub others_stand : (q : ℕ) → q ≢ member → rack.stands old q ≡ true → rack.stands new q ≡ true
  -- the member stands on where all was done
  pub stands_on : OnOk result (rack.stands old member ≡ true → rack.stands new member ≡ true)
  pub tells : StillTold (rack.bytes old) (rack.bytes new)
  pub steady_on : rack.steady old ↔ rack.steady new
