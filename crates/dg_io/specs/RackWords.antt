-- What the members of a rack say together, in one word for a clause. The record of a rack's members is the first argument.
use Rattle.std.specs.Prelude.{ℕ, List, Result}
use Rattle.dg_io.specs.Calls.{LeavesRack}
use Rattle.dg_io.specs.Made.{AfterCalls}
use Rattle.dg_io.specs.RackCalls.{RackCall, Each}
use Rattle.dg_io.specs.declared.outside.Rack.{Ghosts}

-- what a call on one member leaves of a rack, with its answer
abbrev pub Leaves : {S T E : Type 0} → Ghosts S → ℕ → Result T E → S → S → Type 0
Leaves rack member result old new = LeavesRack rack.name rack.bytes rack.counts rack.stands rack.steady member result old new

-- what just these calls leave of a rack, whatever their answers
abbrev pub After : {S : Type 0} → Ghosts S → List RackCall → S → S → Type 0
After rack calls old new = AfterCalls rack.name rack.bytes rack.counts rack.stands rack.steady rack.tells rack.keeps rack.disks calls old new

-- some calls were made of a rack, and each of them is such a one
pub record MadeOnly {S : Type 0} (rack : Ghosts S) (may : RackCall → Type 0) (old new : S) : Type 0 where
  pub calls : List RackCall
  pub each : Each may calls
  pub made : rack.made old calls new
