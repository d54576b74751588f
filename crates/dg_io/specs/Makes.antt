-- Calls of some kind, any number of them. As a chain of calls that were made, so that the layers between join two of them without the laws of a rack.
use Rattle.std.specs.Prelude.{◌≡◌}
use Rattle.dg_io.specs.RackCalls.{RackCall}
use Rattle.dg_io.specs.RackWords.{MadeOnly}
use Rattle.dg_io.specs.declared.outside.Rack.{Ghosts}

-- calls were made of a rack, one after another, and each of them is such a one
pub data Makes {S : Type 0} (rack : Ghosts S) (may : RackCall → Type 0) : S → S → Type 0 where
  nothing : {a b : S} → b ≡ a → Makes rack may a b
  after : {a b c : S} → Makes rack may a b → MadeOnly rack may b c → Makes rack may a c
