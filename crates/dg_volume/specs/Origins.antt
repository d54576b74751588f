-- What the content of a step may rest on beside told bytes: what members held when an array was opened, and that the members of boundaries which
-- are no more in use told their bytes while they were. Two good members may disagree, so that they held no one list of blocks: of these all is said
-- but content.
use Rattle.std.specs.Prelude.{◌<◌, ◌/◌, ℕ, List, Option}
use Rattle.dg_io.specs.declared.outside.Rack.{Ghosts}
use Rattle.dg_model.specs.States.{StandsFor}
use Rattle.dg_model.specs.Tables.{Table}
use Rattle.dg_model.specs.declared.members.MemberState.{MemberState}

-- members of this table, of which each did this and had these bytes, and blocks that they may have held
pub record Held : Type 0 where
  pub table : Table
  pub members : ℕ → MemberState
  pub bytes : ℕ → Option (List ℕ)
  pub blocks : List (List ℕ)

-- nothing; or blocks that members may have held; or a rack of so many boundaries before some were taken out of use, and what the content before
-- that rests on
pub data Origin (R : Type 0) : Type 0 where
  nothing : Origin R
  held : Held → Origin R
  told : ℕ → R → Origin R → Origin R

-- it is always so
abbrev pub Always : Type 0
Always = Unit {0}

-- nothing is asked; or they held them; or each member of these boundaries told its bytes, and the rest is so
abbrev pub WasHeld : {R : Type 0} → Ghosts R → Origin R → Type 0
WasHeld rack nothing = Always
WasHeld rack (held was) = StandsFor was.table was.members was.bytes was.blocks
WasHeld rack (told b now origin) = WasHeld rack origin × ((q : ℕ) → q / 2 < b → rack.tells now q)
