-- What is taken of the input: an event in its place, the end, or a line that is refused.
use Rattle.std.specs.Prelude.{◌≡◌, ◌≤◌, ◌<◌, ◌++◌, [], ℕ, List, length, Option}
use Rattle.dg_model.specs.declared.shapes.Shape.{Shape}
use Rattle.dg_model.specs.declared.events.Event.{Event as Spelled}
use Rattle.dg_text.specs.Lines.{line_of, IsInPlace}
use Rattle.dg_text.specs.declared.lines.BadLine.{BadLine}
use Rattle.dg_run.specs.Inputs.{BeginsWithLine}
use Rattle.dg_run.specs.Refusals.{IsRefusedBy}
use Rattle.dg_run.specs.declared.events.Taken.{Taken}
use Rattle.dg_run.specs.declared.events.Taken.TheVariants.{Event, End, Refused}

-- how many reads may have given no byte: none where an event was taken
abbrev pub empty_reads_of_taken : Taken → ℕ
empty_reads_of_taken (Event event n) = 0
empty_reads_of_taken End = 1
empty_reads_of_taken (Refused kind) = 1

-- the event is in its place, and its line has so many bytes, no more than the room
abbrev pub IsTaken : Option Shape → ℕ → Taken → Type 0
IsTaken shape room (Event event n) = IsInPlace shape event × (n ≡ length (line_of event)) × (n ≤ room)
IsTaken shape room End = Unit {0}
IsTaken shape room (Refused kind) = Unit {0}

-- the text begins with the line of this event, and of no other in its place
pub record Begins (shape : Option Shape) (event : Spelled) (before after : List ℕ) : Type 0 where
  pub line : before ≡ line_of event ++ after
  pub only : (other : Spelled) (tail : List ℕ) → IsInPlace shape other → before ≡ line_of other ++ tail → other ≡ event

-- There is a text, and it is refused by this kind. So it begins with no line of an event that is in its place and keeps to the room.
pub record IsRefused (shape : Option Shape) (room : ℕ) (text : List ℕ) (kind : BadLine) : Type 0 where
  pub some : text ≡ [] → ⊥
  pub by_kind : IsRefusedBy shape room text kind
  pub none : (event : Spelled) (tail : List ℕ) → IsInPlace shape event → text ≡ line_of event ++ tail → room < length (line_of event)

-- where the event of a line was taken, that is one of no more bytes than the longest and than the room
abbrev pub TookLine : ℕ → ℕ → Taken → List ℕ → List ℕ → Type 0
TookLine most room (Event event n) before after = BeginsWithLine most room before after
TookLine most room End before after = Unit {0}
TookLine most room (Refused kind) before after = Unit {0}

abbrev pub TookEvent : Option Shape → ℕ → Taken → List ℕ → List ℕ → Type 0
TookEvent shape room (Event event n) before after = Begins shape event before after
TookEvent shape room End before after = (before ≡ []) × (after ≡ [])
TookEvent shape room (Refused kind) before after = IsRefused shape room before kind
