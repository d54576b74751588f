-- Lines served one after another.
use Rattle.std.specs.Prelude.{◌≡◌, ◌≤◌, ◌++◌, ◌+◌, ◌-◌, ◌^◌, [], ℕ, List, length, Option, Some, All}
use Rattle.dg_io.specs.declared.outside.Rack.{Ghosts}
use Rattle.dg_model.specs.declared.shapes.Shape.{Shape}
use Rattle.dg_model.specs.declared.events.Event.{Event}
use Rattle.dg_model.specs.declared.replies.Reply.{Reply}
use Rattle.dg_io.specs.Told.{Told, Took, TookPart}
use Rattle.dg_text.specs.Lines.{line_of, input_of, IsInPlace}
use Rattle.dg_text.specs.Replies.{output_of, refusal}
use Rattle.dg_text.specs.declared.lines.BadLine.{BadLine}
use Rattle.dg_run.specs.Events.{Begins, IsRefused}
use Rattle.dg_run.specs.Histories.{EventAnswered, RunsTo, Running}
use Rattle.dg_run.specs.declared.lines.Turn.{Turn}
use Rattle.dg_run.specs.declared.lines.Turn.TheVariants.{Served as turn_served, End as turn_end, Refused as turn_refused}
use Rattle.dg_run.specs.declared.lines.LinesEnd.{LinesEnd}
use Rattle.dg_run.specs.declared.lines.LinesEnd.TheVariants.{Input as input_end, Refused as line_refused}

-- one line was taken, of n bytes and no more than the room, its event was done, and its reply was written
pub record ServedLine {R : Type 0} (rack : Ghosts R) (shape : Shape) (room n : ℕ) (left rest taken given : Option (List ℕ)) (old new : Running R) : Type 0 where
  pub event : Event
  pub in_place : IsInPlace (Some shape) event
  pub size : n ≡ length (line_of event)
  pub within : n ≤ room
  pub input : Told (Begins (Some shape) event) left rest
  pub answered : EventAnswered rack event taken given old new

-- the text begins with the lines of these events, and any lines of events in their places that make it up begin so
pub record BeginsAll (shape : Option Shape) (events : List Event) (before after : List ℕ) : Type 0 where
  pub lines : before ≡ input_of events ++ after
  pub only : (others : List Event) → All (IsInPlace shape) others → before ≡ input_of others → (more : List Event) × (others ≡ events ++ more) × (after ≡ input_of more)

-- how many reads may have given no byte: none where a line was served
abbrev pub empty_reads_of_turn : Turn → ℕ
empty_reads_of_turn (turn_served n) = 0
empty_reads_of_turn turn_end = 1
empty_reads_of_turn (turn_refused kind) = 1

-- what a turn did: nothing changes where it served no line
abbrev pub Turned : {R : Type 0} → Ghosts R → Shape → ℕ → Option (List ℕ) → Option (List ℕ) → Option (List ℕ) → Option (List ℕ) → Running R → Running R → Turn → Type 0
Turned rack shape room left rest taken given old new (turn_served n) = ServedLine rack shape room n left rest taken given old new
Turned rack shape room left rest taken given old new turn_end = Told (λ before after. (before ≡ []) × (after ≡ [])) left rest × (given ≡ taken) × (new ≡ old)
Turned rack shape room left rest taken given old new (turn_refused kind) = Told (λ before after. IsRefused (Some shape) room before kind) left rest × (given ≡ taken) × (new ≡ old)

-- lines were taken one after another, their events were done, and their replies were written
pub record Served {R : Type 0} (rack : Ghosts R) (shape : Shape) (events : List Event) (left rest taken given : Option (List ℕ)) (old new : Running R) : Type 0 where
  pub replies : List Reply
  pub in_place : All (IsInPlace (Some shape)) events
  pub input : Told (BeginsAll (Some shape) events) left rest
  pub output : Told (Took (output_of replies)) taken given
  pub runs : RunsTo rack old events replies new

-- all lines to the end of the input were served, and keep to the budget behind a first line of so many bytes
pub record AllServed {R : Type 0} (rack : Ghosts R) (shape : Shape) (first : ℕ) (left rest taken given : Option (List ℕ)) (old new : Running R) : Type 0 where
  pub events : List Event
  pub served : Served rack shape events left rest taken given old new
  pub budget : first + length (input_of events) ≤ 2 ^ 40
  pub end : Told (λ before after. (before ≡ input_of events) × (after ≡ [])) left rest

-- Some lines were served, the first of them with the number `from`, and the next one, of this number, is refused by this kind.
pub record ServedTo {R : Type 0} (rack : Ghosts R) (shape : Shape) (first from number : ℕ) (kind : BadLine) (left rest taken given : Option (List ℕ)) (old new : Running R) : Type 0 where
  pub events : List Event
  pub middle : Option (List ℕ)
  pub served : Served rack shape events left middle taken given old new
  pub budget : first + length (input_of events) ≤ 2 ^ 40
  pub count : number ≡ length events + from
  pub refused : Told (λ before after. IsRefused (Some shape) (2 ^ 40 - (first + length (input_of events))) before kind) middle rest

-- how lines ended, behind one of so many bytes
abbrev pub LinesEndAt : {R : Type 0} → Ghosts R → Shape → ℕ → ℕ → Option (List ℕ) → Option (List ℕ) → Option (List ℕ) → Option (List ℕ) → Running R → Running R → LinesEnd → Type 0
LinesEndAt rack shape first from left rest taken given old new input_end = AllServed rack shape first left rest taken given old new
LinesEndAt rack shape first from left rest taken given old new (line_refused number kind) = ServedTo rack shape first from number kind left rest taken given old new

-- some lines were served, and the next one was refused
pub record RefusedBehind {R : Type 0} (rack : Ghosts R) (shape : Shape) (first from : ℕ) (left rest taken given : Option (List ℕ)) (old new : Running R) : Type 0 where
  pub before : Option (List ℕ)
  pub number : ℕ
  pub kind : BadLine
  pub served : ServedTo rack shape first from number kind left rest taken before old new
  pub refused : Told (Took (refusal number kind)) before given

-- the same, but the refusal was written in part
pub record RefusedInPart {R : Type 0} (rack : Ghosts R) (shape : Shape) (first from : ℕ) (left rest taken given : Option (List ℕ)) (old new : Running R) : Type 0 where
  pub before : Option (List ℕ)
  pub number : ℕ
  pub kind : BadLine
  pub served : ServedTo rack shape first from number kind left rest taken before old new
  pub refused : Told (TookPart (refusal number kind)) before given
