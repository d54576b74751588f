-- A replay behind its first line.
use Rattle.std.specs.Prelude.{◌≡◌, ◌+◌, ◌-◌, ◌^◌, ◌++◌, ◌∷◌, ◌⊎◌, [], ℕ, List, length, Option, Some, All}
use Rattle.dg_io.specs.declared.outside.Rack.{Ghosts}
use Rattle.dg_model.specs.declared.shapes.Shape.{Shape}
use Rattle.dg_model.specs.declared.events.Event.{Event}
use Rattle.dg_model.specs.declared.replies.Reply.{Reply}
use Rattle.dg_model.specs.declared.replies.Reply.TheVariants.{Done}
use Rattle.dg_io.specs.Told.{Told, Took, TookPart}
use Rattle.dg_text.specs.Lines.{input_of, IsInPlace}
use Rattle.dg_text.specs.Replies.{reply_line, output_of, refusal}
use Rattle.dg_text.specs.declared.lines.BadLine.{BadLine as Kind}
use Rattle.dg_io.specs.Told.{AreAny}
use Rattle.dg_run.specs.Endings.{LinesCut, LinesRanOut}
use Rattle.dg_run.specs.Events.{IsRefused}
use Rattle.dg_run.specs.Lines.{AllServed, ServedTo}
use Rattle.dg_run.specs.declared.top.Status.{Status}
use Rattle.dg_run.specs.declared.top.Status.TheVariants.{Done as status_done, Usage, BadLine, ReadFault, WriteFault, NoMemory, NoState, Unclean, Refused}
use Rattle.dg_run.specs.Histories.{Running}

-- the array was answered, and all lines behind the first one were served
pub record AllAnswered {R : Type 0} (rack : Ghosts R) (shape : Shape) (first : ℕ) (left rest taken given : Option (List ℕ)) (old new : Running R) : Type 0 where
  pub middle : Option (List ℕ)
  pub ok : Told (Took (reply_line Done)) taken middle
  pub served : AllServed rack shape first left rest middle given old new

-- the array was answered, lines behind the first one were served, and the next one was refused
pub record AnsweredTo {R : Type 0} (rack : Ghosts R) (shape : Shape) (first : ℕ) (left rest taken given : Option (List ℕ)) (old new : Running R) : Type 0 where
  pub middle : Option (List ℕ)
  pub before : Option (List ℕ)
  pub number : ℕ
  pub kind : Kind
  pub ok : Told (Took (reply_line Done)) taken middle
  pub served : ServedTo rack shape first 2 number kind left rest middle before old new
  pub refused : Told (Took (refusal number kind)) before given

-- the same, but the refusal was written in part
pub record AnsweredToPart {R : Type 0} (rack : Ghosts R) (shape : Shape) (first : ℕ) (left rest taken given : Option (List ℕ)) (old new : Running R) : Type 0 where
  pub middle : Option (List ℕ)
  pub before : Option (List ℕ)
  pub number : ℕ
  pub kind : Kind
  pub ok : Told (Took (reply_line Done)) taken middle
  pub served : ServedTo rack shape first 2 number kind left rest middle before old new
  pub refused : Told (TookPart (refusal number kind)) before given

-- The sink failed behind a first line that made the array: at its answer, at the reply to a later line, or at the refusal of one.
abbrev pub ArrayCut : {R : Type 0} → Ghosts R → Shape → ℕ → Option (List ℕ) → Option (List ℕ) → Option (List ℕ) → Option (List ℕ) → Option (List ℕ) → Running R → Running R → Type 0
ArrayCut rack shape first left ahead rest taken given old new =
    (Told (TookPart (reply_line Done)) taken given × (new ≡ old) × Told AreAny left rest)
    ⊎ (LinesCut rack (reply_line Done) shape first left rest taken given old new ⊎ AnsweredToPart rack shape first left ahead taken given old new)

-- memory was wanting behind such a line: for the array, or for a later line
abbrev pub ArrayRanOut : {R : Type 0} → Ghosts R → Shape → ℕ → Option (List ℕ) → Option (List ℕ) → Option (List ℕ) → Option (List ℕ) → Running R → Running R → Type 0
ArrayRanOut rack shape first left rest taken given old new =
    ((given ≡ taken) × Told AreAny left rest) ⊎ LinesRanOut rack (reply_line Done) shape first left rest taken given old new

-- a status that a replay can have
abbrev pub IsOfReplay : Status → Type 0
IsOfReplay status_done = Unit {0}
IsOfReplay Usage = ⊥
IsOfReplay BadLine = Unit {0}
IsOfReplay ReadFault = Unit {0}
IsOfReplay WriteFault = Unit {0}
IsOfReplay NoMemory = Unit {0}
IsOfReplay NoState = ⊥
IsOfReplay Unclean = ⊥
IsOfReplay Refused = ⊥

-- An array was made by a first line, and all lines behind it were served. `Means` is what a run with some events and replies means.
pub record ArrayReplayed (Means : List Event → List Reply → Type 0) (make : Event) (left rest taken given : Option (List ℕ)) : Type 0 where
  pub events : List Event
  pub replies : List Reply
  pub ran : Means (make ∷ events) (Done ∷ replies)
  pub input : Told (λ b a. (b ≡ input_of events) × (a ≡ [])) left rest
  pub output : Told (Took (output_of (Done ∷ replies))) taken given

-- The text behind the lines of these events is refused by this kind, and any lines of events in their places that make up the whole
-- begin with them.
pub record IsCutAt (make : Event) (shape : Shape) (events : List Event) (kind : Kind) (whole text : List ℕ) : Type 0 where
  pub lines : whole ≡ input_of events ++ text
  pub refused : IsRefused (Some shape) (2 ^ 40 - length (input_of (make ∷ events))) text kind
  pub only : (others : List Event) → All (IsInPlace (Some shape)) others → whole ≡ input_of others → (more : List Event) × (others ≡ events ++ more) × (text ≡ input_of more)

-- the same up to a line that is refused
pub record ArrayStopped (Means : List Event → List Reply → Type 0) (make : Event) (shape : Shape) (left rest taken given : Option (List ℕ)) : Type 0 where
  pub events : List Event
  pub replies : List Reply
  pub kind : Kind
  pub ran : Means (make ∷ events) (Done ∷ replies)
  pub input : Told (λ b a. (text : List ℕ) × IsCutAt make shape events kind b text) left rest
  pub output : Told (Took (output_of (Done ∷ replies) ++ refusal (length events + 2) kind)) taken given
