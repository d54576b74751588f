-- How lines that are served one after another break off: by a fault of the source, by a fault of the sink, or for want of memory.
use Rattle.std.specs.Prelude.{◌≡◌, ◌⊎◌, ◌≤◌, ◌++◌, ◌+◌, ◌-◌, ◌∷◌, ◌^◌, [], ℕ, List, length, take, Option, Some, All}
use Rattle.dg_io.specs.declared.outside.Rack.{Ghosts}
use Rattle.dg_io.specs.Told.{Told, Took}
use Rattle.dg_model.specs.declared.shapes.Shape.{Shape}
use Rattle.dg_model.specs.declared.events.Event.{Event}
use Rattle.dg_model.specs.declared.replies.Reply.{Reply}
use Rattle.dg_text.specs.Lines.{line_of, input_of, longest, IsInPlace}
use Rattle.dg_text.specs.Replies.{output_of, reply_line}
use Rattle.dg_run.specs.Bytes.{HasNoLineFeed}
use Rattle.dg_run.specs.Histories.{EventCut, EventDone, EventListed, RunsBefore, RunsTo, VolumeRunsTo, Running}
use Rattle.dg_run.specs.Inputs.{AwaitsLine}
use Rattle.dg_run.specs.Steps.{BeginsLines, NotesFile}

-- a source gave these lines, and behind them some bytes without a line feed
pub record GaveLines (lines before after : List ℕ) : Type 0 where
  pub part : List ℕ
  pub split : before ≡ lines ++ (part ++ after)
  pub none : HasNoLineFeed part

-- a text begins with these lines
pub record StartsWith (lines before after : List ℕ) : Type 0 where
  pub more : List ℕ
  pub split : before ≡ lines ++ more

-- a text begins with these lines, and then with one of no more bytes than the longest and than the room
pub record StopsBefore (most room : ℕ) (lines before after : List ℕ) : Type 0 where
  pub more : List ℕ
  pub split : before ≡ lines ++ more
  pub next : AwaitsLine most room more after

-- a sink took this text, and then a part of that one
pub record TookUpTo (whole part before after : List ℕ) : Type 0 where
  pub n : ℕ
  pub is : after ≡ before ++ (whole ++ take n part)

-- one line was taken, of no more bytes than the room, its event was done, and a part of its reply was written
pub record ServedLinePart {R : Type 0} (rack : Ghosts R) (shape : Shape) (room : ℕ) (left rest taken given : Option (List ℕ)) (old new : Running R) : Type 0 where
  pub event : Event
  pub in_place : IsInPlace (Some shape) event
  pub within : length (line_of event) ≤ room
  pub input : Told (StartsWith (line_of event)) left rest
  pub answered : EventCut rack event taken given old new

-- one line was taken, of no more bytes than the room, and memory was wanting for its event
pub record WantedLine {R : Type 0} (rack : Ghosts R) (shape : Shape) (room : ℕ) (left rest taken given : Option (List ℕ)) (old now : Running R) : Type 0 where
  pub event : Event
  pub in_place : IsInPlace (Some shape) event
  pub within : length (line_of event) ≤ room
  pub input : Told (StartsWith (line_of event)) left rest
  pub answered : EventDone rack event taken given old now ⊎ EventListed rack event taken given old now

-- Memory was wanting for a line: one that has no more bytes than the longest and than the room is next, and nothing of a reply was written; or
-- the whole one was, or the first entries of a listing.
abbrev pub RanOutAt : {R : Type 0} → Ghosts R → Shape → ℕ → Option (List ℕ) → Option (List ℕ) → Option (List ℕ) → Option (List ℕ) → Running R → Running R → Type 0
RanOutAt rack shape room left rest taken given old now =
    (Told (AwaitsLine (longest (Some shape)) room) left rest × (given ≡ taken)) ⊎ WantedLine rack shape room left rest taken given old now

-- all lines that the source gave whole were served, and then it failed. `front` was written before their replies
pub record LinesBrokeOff {R : Type 0} (rack : Ghosts R) (front : List ℕ) (shape : Shape) (first : ℕ) (left rest taken given : Option (List ℕ)) (old new : Running R) : Type 0 where
  pub events : List Event
  pub replies : List Reply
  pub in_place : All (IsInPlace (Some shape)) events
  pub budget : first + length (input_of events) ≤ 2 ^ 40
  pub runs : RunsTo rack old events replies new
  pub input : Told (GaveLines (input_of events)) left rest
  pub output : Told (Took (front ++ output_of replies)) taken given

-- lines were served, and of the last reply only a part was written
pub record LinesCut {R : Type 0} (rack : Ghosts R) (front : List ℕ) (shape : Shape) (first : ℕ) (left rest taken given : Option (List ℕ)) (old new : Running R) : Type 0 where
  pub events : List Event
  pub replies : List Reply
  pub last : Reply
  pub in_place : All (IsInPlace (Some shape)) events
  pub budget : first + length (input_of events) ≤ 2 ^ 40
  pub runs : VolumeRunsTo rack old events (replies ++ last ∷ []) new
  pub input : Told (StartsWith (input_of events)) left rest
  pub output : Told (TookUpTo (front ++ output_of replies) (reply_line last)) taken given

-- lines were served, and memory was wanting for the next one, which has no more bytes than the longest and than what is left of the budget
pub record LinesWanted {R : Type 0} (rack : Ghosts R) (front : List ℕ) (shape : Shape) (first : ℕ) (left rest taken given : Option (List ℕ)) (old new : Running R) : Type 0 where
  pub events : List Event
  pub replies : List Reply
  pub in_place : All (IsInPlace (Some shape)) events
  pub budget : first + length (input_of events) ≤ 2 ^ 40
  pub runs : RunsBefore rack old events replies new
  pub input : Told (StopsBefore (longest (Some shape)) (2 ^ 40 - (first + length (input_of events))) (input_of events)) left rest
  pub output : Told (Took (front ++ output_of replies)) taken given

-- lines were served, the last of which asks for a file, and memory was wanting to note that it was read
pub record LinesDone {R : Type 0} (rack : Ghosts R) (front : List ℕ) (shape : Shape) (first : ℕ) (left rest taken given : Option (List ℕ)) (old new : Running R) : Type 0 where
  pub events : List Event
  pub last : Event
  pub replies : List Reply
  pub notes : NotesFile last
  pub in_place : All (IsInPlace (Some shape)) (events ++ last ∷ [])
  pub budget : first + length (input_of (events ++ last ∷ [])) ≤ 2 ^ 40
  pub runs : RunsBefore rack old (events ++ last ∷ []) replies new
  pub input : Told (StartsWith (input_of (events ++ last ∷ []))) left rest
  pub output : Told (Took (front ++ output_of replies)) taken given

-- lines were served, and of a listing that may answer the last one only the first lines were written
pub record LinesListed {R : Type 0} (rack : Ghosts R) (front : List ℕ) (shape : Shape) (first : ℕ) (left rest taken given : Option (List ℕ)) (old new : Running R) : Type 0 where
  pub events : List Event
  pub replies : List Reply
  pub last : Event
  pub reply : Reply
  pub text : List ℕ
  pub lines : BeginsLines last reply text
  pub in_place : All (IsInPlace (Some shape)) (events ++ last ∷ [])
  pub budget : first + length (input_of (events ++ last ∷ [])) ≤ 2 ^ 40
  pub runs : RunsBefore rack old (events ++ last ∷ []) (replies ++ reply ∷ []) new
  pub input : Told (StartsWith (input_of (events ++ last ∷ []))) left rest
  pub output : Told (Took (front ++ (output_of replies ++ text))) taken given

-- memory was wanting behind lines that were served: for the next line, behind a file's bytes, or within a listing, to the end of an entry
abbrev pub LinesRanOut : {R : Type 0} → Ghosts R → List ℕ → Shape → ℕ → Option (List ℕ) → Option (List ℕ) → Option (List ℕ) → Option (List ℕ) → Running R → Running R → Type 0
LinesRanOut rack front shape first left rest taken given old new =
    LinesWanted rack front shape first left rest taken given old new
    ⊎ (LinesDone rack front shape first left rest taken given old new ⊎ LinesListed rack front shape first left rest taken given old new)
