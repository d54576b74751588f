-- What a trace on a saved array means: the events of its input, their replies, and what the rack holds at the end.
use Rattle.std.specs.Prelude.{Bool, ◌≡◌, ◌⊎◌, ◌≤◌, ◌+◌, ◌-◌, ◌/◌, ◌^◌, ◌++◌, [], ◌∷◌, ℕ, List, length, None, Option, Some, All}
use Rattle.dg_io.specs.Kept.{Kept}
use Rattle.dg_io.specs.Told.{Told, Took}
use Rattle.dg_model.specs.States.{Counts, CountsRise}
use Rattle.dg_model.specs.declared.events.Event.{Event}
use Rattle.dg_model.specs.declared.replies.Reply.{Reply}
use Rattle.dg_model.specs.declared.shapes.Shape.{Shape}
use Rattle.dg_regroup.specs.declared.extras.Extra.{Extra}
use Rattle.dg_run.specs.Calls.{Facts, met_by}
use Rattle.dg_run.specs.Endings.{GaveLines, StartsWith, StopsBefore, TookUpTo}
use Rattle.dg_run.specs.Events.{IsRefused}
use Rattle.dg_run.specs.Finds.{FindsPlain, HasSamePages, Sees, boundaries_said}
use Rattle.dg_run.specs.Keeping.{IsFoundAs}
use Rattle.dg_run.specs.Opened.{ReadsNothing, Reached, ReachedKept, Resumed, ResumedKept}
use Rattle.dg_run.specs.Steps.{BeginsLines, NotesFile}
use Rattle.dg_run.specs.declared.top.Status.{Status}
use Rattle.dg_run.specs.declared.top.Status.TheVariants.{Done, BadLine, ReadFault, WriteFault, NoMemory, NoState, Unclean}
use Rattle.dg_saved.specs.Calls as commands
use Rattle.dg_saved.specs.Ends.{CutUnopened, Printed}
use Rattle.dg_saved.specs.Saved.{FoundNoState, FoundUnclean, HasSource, OthersKept}
use Rattle.dg_saved.specs.Texts.{nostate_text, unclean_text}
use Rattle.dg_stop.specs.Phases.{TellsKnown, known_at}
use Rattle.dg_stop.specs.Reopens.{Reopened}
use Rattle.dg_text.specs.Lines.{IsInPlace, input_of, longest}
use Rattle.dg_text.specs.Replies.{output_of, refusal, reply_line}
use Rattle.dg_text.specs.declared.lines.BadLine.{BadLine as Kind}

-- lines of these events, on an array of this shape
pub record AreLines (shape : Shape) (events : List Event) : Type 0 where
  pub in_place : All (IsInPlace (Some shape)) events
  pub budget : length (input_of events) ≤ 2 ^ 40

-- ---- what a run means

-- A saved array was opened, and no count fell from then on; the members behind its own have the bytes that they had. These events are in
-- their places, and had these replies: of whichever blocks, one for each of the array's, in steps from the state opened with them. What these
-- say of the blocks is known where the members held them, and then the rack holds the last state.
pub record RanOn (tells : ℕ → Type 0) (facts : Facts) (events : List Event) (replies : List Reply) : Type 0 where
  pub opened : Counts
  pub source : HasSource (met_by facts) opened
  pub rise : CountsRise opened facts.now
  pub others : OthersKept (met_by facts) source.saved.table
  pub lines : AreLines source.saved.table.shape events
  pub runs : (V : List (List ℕ)) → length V ≡ source.saved.table.shape.n → Reached tells facts opened source V events replies

-- the same, but nothing is said of what the rack holds
pub record WantedOn (tells : ℕ → Type 0) (facts : Facts) (events : List Event) (replies : List Reply) : Type 0 where
  pub opened : Counts
  pub source : HasSource (met_by facts) opened
  pub rise : CountsRise opened facts.now
  pub lines : AreLines source.saved.table.shape events
  pub runs : (V : List (List ℕ)) → length V ≡ source.saved.table.shape.n → Resumed tells facts opened source V events replies

-- the text is the lines of these events, and then one that is refused by this kind; and no lines of events in their places make it up
pub record StopsOn (shape : Shape) (events : List Event) (kind : Kind) (whole text : List ℕ) : Type 0 where
  pub lines : whole ≡ input_of events ++ text
  pub refused : IsRefused (Some shape) (2 ^ 40 - length (input_of events)) text kind
  pub none : (others : List Event) → AreLines shape others → whole ≡ input_of others → ⊥

-- The shape of the array that a run was on.
abbrev pub ShapeOf : (List Event → List Reply → Type 0) → Type 0
ShapeOf Runs = (events : List Event) (replies : List Reply) → Runs events replies → Shape

-- ---- an array that keeps a checkpoint

-- The same of what is seen of it.
pub record RanOnKept (tells : ℕ → Type 0) (WasKept : Kept → Type 0) (facts : Facts) (seen : commands.Facts) (said : Option Extra) (events : List Event) (replies : List Reply) : Type 0 where
  pub opened : Counts
  pub source : HasSource seen opened
  pub lines : AreLines source.saved.table.shape events
  pub runs : (V : List (List ℕ)) → length V ≡ source.saved.table.shape.n → ReachedKept tells facts seen said opened source WasKept V events replies

pub record WantedOnKept (tells : ℕ → Type 0) (facts : Facts) (seen : commands.Facts) (said : Option Extra) (events : List Event) (replies : List Reply) : Type 0 where
  pub opened : Counts
  pub source : HasSource seen opened
  pub lines : AreLines source.saved.table.shape events
  pub runs : (V : List (List ℕ)) → length V ≡ source.saved.table.shape.n → ResumedKept tells facts seen said opened source V events replies

-- ---- what came of an input, by what a run with these events and replies means

-- the input was read to its end, and is the lines of these events, of which there may be none; the output is the text of their replies
pub record AllResumedBy (Runs : List Event → List Reply → Type 0) (facts : Facts) : Type 0 where
  pub events : List Event
  pub replies : List Reply
  pub ran : Runs events replies
  pub input : Told (λ b a. (b ≡ input_of events) × (a ≡ [])) facts.left facts.rest
  pub output : Told (Took (output_of replies)) facts.taken facts.given

-- the input is the lines of these events and then a line that is refused; the output is the text of their replies and then the refusal, with
-- that line's number, counted from 1, and kind
pub record ResumeStoppedBy (Runs : List Event → List Reply → Type 0) (shape : ShapeOf Runs) (facts : Facts) : Type 0 where
  pub events : List Event
  pub replies : List Reply
  pub kind : Kind
  pub ran : Runs events replies
  pub input : Told (λ b a. (text : List ℕ) × StopsOn (shape events replies ran) events kind b text) facts.left facts.rest
  pub output : Told (Took (output_of replies ++ refusal (length events + 1) kind)) facts.taken facts.given

-- the source failed: the lines that it gave whole are those of these events
pub record ResumeBrokeOffBy (Runs : List Event → List Reply → Type 0) (facts : Facts) : Type 0 where
  pub events : List Event
  pub replies : List Reply
  pub ran : Runs events replies
  pub input : Told (GaveLines (input_of events)) facts.left facts.rest
  pub output : Told (Took (output_of replies)) facts.taken facts.given

-- the sink failed at the last reply
pub record ResumeCutBy (Runs : List Event → List Reply → Type 0) (facts : Facts) : Type 0 where
  pub events : List Event
  pub replies : List Reply
  pub last : Reply
  pub ran : Runs events (replies ++ last ∷ [])
  pub input : Told (StartsWith (input_of events)) facts.left facts.rest
  pub output : Told (TookUpTo (output_of replies) (reply_line last)) facts.taken facts.given

-- the sink failed at the refusal of a line
pub record ResumeCutRefusalBy (Runs : List Event → List Reply → Type 0) (shape : ShapeOf Runs) (facts : Facts) : Type 0 where
  pub events : List Event
  pub replies : List Reply
  pub kind : Kind
  pub ran : Runs events replies
  pub input : Told (λ b a. (text : List ℕ) × StopsOn (shape events replies ran) events kind b text) facts.left facts.rest
  pub output : Told (TookUpTo (output_of replies) (refusal (length events + 1) kind)) facts.taken facts.given

-- memory was wanting for a line, which is refused neither for its length nor for the input's end
pub record ResumeWantedBy (Runs : List Event → List Reply → Type 0) (shape : ShapeOf Runs) (facts : Facts) : Type 0 where
  pub events : List Event
  pub replies : List Reply
  pub ran : Runs events replies
  pub input : Told (StopsBefore (longest (Some (shape events replies ran))) (2 ^ 40 - length (input_of events)) (input_of events)) facts.left facts.rest
  pub output : Told (Took (output_of replies)) facts.taken facts.given

-- memory was wanting behind a file's bytes
pub record ResumeDoneBy (Runs : List Event → List Reply → Type 0) (facts : Facts) : Type 0 where
  pub events : List Event
  pub last : Event
  pub replies : List Reply
  pub notes : NotesFile last
  pub ran : Runs (events ++ last ∷ []) replies
  pub input : Told (StartsWith (input_of (events ++ last ∷ []))) facts.left facts.rest
  pub output : Told (Took (output_of replies)) facts.taken facts.given

-- memory was wanting within a listing, of which the first lines were written
pub record ResumeListedBy (Runs : List Event → List Reply → Type 0) (facts : Facts) : Type 0 where
  pub events : List Event
  pub replies : List Reply
  pub last : Event
  pub reply : Reply
  pub text : List ℕ
  pub lines : BeginsLines last reply text
  pub ran : Runs (events ++ last ∷ []) (replies ++ reply ∷ [])
  pub input : Told (StartsWith (input_of (events ++ last ∷ []))) facts.left facts.rest
  pub output : Told (Took (output_of replies ++ text)) facts.taken facts.given

-- By the status: all lines were done, or those before one that is refused, or before a fault; or no array was opened, and no input was read. Where memory was
-- wanting less is said of a run (`Wants`). What was met of the rack is told apart (`met`).
module _ (Runs Wants : List Event → List Reply → Type 0) (shape : ShapeOf Runs) (wanted : ShapeOf Wants) (facts : Facts) (met : commands.Facts) where
  abbrev pub EndsResumeBy : Status → Type 0
  EndsResumeBy Done = AllResumedBy Runs facts
  EndsResumeBy BadLine = ResumeStoppedBy Runs shape facts
  EndsResumeBy ReadFault = ResumeBrokeOffBy Runs facts
  EndsResumeBy WriteFault = (ReadsNothing facts × CutUnopened met) ⊎ (ResumeCutBy Runs facts ⊎ ResumeCutRefusalBy Runs shape facts)
  EndsResumeBy NoMemory =
      (ReadsNothing facts × (facts.given ≡ facts.taken)) ⊎ (ResumeWantedBy Wants wanted facts ⊎ (ResumeDoneBy Wants facts ⊎ ResumeListedBy Wants facts))
  EndsResumeBy NoState = ReadsNothing facts × FoundNoState met × Printed met nostate_text
  EndsResumeBy Unclean = ReadsNothing facts × FoundUnclean met × Printed met unclean_text
  EndsResumeBy status = ⊥

-- ---- either of them

-- of an array that keeps no checkpoint
abbrev pub shape_on : (tells : ℕ → Type 0) (facts : Facts) → ShapeOf (RanOn tells facts)
shape_on tells facts events replies ran = ran.source.saved.table.shape

abbrev pub shape_wanted : (tells : ℕ → Type 0) (facts : Facts) → ShapeOf (WantedOn tells facts)
shape_wanted tells facts events replies ran = ran.source.saved.table.shape

abbrev pub EndsResume : (ℕ → Type 0) → Facts → Status → Type 0
EndsResume tells facts status =
    EndsResumeBy (RanOn tells facts) (WantedOn tells facts) (shape_on tells facts) (shape_wanted tells facts) facts (met_by facts) status

-- of one that keeps a checkpoint, by what is seen of it
abbrev pub shape_kept : (tells : ℕ → Type 0) (WasKept : Kept → Type 0) (facts : Facts) (seen : commands.Facts) (said : Option Extra)
    → ShapeOf (RanOnKept tells WasKept facts seen said)
shape_kept tells WasKept facts seen said events replies ran = ran.source.saved.table.shape

abbrev pub shape_wanted_kept : (tells : ℕ → Type 0) (facts : Facts) (seen : commands.Facts) (said : Option Extra) → ShapeOf (WantedOnKept tells facts seen said)
shape_wanted_kept tells facts seen said events replies ran = ran.source.saved.table.shape

abbrev pub EndsResumeKept : (ℕ → Type 0) → (Kept → Type 0) → Facts → commands.Facts → Option Extra → Status → Type 0
EndsResumeKept tells WasKept facts seen said status =
    EndsResumeBy (RanOnKept tells WasKept facts seen said) (WantedOnKept tells facts seen said) (shape_kept tells WasKept facts seen said) (shape_wanted_kept tells facts seen said)
    facts seen status

-- memory was wanting before anything was found
pub record WantsFirst (facts : Facts) (status : Status) : Type 0 where
  pub is : status ≡ NoMemory
  pub reads : ReadsNothing facts
  pub prints : facts.given ≡ facts.taken

-- the rack was steady when the run began (`steady`), and its known members were reopened as this checkpoint
abbrev pub WasFound : Type 0 → (ℕ → Bool) → Facts → Kept → Type 0
WasFound steady known facts kept = steady × IsFoundAs known facts.images kept

-- A member behind the first line's boundaries that the last commit doesn't have was left alone.
pub record ResumesKept (steady : Type 0) (tells : ℕ → Type 0) (facts : Facts) (status : Status) : Type 0 where
  pub seen : commands.Facts
  pub sees : Sees tells (met_by facts) seen
  pub others : TellsKnown sees.known facts.bytes → (kept : Kept) → Reopened (known_at sees.known facts.images) kept
      → (m : ℕ) → boundaries_said sees.said ≤ m / 2 → kept.entries m ≡ None → HasSamePages (met_by facts) seen.room sees.sizes m
  pub ends : EndsResumeKept tells (WasFound steady sees.known facts) facts seen sees.said status

abbrev pub EndsResumed : Type 0 → (ℕ → Type 0) → Facts → Status → Type 0
EndsResumed steady tells facts status =
    WantsFirst facts status ⊎ (FindsPlain (met_by facts) (EndsResume tells facts status) ⊎ ResumesKept steady tells facts status)
