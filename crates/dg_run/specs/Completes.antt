-- What each command answers where neither the source nor the sink fails.
use Rattle.std.specs.Prelude.{◌≡◌, ◌⊎◌, ℕ, List, Option, Some, IsSome, Result, Ok, Err}
use Rattle.dg_model.specs.States.{Counts}
use Rattle.dg_model.specs.declared.events.Event.{Event}
use Rattle.dg_run.specs.Calls.{Facts, met_by, streams_of}
use Rattle.dg_run.specs.Ends.{asked_by}
use Rattle.dg_run.specs.Finds.{Sees}
use Rattle.dg_run.specs.Replays.{IsInput}
use Rattle.dg_run.specs.Resumes.{AreLines}
use Rattle.dg_run.specs.declared.top.Status.{Status}
use Rattle.dg_run.specs.declared.top.Status.TheVariants.{Done, NoMemory, NoState, Refused, Unclean}
use Rattle.dg_saved.specs.Calls as commands
use Rattle.dg_saved.specs.Saved.{HasSource}
use Rattle.dg_text.specs.Lines.{input_of}
use Rattle.dg_trace.specs.Answers.{IsAnswer}
use Rattle.dg_trace.specs.Calls as traces
use Rattle.dg_trace.specs.declared.asked.Asked.{Asked}
use Rattle.dg_trace.specs.declared.asked.TraceRefusal.{TraceRefusal}
use Rattle.dg_words.specs.declared.commands.Command.{Command}
use Rattle.dg_words.specs.declared.commands.Command.TheVariants.{Audit, Cat, Drill, Ls, Replay, Resume, Status as StatusCommand, Trace}
use Rattle.ufs_model.specs.declared.geometries.Geometry.{Geometry}

-- the source had this text left, and tells what it has at the end
abbrev pub IsText : Option (List ℕ) → Option (List ℕ) → List ℕ → Type 0
IsText left rest text = (left ≡ Some text) × IsSome rest

-- there is no array to open: no member says a state, or one that counts was written after its save
abbrev pub IsUnopened : Status → Type 0
IsUnopened status = (status ≡ NoState) ⊎ (status ≡ Unclean)

-- acceptable lines are replayed
abbrev pub CompletesReplay : Facts → Status → Type 0
CompletesReplay facts status = (events : List Event) → IsInput events → IsText facts.left facts.rest (input_of events) → (status ≡ Done) ⊎ (status ≡ NoMemory)

-- so are lines that are acceptable on whichever array was opened
abbrev pub CompletesResume : (ℕ → Type 0) → Facts → Status → Type 0
CompletesResume tells facts status = (events : List Event)
    → ((opened : Counts) (source : HasSource (met_by facts) opened) → AreLines source.saved.table.shape events)
    → ((seen : commands.Facts) → Sees tells (met_by facts) seen → (opened : Counts) (source : HasSource seen opened) → AreLines source.saved.table.shape events)
    → IsText facts.left facts.rest (input_of events) → (status ≡ Done) ⊎ (IsUnopened status ⊎ (status ≡ NoMemory))

-- the status by the answer to an image
abbrev pub answer_status : Result Geometry TraceRefusal → Status
answer_status (Ok g) = Done
answer_status (Err refusal) = Refused

-- of an image that is accepted a trace is made, and another one is refused
abbrev pub CompletesTrace : traces.Facts → Asked → Status → Type 0
CompletesTrace facts asked status = (image : List ℕ) (answer : Result Geometry TraceRefusal) → IsText facts.left facts.rest image
    → IsAnswer asked image answer → (status ≡ answer_status answer) ⊎ (status ≡ NoMemory)

-- By the command. Which of several statuses it is, and why, its rules say (`Ends`).
abbrev pub Completes : (ℕ → Type 0) → Facts → Command → Status → Type 0
Completes tells facts Replay status = CompletesReplay facts status
Completes tells facts Resume status = CompletesResume tells facts status
Completes tells facts (Cat path) status = (status ≡ Done) ⊎ ((status ≡ Refused) ⊎ (IsUnopened status ⊎ (status ≡ NoMemory)))
Completes tells facts (Ls path) status = (status ≡ Done) ⊎ ((status ≡ Refused) ⊎ (IsUnopened status ⊎ (status ≡ NoMemory)))
Completes tells facts StatusCommand status = (status ≡ Done) ⊎ (IsUnopened status ⊎ (status ≡ NoMemory))
Completes tells facts (Trace order b k m) status = CompletesTrace (streams_of facts) (asked_by order b k m) status
Completes tells facts (Drill seed files) status = (status ≡ Done) ⊎ (status ≡ NoMemory)
Completes tells facts Audit status = (status ≡ Done) ⊎ ((status ≡ Refused) ⊎ (status ≡ NoMemory))
