-- How each command ends, by its status.
use Rattle.std.specs.Prelude.{◌≡◌, ◌⊎◌, ℕ, List, Option, Bool, true, false, Result, Ok, Err}
use Rattle.dg_io.specs.Told.{Told, Took, TookPart}
use Rattle.dg_drill.specs.Drills.{EndsDrill}
use Rattle.dg_drill.specs.declared.drills.DrillEnd.{DrillEnd}
use Rattle.dg_drill.specs.declared.drills.DrillEnd.TheVariants.{Done as Drilled, WriteFault as DrillCut}
use Rattle.dg_run.specs.Calls.{Facts, drill_met, met_by, streams_of}
use Rattle.dg_run.specs.Replays.{BrokeOff, IsCut, RanOut, Replayed, Stopped}
use Rattle.dg_run.specs.Finds.{Finds}
use Rattle.dg_run.specs.Resumes.{EndsResumed}
use Rattle.dg_run.specs.declared.top.Status.{Status}
use Rattle.dg_run.specs.declared.top.Status.TheVariants.{Done, Usage, BadLine, ReadFault, WriteFault, NoMemory, NoState, Unclean, Refused}
use Rattle.dg_saved.specs.Calls as commands
use Rattle.dg_saved.specs.Ends.{EndsCat, EndsLs, EndsStatus}
use Rattle.dg_saved.specs.declared.ends.SavedEnd.{SavedEnd}
use Rattle.dg_saved.specs.declared.ends.SavedEnd.TheVariants.{Done as SavedDone, NoState as SavedNoState, Refused as SavedRefused, Unclean as SavedUnclean, WriteFault as SavedWriteFault}
use Rattle.dg_text.specs.Replies.{usage}
use Rattle.dg_trace.specs.Audits.{AuditEnds}
use Rattle.dg_trace.specs.Calls as traces
use Rattle.dg_trace.specs.Ends.{Ends as EndsImage}
use Rattle.dg_trace.specs.declared.asked.Asked.{Asked}
use Rattle.dg_trace.specs.declared.audits.AuditEnd.{AuditEnd}
use Rattle.dg_trace.specs.declared.audits.AuditEnd.TheVariants.{Length as AuditedLength, Malformed, Sound}
use Rattle.dg_trace.specs.declared.asked.TraceEnd.{TraceEnd}
use Rattle.dg_trace.specs.declared.asked.TraceEnd.TheVariants.{Refused as ImageRefused, Written}
use Rattle.dg_trace.specs.declared.asked.TraceFault.{TraceFault}
use Rattle.dg_trace.specs.declared.asked.TraceFault.TheVariants.{NoMemory as ImageNoMemory, Read as ImageRead, Write as ImageWrite}
use Rattle.dg_trace.specs.declared.asked.TraceRefusal.{TraceRefusal}
use Rattle.dg_words.specs.Commands.{IsCommand}
use Rattle.dg_words.specs.declared.commands.Command.{Command}
use Rattle.dg_words.specs.declared.commands.Command.TheVariants.{Audit, Cat, Drill, Ls, Replay, Resume, Status as StatusCommand, Trace}
use Rattle.dg_words.specs.declared.commands.Order.{Order}

-- words that are no command: the usage line is printed, or a part of it
abbrev pub EndsUsage : Facts → Status → Type 0
EndsUsage facts Usage = Told (Took usage) facts.taken facts.given
EndsUsage facts WriteFault = Told (TookPart usage) facts.taken facts.given
EndsUsage facts NoMemory = facts.given ≡ facts.taken
EndsUsage facts status = ⊥

-- a replay: all lines were done, or those before one that is refused, or before a fault
abbrev pub EndsReplay : Type 0 → (ℕ → Type 0) → Facts → Status → Type 0
EndsReplay steady tells facts Done = Replayed facts.before facts.now facts.images facts.bytes steady tells facts.left facts.rest facts.taken facts.given
EndsReplay steady tells facts BadLine = Stopped facts.before facts.now facts.images facts.bytes steady tells facts.left facts.rest facts.taken facts.given
EndsReplay steady tells facts ReadFault = BrokeOff facts.before facts.now facts.images facts.bytes steady tells facts.left facts.rest facts.taken facts.given
EndsReplay steady tells facts WriteFault = IsCut facts.before facts.now facts.images facts.bytes steady tells facts.left facts.rest facts.taken facts.given
EndsReplay steady tells facts NoMemory = RanOut facts.before tells facts.left facts.rest facts.taken facts.given
EndsReplay steady tells facts status = ⊥

-- ---- commands that only read the saved array, by what they find

abbrev pub FindsCat : (ℕ → Type 0) → commands.Facts → List ℕ → SavedEnd → Type 0
FindsCat tells facts path end = Finds tells facts (λ told seen. EndsCat told seen path end)

abbrev pub FindsLs : (ℕ → Type 0) → commands.Facts → List ℕ → SavedEnd → Type 0
FindsLs tells facts path end = Finds tells facts (λ told seen. EndsLs told seen path end)

abbrev pub FindsStatus : (ℕ → Type 0) → commands.Facts → SavedEnd → Type 0
FindsStatus tells facts end = Finds tells facts (λ told seen. EndsStatus told seen end)

-- the status of such a command
abbrev pub status_by : SavedEnd → Status
status_by SavedDone = Done
status_by SavedRefused = Refused
status_by SavedNoState = NoState
status_by SavedUnclean = Unclean
status_by SavedWriteFault = WriteFault

-- it ends by its own rules; at want of memory nothing was printed
abbrev pub EndsSaved : (SavedEnd → Type 0) → Option (List ℕ) → Option (List ℕ) → Status → Type 0
EndsSaved ends taken given Done = ends SavedDone
EndsSaved ends taken given Refused = ends SavedRefused
EndsSaved ends taken given NoState = ends SavedNoState
EndsSaved ends taken given Unclean = ends SavedUnclean
EndsSaved ends taken given WriteFault = ends SavedWriteFault
EndsSaved ends taken given NoMemory = given ≡ taken
EndsSaved ends taken given status = ⊥

-- the status of a trace that is made of an image
abbrev pub trace_status : Result TraceEnd TraceFault → Status
trace_status (Ok Written) = Done
trace_status (Ok (ImageRefused refusal)) = Refused
trace_status (Err ImageRead) = ReadFault
trace_status (Err ImageWrite) = WriteFault
trace_status (Err ImageNoMemory) = NoMemory

-- such a trace: it was written, or why there is none; or a fault came, or memory was wanting, before that or in the middle
abbrev pub EndsTrace : traces.Facts → Asked → Status → Type 0
EndsTrace facts asked Done = EndsImage facts asked (Ok Written)
EndsTrace facts asked Refused = (refusal : TraceRefusal) × EndsImage facts asked (Ok (ImageRefused refusal))
EndsTrace facts asked ReadFault = EndsImage facts asked (Err ImageRead)
EndsTrace facts asked WriteFault = EndsImage facts asked (Err ImageWrite)
EndsTrace facts asked NoMemory = EndsImage facts asked (Err ImageNoMemory)
EndsTrace facts asked status = ⊥

-- what is asked for beside the image
abbrev pub asked_by : Order → ℕ → ℕ → ℕ → Asked
asked_by order b k m = record { order = order; b = b; k = k; m = m }

-- the status of an audit of an image
abbrev pub audit_status : Result AuditEnd TraceFault → Status
audit_status (Ok Sound) = Done
audit_status (Ok Malformed) = Refused
audit_status (Ok AuditedLength) = Refused
audit_status (Err ImageRead) = ReadFault
audit_status (Err ImageWrite) = WriteFault
audit_status (Err ImageNoMemory) = NoMemory

-- Such an audit: its lines were printed, and tell no malformation; or they tell some, or the image has a wrong length; or a fault came, or memory was
-- wanting.
abbrev pub EndsAudit : traces.Facts → Status → Type 0
EndsAudit facts Done = AuditEnds facts (Ok Sound)
EndsAudit facts Refused = AuditEnds facts (Ok Malformed) ⊎ AuditEnds facts (Ok AuditedLength)
EndsAudit facts ReadFault = AuditEnds facts (Err ImageRead)
EndsAudit facts WriteFault = AuditEnds facts (Err ImageWrite)
EndsAudit facts NoMemory = AuditEnds facts (Err ImageNoMemory)
EndsAudit facts status = ⊥

-- the status of a drill
abbrev pub drill_status : DrillEnd → Status
drill_status Drilled = Done
drill_status DrillCut = WriteFault

-- a drill; at want of memory nothing was printed
abbrev pub EndsDrilled : (DrillEnd → Type 0) → Option (List ℕ) → Option (List ℕ) → Status → Type 0
EndsDrilled ends taken given Done = ends Drilled
EndsDrilled ends taken given WriteFault = ends DrillCut
EndsDrilled ends taken given NoMemory = given ≡ taken
EndsDrilled ends taken given status = ⊥

-- Each command by its own rules. What is known of blocks is known where the rack tells the members in the end (`tells`), and what a rack is reopened as
-- where it was steady before (`steady`).
abbrev pub Ends : Type 0 → (ℕ → Type 0) → Facts → Command → Status → Type 0
Ends steady tells facts Replay status = EndsReplay steady tells facts status
Ends steady tells facts Resume status = EndsResumed steady tells facts status
Ends steady tells facts (Cat path) status = EndsSaved (FindsCat tells (met_by facts) path) facts.taken facts.given status
Ends steady tells facts (Ls path) status = EndsSaved (FindsLs tells (met_by facts) path) facts.taken facts.given status
Ends steady tells facts StatusCommand status = EndsSaved (FindsStatus tells (met_by facts)) facts.taken facts.given status
Ends steady tells facts (Trace order b k m) status = EndsTrace (streams_of facts) (asked_by order b k m) status
Ends steady tells facts (Drill seed files) status = EndsDrilled (EndsDrill tells (drill_met facts) seed files) facts.taken facts.given status
Ends steady tells facts Audit status = EndsAudit (streams_of facts) status

-- the commands that read the input
abbrev pub reads_input : Command → Bool
reads_input Replay = true
reads_input Resume = true
reads_input (Trace order b k m) = true
reads_input Audit = true
reads_input command = false

-- the commands that use the members of an array
abbrev pub uses_array : Command → Bool
uses_array (Trace order b k m) = false
uses_array Audit = false
uses_array command = true

-- A call of the sink takes a line, or so many bytes: the bytes of a file that `cat` prints are passed on in the pieces in which they are read.
abbrev pub line_bytes : Command → ℕ
line_bytes (Cat path) = 1
line_bytes command = 255

-- the words are no command
abbrev pub AreNoCommand : List (List ℕ) → Type 0
AreNoCommand words = (command : Command) → IsCommand words command → ⊥
