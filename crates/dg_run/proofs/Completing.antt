-- What commands answer where neither the source nor the sink fails.
use Rattle.std.proofs.Common.{◌≡◌, ◌≤◌, ◌<◌, ◌+◌, ◌^◌, ◌++◌, ◌∙◌, ℕ, List, ap, arith, inl, inr, length, length-append, refl, sym, subst}
use Rattle.std.specs.Prelude.{◌⊎◌, Option, Result, Ok, Err}
use Rattle.std.proofs.lemmas.List.{append-nil}
use Rattle.dg_drill.specs.Drills.{EndsDrill}
use Rattle.dg_drill.specs.declared.drills.DrillEnd.{DrillEnd}
use Rattle.dg_run.proofs.Refusing.{le_or_lt}
use Rattle.dg_run.proofs.Whole.{told_front}
use Rattle.dg_run.specs.Calls.{Facts, drill_met, met_by, streams_of}
use Rattle.dg_run.specs.Completes.{Completes, CompletesReplay, CompletesResume, CompletesTrace, IsText, IsUnopened, answer_status}
use Rattle.dg_run.specs.Ends.{Ends, EndsDrilled, EndsReplay, EndsAudit, EndsSaved, EndsTrace, FindsCat, FindsLs, asked_by}
use Rattle.dg_run.specs.Resumes.{AreLines, EndsResumeBy, EndsResumed, RanOn, RanOnKept, ShapeOf, WantedOn, WantedOnKept, WasFound, shape_kept, shape_on, shape_wanted, shape_wanted_kept}
use Rattle.dg_run.specs.declared.top.Status.{Status}
use Rattle.dg_run.specs.declared.top.Status.TheVariants.{Done, Usage, BadLine, ReadFault, WriteFault, NoMemory, NoState, Unclean, Refused}
use Rattle.dg_saved.specs.Calls as commands
use Rattle.dg_model.specs.declared.events.Event.{Event}
use Rattle.dg_model.specs.declared.replies.Reply.{Reply}
use Rattle.dg_saved.specs.declared.ends.SavedEnd.{SavedEnd}
use Rattle.dg_text.specs.Lines.{input_of}
use Rattle.dg_trace.specs.Answers.{IsAccepted, IsAnswer, IsInSize, IsRefused}
use Rattle.dg_trace.specs.Calls as traces
use Rattle.dg_trace.specs.Images.{GaveImage}
use Rattle.dg_trace.specs.declared.asked.Asked.{Asked}
use Rattle.dg_trace.specs.declared.asked.TraceRefusal.{TraceRefusal}
use Rattle.dg_trace.specs.declared.asked.TraceRefusal.TheVariants.{Length}
use Rattle.dg_words.specs.declared.commands.Command.{Command}
use Rattle.dg_words.specs.declared.commands.Command.TheVariants.{Replay, Resume, Cat, Ls, Status as StatusCommand, Trace, Drill, Audit}
use Rattle.ufs_model.specs.declared.geometries.Geometry.{Geometry}

-- no fault came
abbrev pub NoFault : Status → Type 0
NoFault status = (status ≡ ReadFault → ⊥) × (status ≡ WriteFault → ⊥)

replay_done : (steady : Type 0) (tells : ℕ → Type 0) (f : Facts) (status : Status) → EndsReplay steady tells f status → NoFault status → CompletesReplay f status
replay_done steady tells f Done ends none events input text = inl refl
replay_done steady tells f BadLine ends none events input (is, some) =
    let front = told_front _ f.left f.rest (input_of events) is some ends.input in
    absurd (front.1.3 events input refl)
replay_done steady tells f ReadFault ends none events input text = absurd (none.0 refl)
replay_done steady tells f WriteFault ends none events input text = absurd (none.1 refl)
replay_done steady tells f NoMemory ends none events input text = inr refl
replay_done steady tells f Usage ends none events input text = absurd ends
replay_done steady tells f NoState ends none events input text = absurd ends
replay_done steady tells f Unclean ends none events input text = absurd ends
replay_done steady tells f Refused ends none events input text = absurd ends

-- an opened array, by what a run on it means, where lines are acceptable on whichever array that is
resume_by : (Runs Wants : List Event → List Reply → Type 0) (shape : ShapeOf Runs) (wanted : ShapeOf Wants) (f : Facts) (met : commands.Facts) (status : Status)
    → EndsResumeBy Runs Wants shape wanted f met status → NoFault status → (events : List Event) → ((done : List Event) (replies : List Reply) (ran : Runs done replies) → AreLines (shape done replies ran) events)
    → IsText f.left f.rest (input_of events) → (status ≡ Done) ⊎ (IsUnopened status ⊎ (status ≡ NoMemory))
resume_by Runs Wants shape wanted f met Done ends none events lines text = inl refl
resume_by Runs Wants shape wanted f met BadLine ends none events lines (is, some) =
    let front = told_front _ f.left f.rest (input_of events) is some ends.input in
    absurd (front.1.1.none events (lines ends.events ends.replies ends.ran) refl)
resume_by Runs Wants shape wanted f met ReadFault ends none events lines text = absurd (none.0 refl)
resume_by Runs Wants shape wanted f met WriteFault ends none events lines text = absurd (none.1 refl)
resume_by Runs Wants shape wanted f met NoMemory ends none events lines text = inr (inr refl)
resume_by Runs Wants shape wanted f met Usage ends none events lines text = absurd ends
resume_by Runs Wants shape wanted f met NoState ends none events lines text = inr (inl (inl refl))
resume_by Runs Wants shape wanted f met Unclean ends none events lines text = inr (inl (inr refl))
resume_by Runs Wants shape wanted f met Refused ends none events lines text = absurd ends

resume_done : (steady : Type 0) (tells : ℕ → Type 0) (f : Facts) (status : Status) → EndsResumed steady tells f status → NoFault status → CompletesResume tells f status
resume_done steady tells f status (inl first) none events plain kept text = inr (inr first.is)
resume_done steady tells f status (inr (inl h)) none events plain kept text =
    resume_by (RanOn tells f) (WantedOn tells f) (shape_on tells f) (shape_wanted tells f) f (met_by f) status h.ends none events (λ done replies ran. plain ran.opened ran.source) text
resume_done steady tells f status (inr (inr h)) none events plain kept text =
    resume_by (RanOnKept tells (WasFound steady h.sees.known f) f h.seen h.sees.said) (WantedOnKept tells f h.seen h.sees.said) (shape_kept tells (WasFound steady h.sees.known f) f h.seen h.sees.said) (shape_wanted_kept tells f h.seen h.sees.said) f h.seen status
    h.ends none events (λ done replies ran. kept h.seen h.sees ran.opened ran.source) text

-- a file or a listing
saved_done : (ends : SavedEnd → Type 0) (taken given : Option (List ℕ)) (status : Status) → EndsSaved ends taken given status → NoFault status
    → (status ≡ Done) ⊎ ((status ≡ Refused) ⊎ (IsUnopened status ⊎ (status ≡ NoMemory)))
saved_done ends taken given Done is none = inl refl
saved_done ends taken given Refused is none = inr (inl refl)
saved_done ends taken given NoState is none = inr (inr (inl (inl refl)))
saved_done ends taken given Unclean is none = inr (inr (inl (inr refl)))
saved_done ends taken given NoMemory is none = inr (inr (inr refl))
saved_done ends taken given ReadFault is none = absurd (none.0 refl)
saved_done ends taken given WriteFault is none = absurd (none.1 refl)
saved_done ends taken given Usage is none = absurd is
saved_done ends taken given BadLine is none = absurd is

-- the state
pub shown_done : (steady : Type 0) (tells : ℕ → Type 0) (f : Facts) (status : Status) → Ends steady tells f StatusCommand status → NoFault status → Completes tells f StatusCommand status
shown_done steady tells f Done is none = inl refl
shown_done steady tells f Refused (inl is) none = absurd is.ends
shown_done steady tells f Refused (inr is) none = absurd is.ends
shown_done steady tells f NoState is none = inr (inl (inl refl))
shown_done steady tells f Unclean is none = inr (inl (inr refl))
shown_done steady tells f NoMemory is none = inr (inr refl)
shown_done steady tells f ReadFault is none = absurd (none.0 refl)
shown_done steady tells f WriteFault is none = absurd (none.1 refl)
shown_done steady tells f Usage is none = absurd is
shown_done steady tells f BadLine is none = absurd is

-- ---- images

-- that an image has one answer: a law of traces, which is handed in
abbrev pub OneAnswer : Type 0
OneAnswer = (asked : Asked) (image : List ℕ) (one other : Result Geometry TraceRefusal) → IsAnswer asked image one → IsAnswer asked image other → one ≡ other

module _ (asked : Asked) (image text rest : List ℕ) (gave : GaveImage image text rest) where
  -- an image that isn't too long was read whole
  same_text : length image ≤ 2 ^ 28 → image ≡ text
  same_text low = sym (append-nil image) ∙ ap (λ (l : List ℕ). image ++ l) (sym (gave.whole low)) ∙ sym gave.split

  accepted_text : (g : Geometry) → IsAccepted asked image g → IsAccepted asked text g
  accepted_text g is = subst (λ (l : List ℕ). IsAccepted asked l g) (same_text is.has.has.size.most) is

  -- one that is too long begins a text that is
  long_text : 2 ^ 28 < length image → IsInSize text → ⊥
  long_text high size =
      let count : length text ≡ length image + length rest = ap length gave.split ∙ length-append image rest in
      let most = size.most in
      omega (arith, high, count, most)

  refused_by : (refusal : TraceRefusal) → IsRefused asked image refusal → (length image ≤ 2 ^ 28) ⊎ (2 ^ 28 < length image)
      → (other : TraceRefusal) × IsRefused asked text other
  refused_by refusal is (inl low) = (refusal, subst (λ (l : List ℕ). IsRefused asked l refusal) (same_text low) is)
  refused_by refusal is (inr high) = (Length, inl (long_text high))

  -- so the text is refused, too
  refused_text : (refusal : TraceRefusal) → IsRefused asked image refusal → (other : TraceRefusal) × IsRefused asked text other
  refused_text refusal is = refused_by refusal is (le_or_lt (length image) (2 ^ 28))

pub trace_done : OneAnswer → (f : traces.Facts) (asked : Asked) (status : Status) → EndsTrace f asked status → NoFault status → CompletesTrace f asked status
trace_done one f asked Done ends none text answer (is, some) fits =
    let read = told_front _ f.left f.rest text is some ends.read in
    let accepted = accepted_text asked ends.image text read.0 read.1 ends.ends.0 ends.ends.1.is in
    inl (ap answer_status (one asked text (Ok ends.ends.0) answer accepted fits))
trace_done one f asked Refused ends none text answer (is, some) fits =
    let read = told_front _ f.left f.rest text is some ends.1.read in
    let refused = refused_text asked ends.1.image text read.0 read.1 ends.0 ends.1.ends.is in
    inl (ap answer_status (one asked text (Err refused.0) answer refused.1 fits))
trace_done one f asked ReadFault ends none text answer is fits = absurd (none.0 refl)
trace_done one f asked WriteFault ends none text answer is fits = absurd (none.1 refl)
trace_done one f asked NoMemory ends none text answer is fits = inr refl
trace_done one f asked Usage ends none text answer is fits = absurd ends
trace_done one f asked BadLine ends none text answer is fits = absurd ends
trace_done one f asked NoState ends none text answer is fits = absurd ends
trace_done one f asked Unclean ends none text answer is fits = absurd ends

pub audit_done : (f : traces.Facts) (status : Status) → EndsAudit f status → NoFault status → (status ≡ Done) ⊎ ((status ≡ Refused) ⊎ (status ≡ NoMemory))
audit_done f Done ends none = inl refl
audit_done f Refused ends none = inr (inl refl)
audit_done f NoMemory ends none = inr (inr refl)
audit_done f ReadFault ends none = absurd (none.0 refl)
audit_done f WriteFault ends none = absurd (none.1 refl)
audit_done f Usage ends none = absurd ends
audit_done f BadLine ends none = absurd ends
audit_done f NoState ends none = absurd ends
audit_done f Unclean ends none = absurd ends

-- ---- a drill

drill_done : (ends : DrillEnd → Type 0) (taken given : Option (List ℕ)) (status : Status) → EndsDrilled ends taken given status → NoFault status
    → (status ≡ Done) ⊎ (status ≡ NoMemory)
drill_done ends taken given Done is none = inl refl
drill_done ends taken given NoMemory is none = inr refl
drill_done ends taken given WriteFault is none = absurd (none.1 refl)
drill_done ends taken given Usage is none = absurd is
drill_done ends taken given BadLine is none = absurd is
drill_done ends taken given ReadFault is none = absurd is
drill_done ends taken given NoState is none = absurd is
drill_done ends taken given Unclean is none = absurd is
drill_done ends taken given Refused is none = absurd is

-- ---- each command

pub completes : OneAnswer → (steady : Type 0) (tells : ℕ → Type 0) (f : Facts) (command : Command) (status : Status) → Ends steady tells f command status → NoFault status → Completes tells f command status
completes one steady tells f Replay status ends none = replay_done steady tells f status ends none
completes one steady tells f Resume status ends none = resume_done steady tells f status ends none
completes one steady tells f (Cat path) status ends none = saved_done (FindsCat tells (met_by f) path) f.taken f.given status ends none
completes one steady tells f (Ls path) status ends none = saved_done (FindsLs tells (met_by f) path) f.taken f.given status ends none
completes one steady tells f StatusCommand status ends none = shown_done steady tells f status ends none
completes one steady tells f (Trace order b k m) status ends none = trace_done one (streams_of f) (asked_by order b k m) status ends none
completes one steady tells f (Drill seed files) status ends none = drill_done (EndsDrill tells (drill_met f) seed files) f.taken f.given status ends none
completes one steady tells f Audit status ends none = audit_done (streams_of f) status ends none
