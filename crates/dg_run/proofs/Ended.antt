-- How commands end.
use Rattle.std.proofs.Common.{◌≡◌, ◌∙◌, ℕ, List, [], arith, inl, inr, refl, sym, subst}
use Rattle.std.specs.Prelude.{◌⊎◌, Option, Result, Ok, Err}
use Rattle.dg_drill.specs.declared.drills.DrillEnd.{DrillEnd}
use Rattle.dg_drill.specs.declared.drills.DrillEnd.TheVariants.{Done as Drilled, WriteFault as DrillCut}
use Rattle.dg_io.specs.Told.{Told, Took, TookPart}
use Rattle.dg_run.proofs.ToldSteps.{Told-refl}
use Rattle.dg_run.specs.Arrays.{IsOfReplay}
use Rattle.dg_run.specs.Calls.{Facts}
use Rattle.dg_run.specs.Ends.{Ends, EndsDrilled, EndsReplay, EndsAudit, EndsSaved, EndsTrace, EndsUsage, audit_status, drill_status, status_by, trace_status}
use Rattle.dg_run.specs.Replays.{BrokeOff, IsCut, RanOut, Replayed, Stopped}
use Rattle.dg_run.specs.Resumes.{EndsResumed}
use Rattle.dg_run.specs.declared.top.Status.{Status}
use Rattle.dg_run.specs.declared.top.Status.TheVariants.{Done, Usage, BadLine, ReadFault, WriteFault, NoMemory, NoState, Unclean, Refused}
use Rattle.dg_saved.specs.declared.ends.SavedEnd.{SavedEnd}
use Rattle.dg_saved.specs.declared.ends.SavedEnd.TheVariants.{Done as SavedDone, NoState as SavedNoState, Refused as SavedRefused, Unclean as SavedUnclean, WriteFault as SavedWriteFault}
use Rattle.dg_text.specs.Replies.{usage}
use Rattle.dg_trace.specs.Audits.{AuditEnds}
use Rattle.dg_trace.specs.Calls as traces
use Rattle.dg_trace.specs.Ends.{Ends as EndsImage}
use Rattle.dg_trace.specs.Images.{GavePart}
use Rattle.dg_trace.specs.declared.asked.Asked.{Asked}
use Rattle.dg_trace.specs.declared.audits.AuditEnd.{AuditEnd}
use Rattle.dg_trace.specs.declared.audits.AuditEnd.TheVariants.{Length as AuditedLength, Malformed, Sound}
use Rattle.dg_trace.specs.declared.asked.TraceEnd.{TraceEnd}
use Rattle.dg_trace.specs.declared.asked.TraceEnd.TheVariants.{Refused as ImageRefused, Written}
use Rattle.dg_trace.specs.declared.asked.TraceFault.{TraceFault}
use Rattle.dg_trace.specs.declared.asked.TraceFault.TheVariants.{NoMemory as ImageNoMemory, Read, Write}
use Rattle.dg_words.specs.Commands.{Gives, IsCommand}
use Rattle.dg_words.specs.declared.commands.Command.{Command}
use Rattle.dg_words.specs.declared.commands.Command.TheVariants.{Replay, Resume, Cat, Ls, Status as StatusCommand, Trace, Drill, Audit}
use Rattle.dg_words.specs.declared.commands.WordsRefused.{WordsRefused}
use Rattle.dg_words.specs.declared.commands.WordsRefused.TheVariants.{Usage as NotWords, NoMemory as WordsNoMemory}

-- a replay ended, by its status
pub ends_replay : (steady : Type 0) (tells : ℕ → Type 0) (f : Facts) (status : Status) → (status ≡ Done → Replayed f.before f.now f.images f.bytes steady tells f.left f.rest f.taken f.given)
    → (status ≡ BadLine → Stopped f.before f.now f.images f.bytes steady tells f.left f.rest f.taken f.given) → (status ≡ ReadFault → BrokeOff f.before f.now f.images f.bytes steady tells f.left f.rest f.taken f.given)
    → (status ≡ WriteFault → IsCut f.before f.now f.images f.bytes steady tells f.left f.rest f.taken f.given) → (status ≡ NoMemory → RanOut f.before tells f.left f.rest f.taken f.given)
    → IsOfReplay status → EndsReplay steady tells f status
ends_replay steady tells f Done all stopped broken cut wanting never = all refl
ends_replay steady tells f BadLine all stopped broken cut wanting never = stopped refl
ends_replay steady tells f ReadFault all stopped broken cut wanting never = broken refl
ends_replay steady tells f WriteFault all stopped broken cut wanting never = cut refl
ends_replay steady tells f NoMemory all stopped broken cut wanting never = wanting refl
ends_replay steady tells f Usage all stopped broken cut wanting never = absurd never
ends_replay steady tells f NoState all stopped broken cut wanting never = absurd never
ends_replay steady tells f Unclean all stopped broken cut wanting never = absurd never
ends_replay steady tells f Refused all stopped broken cut wanting never = absurd never

-- words that are no command, by the status
pub ends_usage : (f : Facts) (status : Status) → (status ≡ Usage) ⊎ (status ≡ WriteFault) → (status ≡ Usage → Told (Took usage) f.taken f.given)
    → (status ≡ WriteFault → Told (TookPart usage) f.taken f.given) → EndsUsage f status
ends_usage f status (inl is) all part = subst (λ s. EndsUsage f s) (sym is) (all is)
ends_usage f status (inr is) all part = subst (λ s. EndsUsage f s) (sym is) (part is)

-- a command on the saved array ends by its status
pub ends_saved : (ends : SavedEnd → Type 0) (taken given : Option (List ℕ)) (end : SavedEnd) → ends end → EndsSaved ends taken given (status_by end)
ends_saved ends taken given SavedDone is = is
ends_saved ends taken given SavedRefused is = is
ends_saved ends taken given SavedNoState is = is
ends_saved ends taken given SavedUnclean is = is
ends_saved ends taken given SavedWriteFault is = is

-- the trace of an image ends by its status
pub ends_trace : (f : traces.Facts) (asked : Asked) (end : Result TraceEnd TraceFault) → EndsImage f asked end → EndsTrace f asked (trace_status end)
ends_trace f asked (Ok Written) ends = ends
ends_trace f asked (Ok (ImageRefused refusal)) ends = (refusal, ends)
ends_trace f asked (Err Read) ends = ends
ends_trace f asked (Err Write) ends = ends
ends_trace f asked (Err ImageNoMemory) ends = ends

-- and an audit of one
pub ends_audit : (f : traces.Facts) (end : Result AuditEnd TraceFault) → AuditEnds f end → EndsAudit f (audit_status end)
ends_audit f (Ok Sound) ends = ends
ends_audit f (Ok Malformed) ends = inl ends
ends_audit f (Ok AuditedLength) ends = inr ends
ends_audit f (Err Read) ends = ends
ends_audit f (Err Write) ends = ends
ends_audit f (Err ImageNoMemory) ends = ends

-- a drill ends by its status
pub ends_drill : (ends : DrillEnd → Type 0) (taken given : Option (List ℕ)) (end : DrillEnd) → ends end → EndsDrilled ends taken given (drill_status end)
ends_drill ends taken given Drilled is = is
ends_drill ends taken given DrillCut is = is

-- nothing was read of an image
none_read : (left : List ℕ) → GavePart left left
none_read left = record { front = []; split = refl; most = omega arith }

unread : (left rest : Option (List ℕ)) → rest ≡ left → Told GavePart left rest
unread left rest same = subst (λ (o : Option (List ℕ)). Told GavePart left o) (sym same) (Told-refl GavePart none_read left)

-- memory was wanting before anything was done
pub wanted_first : (steady : Type 0) (tells : ℕ → Type 0) (f : Facts) (command : Command) → f.rest ≡ f.left → f.given ≡ f.taken → Ends steady tells f command NoMemory
wanted_first steady tells f Replay left taken = inl (left, taken)
wanted_first steady tells f Resume left taken = inl (record { is = refl; reads = left; prints = taken })
wanted_first steady tells f (Cat path) left taken = taken
wanted_first steady tells f (Ls path) left taken = taken
wanted_first steady tells f StatusCommand left taken = taken
wanted_first steady tells f (Trace order b k m) left taken = inl (record { read = unread f.left f.rest left; output = taken })
wanted_first steady tells f Audit left taken = inl (record { read = unread f.left f.rest left; output = taken })
wanted_first steady tells f (Drill seed files) left taken = taken

-- a trace on the saved array is one of a command
pub no_usage : (steady : Type 0) (tells : ℕ → Type 0) (f : Facts) → EndsResumed steady tells f Usage → ⊥
no_usage steady tells f (inl first) = let same : Usage ≡ NoMemory = first.is in cc same
no_usage steady tells f (inr (inl h)) = h.ends
no_usage steady tells f (inr (inr h)) = h.ends

-- ---- the words

-- words that were taken for a command are no other
given_is : (asked command : Command) (result : Result Command WordsRefused) → result ≡ Ok asked → Gives result command → command ≡ asked
given_is asked command result is (inl given) = let e : Ok asked ≡ Ok command = sym is ∙ given in let same : asked ≡ command = cc e in sym same
given_is asked command result is (inr memory) = let e : Ok asked ≡ Err WordsNoMemory = sym is ∙ memory in absurd (cc e)

refused_not : (command : Command) (result : Result Command WordsRefused) → result ≡ Err NotWords → Gives result command → ⊥
refused_not command result refused (inl given) = let e : Err NotWords ≡ Ok command = sym refused ∙ given in absurd (cc e)
refused_not command result refused (inr memory) = let e : Err NotWords ≡ Err WordsNoMemory = sym refused ∙ memory in absurd (cc e)

module _ (words : List (List ℕ)) (result : Result Command WordsRefused) (exact : (c : Command) → IsCommand words c → Gives result c) where
  pub asked_is : (asked command : Command) → result ≡ Ok asked → IsCommand words command → command ≡ asked
  asked_is asked command is words = given_is asked command result is (exact command words)

  pub words_refused : (command : Command) → result ≡ Err NotWords → IsCommand words command → ⊥
  words_refused command refused words = refused_not command result refused (exact command words)
