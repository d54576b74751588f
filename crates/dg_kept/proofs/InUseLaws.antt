-- Which boundaries are in use along a run.
use Rattle.std.proofs.Common.{◌≡◌, ◌≢◌, ◌∙◌, ℕ, inl, inr, suc, List, [], ◌∷◌, length, refl, sym, ap, arith}
use Rattle.std.specs.Prelude.{All, None, Option}
use Rattle.std.proofs.lemmas.List.FromFn.{length-range_with_len}
use Rattle.dg_model.specs.Changes.{Stays}
use Rattle.dg_model.specs.Openings.{Found, Opens, Reduced}
use Rattle.dg_model.specs.Runs.{Run, Trace}
use Rattle.dg_model.specs.States.{Counts, IsBlank, State}
use Rattle.dg_model.specs.Steps.{Step}
use Rattle.dg_model.specs.declared.events.Event.{Event}
use Rattle.dg_model.specs.declared.events.Event.TheVariants.{Array, Safe, Parity, Write, Read, Fail, Replace, Rebuild, Settle, Tend, Diffuse, Who, Pending, Cat, Ls, Tree, Home, Save, Regroup, LostFiles, Audit, DropDisk, MendDisk}
use Rattle.dg_model.specs.declared.replies.Reply.{Reply}
use Rattle.dg_model.specs.declared.replies.Reply.TheVariants.{Done, Range, Degraded, Unavailable, Already, Lost, NotOut, Failed, NotFilling, Copied, Settled as SettledReply, Malformed, NoSpace, Tended, Diffused, NotSettled, Verdict, Blocks, Data, Given, Cut, Listed, ListedCut, Nodes, NodesCut, Refused, HomeAt, NoHome, Saved, NotSaved, Whole, TooFew, Regrouped, LostFiles as LostFilesReply, LostFilesCut, Audited, NotParity, Mended}
use Rattle.dg_model.specs.declared.shapes.Shape.{Shape}
use Rattle.dg_kept.specs.Opened.{AreTold}
use Rattle.dg_kept.specs.SavedRuns.{AreAllInUse}

-- ---- a step

-- the boundaries are the same, and so are those in use
record KeepsInUse (old new : State) : Type 0 where
  boundaries : new.boundaries ≡ old.boundaries
  live : new.live ≡ old.live

same : (old new : State) → new ≡ old → KeepsInUse old new
same old new is = record { boundaries = ap (λ (s : State). s.boundaries) is; live = ap (λ (s : State). s.live) is }

by : (old x new : State) → new ≡ x → x.boundaries ≡ old.boundaries → x.live ≡ old.live → KeepsInUse old new
by old x new is boundaries live = record { boundaries = ap (λ (s : State). s.boundaries) is ∙ boundaries; live = ap (λ (s : State). s.live) is ∙ live }

stays : (old new : State) → Stays old new → KeepsInUse old new
stays old new h = by old _ new h.rest refl refl

-- each step but one that takes boundaries out of use leaves them
in_use : (old : State) (event : Event) (reply : Reply) (new : State) → event ≢ Regroup → Step AreTold old event reply new → KeepsInUse old new
in_use old (Write b bytes) Range new apart h = same old new h.1
in_use old (Write b bytes) Degraded new apart h = elim h.1 [ inl was ↦ same old new was.1 | inr now ↦ stays old new now.3 ]
in_use old (Write b bytes) Done new apart h = by old _ new h.2.rest refl refl
in_use old (Read b) Range new apart h = same old new h.1
in_use old (Read b) Unavailable new apart h = stays old new h.3
in_use old (Read b) (Data bytes) new apart h = stays old new h.5
in_use old (Fail s j) Range new apart h = same old new h.1
in_use old (Fail s j) Already new apart h = same old new h.2
in_use old (Fail s j) Done new apart h = by old _ new h.2.rest refl refl
in_use old (Replace s j) Range new apart h = same old new h.1
in_use old (Replace s j) (Lost t) new apart h = elim h.3 [ inl was ↦ same old new was.1 | inr now ↦ stays old new now.2 ]
in_use old (Replace s j) NotOut new apart h = same old new h.2
in_use old (Replace s j) Failed new apart h = by old _ new h.3.rest refl refl
in_use old (Replace s j) Done new apart h = by old _ new h.3.rest refl refl
in_use old (Rebuild s n) Range new apart h = same old new h.1
in_use old (Rebuild s n) (Lost t) new apart h =
    elim h.2 [ inl was ↦ same old new was.1 | inr now ↦ by old _ new now.2.slots.rest refl refl ]
in_use old (Rebuild s n) NotFilling new apart h = same old new h.3
in_use old (Rebuild s n) Failed new apart h = by old _ new h.3.slots.rest refl refl
in_use old (Rebuild s n) (Copied d l) new apart h = by old _ new h.2.slots.rest refl refl
in_use old Settle (Lost s) new apart h = elim h [
  | inl was ↦ same old new was.1
  | inr now ↦ elim now.2 [ inl still ↦ stays old new still | inr cut ↦ by old _ new cut.1.rest refl refl ]
]
in_use old Settle SettledReply new apart h = elim h.1 [ inl was ↦ same old new was.1 | inr now ↦ by old _ new now.2.rest refl refl ]
in_use old Settle (Malformed kind n) new apart h = stays old new h.3.stays
in_use old Settle (NoSpace bad) new apart h = stays old new h.4.stays
in_use old (Tend n) (Lost s) new apart h = elim h [
  | inl was ↦ same old new was.1
  | inr now ↦ elim now.2 [ inl still ↦ stays old new still | inr cut ↦ by old _ new cut.rest refl refl ]
]
in_use old (Tend n) (Tended m l) new apart h = elim h.1 [ inl was ↦ same old new was.3 | inr now ↦ by old _ new now.2.rest refl refl ]
in_use old (Tend n) (NoSpace bad) new apart h = stays old new h.3.stays
in_use old Diffuse NotSettled new apart h = same old new h.1
in_use old Diffuse (Lost s) new apart h =
    elim h.1 [ inl was ↦ same old new was.1 | inr now ↦ by old _ new now.1.2.rest refl refl ]
in_use old Diffuse (Diffused gained) new apart h = by old _ new h.3.rest refl refl
in_use old (Who b) Range new apart h = same old new h.1
in_use old (Who b) Unavailable new apart h = same old new h.2
in_use old (Who b) (Verdict who) new apart h = same old new h.3
in_use old Pending (Blocks blocks) new apart h = same old new h.1
in_use old (Cat path) (Given lines) new apart h = by old _ new h.2.rest refl refl
in_use old (Cat path) (Refused refusal) new apart h = stays old new h.1
in_use old (Cat path) Unavailable new apart h = stays old new h.1
in_use old (Cat path) (Cut lines) new apart h = stays old new h.3
in_use old (Ls path) (Listed entries) new apart h = stays old new h.1
in_use old (Ls path) (Refused refusal) new apart h = stays old new h.1
in_use old (Ls path) Unavailable new apart h = stays old new h.1
in_use old (Ls path) (ListedCut entries) new apart h = stays old new h.2
in_use old Tree NotSettled new apart h = same old new h.1
in_use old Tree (Nodes entries) new apart h = stays old new h.2
in_use old Tree (Refused refusal) new apart h = stays old new h.2
in_use old Tree Unavailable new apart h = stays old new h.2
in_use old Tree (NodesCut entries) new apart h = stays old new h.3
in_use old (Home path) NotSettled new apart h = same old new h.1
in_use old (Home path) (HomeAt s copy) new apart h = stays old new h.2
in_use old (Home path) NoHome new apart h = stays old new h.2
in_use old (Home path) (Refused refusal) new apart h = stays old new h.2
in_use old (Home path) Unavailable new apart h = stays old new h.2
in_use old Save (Lost s) new apart h = by old _ new h.1.rest refl refl
in_use old Save (Saved sequence) new apart h = by old _ new h.rest refl refl
in_use old Save NotSaved new apart h = same old new h.1
in_use old Regroup Whole new apart h = same old new h.1
in_use old Regroup TooFew new apart h = stays old new h.3
in_use old Regroup (Regrouped r c) new apart h = absurd (apart refl)
in_use old LostFiles NotSettled new apart h = same old new h.1
in_use old LostFiles (LostFilesReply lost) new apart h = stays old new h.2
in_use old LostFiles (Refused refusal) new apart h = stays old new h.2
in_use old LostFiles Unavailable new apart h = stays old new h.2
in_use old LostFiles (LostFilesCut lost) new apart h = stays old new h.3
in_use old Audit (Audited findings) new apart h = stays old new h.1
in_use old Audit Unavailable new apart h = stays old new h.1
in_use old (DropDisk s j) NotParity new apart h = same old new h
in_use old (DropDisk s j) Range new apart h = same old new h
in_use old (DropDisk s j) Already new apart h = same old new h
in_use old (DropDisk s j) Done new apart h = by old _ new h.1.rest refl refl
in_use old (MendDisk s j) NotParity new apart h = same old new h
in_use old (MendDisk s j) Range new apart h = same old new h
in_use old (MendDisk s j) (Lost t) new apart h = elim h.2 [ inl was ↦ same old new was.1 | inr now ↦ by old _ new now.2.rest refl refl ]
in_use old (MendDisk s j) NotOut new apart h = same old new h.1
in_use old (MendDisk s j) Failed new apart h = by old _ new h.2.rest refl refl
in_use old (MendDisk s j) (Mended c) new apart h = by old _ new h.2.rest refl refl
in_use old event reply new apart h = absurd h

-- ---- a run

still : (old new : State) → AreAllInUse old → KeepsInUse old new → AreAllInUse new
still old new all kept = ap (λ (live : List ℕ). length live) kept.live ∙ all ∙ sym kept.boundaries

run_still : (old : State) (events : List Event) (replies : List Reply) (new : State) → All (λ event. event ≢ Regroup) events → AreAllInUse old → Run AreTold old events replies new
    → AreAllInUse new
run_still old [] [] new each all run = still old new all (same old new run)
run_still old [] (reply ∷ replies) new each all run = absurd run
run_still old (event ∷ events) [] new each all run = absurd run
run_still old (event ∷ events) (reply ∷ replies) new each all run =
    run_still run.0 events replies new (λ k d low. each (suc k) d (omega (arith, low)))
    (still old run.0 all (in_use old event reply run.0 (each 0 event (omega arith)) run.1)) run.2

blank_all : (shape : Shape) (before : Counts) (blank : State) → IsBlank shape before blank → AreAllInUse blank
blank_all shape before blank is = ap (λ (s : State). length s.live) is.is ∙ length-range_with_len 0 shape.b ∙ sym (ap (λ (s : State). s.boundaries) is.is)

pub trace_still : (before : Counts) (events : List Event) (replies : List Reply) (last : State) → All (λ event. event ≢ Regroup) events → Trace AreTold before events replies last
    → AreAllInUse last
trace_still before [] [] last each trace =
    ap (λ (s : State). length s.live) trace.is ∙ length-range_with_len 0 last.table.shape.b ∙ sym (ap (λ (s : State). s.boundaries) trace.is)
trace_still before (Array shape ∷ events) (Done ∷ replies) last each trace =
    run_still trace.0 events replies last (λ k d low. each (suc k) d (omega (arith, low))) (blank_all shape before trace.0 trace.1) trace.2
trace_still before (Safe shape ∷ events) (Done ∷ replies) last each trace =
    run_still trace.0 events replies last (λ k d low. each (suc k) d (omega (arith, low))) (blank_all shape before trace.0 trace.1) trace.2
trace_still before (Parity shape n ∷ events) (Done ∷ replies) last each trace =
    run_still trace.0 events replies last (λ k d low. each (suc k) d (omega (arith, low))) (blank_all shape before trace.0 trace.1) trace.2
trace_still before events replies last each trace = absurd trace

pub opened_still : (taken : ℕ → Option Found) (before : Counts) (first : State) (events : List Event) (replies : List Reply) (last : State) → All (λ event. event ≢ Regroup) events
    → Opens AreTold taken None before first → Run AreTold first events replies last → AreAllInUse last
opened_still taken before first events replies last each opens run = run_still first events replies last each all run
  where
    all : AreAllInUse first
    all = ap (λ (live : List ℕ). length live) (opens.live ∙ ap (λ (r : Reduced). r.live) opens.reduced_is) ∙ length-range_with_len 0 opens.saved.table.shape.b
        ∙ sym (opens.boundaries ∙ ap (λ (r : Reduced). r.boundaries) opens.reduced_is)
