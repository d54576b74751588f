-- Calls on what is left of a saved array.
use Rattle.std.proofs.Common.{◌≡◌, ℕ, Bool, true, false, List, inl, inr, subst}
use Rattle.std.specs.Prelude.{◌⊎◌, Option}
use Rattle.dg_kept.specs.Saved.{Save}
use Rattle.dg_model.proofs.MemberLaws.{none_front}
use Rattle.dg_model.specs.Causes.{NoneRose}
use Rattle.dg_model.specs.States.{Counts, CountsRise, State}
use Rattle.dg_model.specs.declared.events.Event.{Event}
use Rattle.dg_model.specs.declared.replies.Reply.{Reply}
use Rattle.dg_run.specs.Calls.{Facts}
use Rattle.dg_run.specs.Completes.{IsUnopened}
use Rattle.dg_run.specs.Ends.{EndsSaved}
use Rattle.dg_run.specs.Resumes.{AllResumedBy, RanOn, ResumeBrokeOffBy}
use Rattle.dg_run.specs.declared.top.Status.{Status}
use Rattle.dg_run.specs.declared.top.Status.TheVariants.{Done, NoMemory, NoState, Refused, Unclean}
use Rattle.dg_saved.specs.Calls.{Facts as SavedFacts}
use Rattle.dg_saved.specs.Ends.{Answered, EndsEvent}
use Rattle.dg_saved.specs.Saved.{FoundNoState, FoundUnclean, HasRun, TellsArray}
use Rattle.dg_uses.specs.Saves.{GoesOn, HasAnswered, HasGoneOn, HasGoneOnSoFar, IsAnswered, IsFoundAgain, KeepsNothing}

-- all lines were done of an array that keeps no checkpoint, or those that a source gave whole which failed
abbrev pub AllResumed : (ℕ → Type 0) → Facts → Type 0
AllResumed tells facts = AllResumedBy (RanOn tells facts) facts

abbrev pub ResumeBrokeOff : (ℕ → Type 0) → Facts → Type 0
ResumeBrokeOff tells facts = ResumeBrokeOffBy (RanOn tells facts) facts

-- a count that didn't rise in the call didn't in the opening
pub none_in_opening : (before opened now : Counts) → CountsRise opened now → NoneRose before.faults now.faults → NoneRose before.faults opened.faults
none_in_opening before opened now rise none = none_front before.faults opened.faults now.faults rise.faults none

pub has_gone_on : (tells : ℕ → Type 0) (facts : Facts) (old : State) (save : Save) (all : AllResumed tells facts)
    → GoesOn old save facts.images facts.bytes facts.before facts.now all.events all.replies → HasGoneOn old save facts
has_gone_on tells facts old save all on = record { events = all.events; replies = all.replies; on = on; input = all.input; output = all.output }

pub has_gone_on_so_far : (tells : ℕ → Type 0) (facts : Facts) (old : State) (save : Save) (broke : ResumeBrokeOff tells facts)
    → GoesOn old save facts.images facts.bytes facts.before facts.now broke.events broke.replies → HasGoneOnSoFar old save facts
has_gone_on_so_far tells facts old save broke on =
    record { events = broke.events; replies = broke.replies; on = on; input = broke.input; output = broke.output }

-- ---- where there is an array to open

pub resumed_whole : (status : Status) → (status ≡ NoState → ⊥) × (status ≡ Unclean → ⊥) → (status ≡ Done) ⊎ (IsUnopened status ⊎ (status ≡ NoMemory))
    → (status ≡ Done) ⊎ (status ≡ NoMemory)
resumed_whole status none (inl done) = inl done
resumed_whole status none (inr (inl (inl no_state))) = absurd (none.0 no_state)
resumed_whole status none (inr (inl (inr unclean))) = absurd (none.1 unclean)
resumed_whole status none (inr (inr memory)) = inr memory

pub asked_whole : (status : Status) → (status ≡ NoState → ⊥) × (status ≡ Unclean → ⊥)
    → (status ≡ Done) ⊎ ((status ≡ Refused) ⊎ (IsUnopened status ⊎ (status ≡ NoMemory))) → (status ≡ Done) ⊎ ((status ≡ Refused) ⊎ (status ≡ NoMemory))
asked_whole status none (inl done) = inl done
asked_whole status none (inr (inl refused)) = inr (inl refused)
asked_whole status none (inr (inr unopened)) = elim (resumed_whole status none (inr unopened)) [ inl done ↦ inl done | inr memory ↦ inr (inr memory) ]

-- ---- one event that is asked for

-- an array that is asked for one thing goes on from the state that was saved: a law, which is handed in
abbrev pub AskedGoesOn : (ℕ → Type 0) → Type 0
AskedGoesOn tells = (old : State) (number : ℕ) (last : State) (held : ℕ → Option (List ℕ)) (save : Save) (facts : SavedFacts) (event : Event) (reply : Reply)
    → KeepsNothing facts → (ran : HasRun tells facts event reply) → TellsArray tells ran.source.saved.table → IsFoundAgain old number last held save facts.images facts.bytes
    → NoneRose facts.before.faults ran.opened.faults → IsAnswered old save facts.images facts.bytes facts.before facts.now event reply

module _ (tells : ℕ → Type 0) (facts : SavedFacts) (event : Event) (text : Reply → List ℕ) (gives : Reply → Bool) (status : Status)
    (ends : EndsSaved (λ end. EndsEvent tells facts event text gives end) facts.taken facts.given status) where
  ended_as : (other : Status) → status ≡ other → EndsSaved (λ end. EndsEvent tells facts event text gives end) facts.taken facts.given other
  ended_as other is = subst (λ (s : Status). EndsSaved (λ end. EndsEvent tells facts event text gives end) facts.taken facts.given s) is ends

  pub no_state_found : status ≡ NoState → FoundNoState facts
  no_state_found is = (ended_as NoState is).0

  pub unclean_found : status ≡ Unclean → FoundUnclean facts
  unclean_found is = (ended_as Unclean is).0

  module _ (nothing : KeepsNothing facts) (law : AskedGoesOn tells) (told : (q : ℕ) → tells q) (old : State) (number : ℕ) (last : State) (held : ℕ → Option (List ℕ)) (save : Save)
      (again : IsFoundAgain old number last held save facts.images facts.bytes) (none : NoneRose facts.before.faults facts.now.faults) where
    answered : (given : Bool) → Answered tells facts event text gives given → HasAnswered old save facts event text
    answered given one = record {
      reply = one.reply;
      is = law old number last held save facts event one.reply nothing one.ran (λ q low. told q) again (none_in_opening facts.before one.ran.opened facts.now one.ran.rise none);
      output = one.output;
    }

    pub has_answered : (status ≡ Done) ⊎ (status ≡ Refused) → HasAnswered old save facts event text
    has_answered (inl is) = answered true (ended_as Done is)
    has_answered (inr is) = answered false (ended_as Refused is)
