-- How a command ends on a rack without headers, by what is seen of it and by the rack of the run.
use Rattle.std.proofs.Common.{◌≡◌, ◌⊎◌, ◌∙◌, ◌≤◌, ℕ, Bool, true, false, List, ap, arith, inl, inr, refl, subst, sym}
use Rattle.std.specs.Prelude.{◌&&◌, ◌==◌, nat_lt, Option, if◌then◌else◌}
use Rattle.std.proofs.lemmas.Bool.{cond-false, cond-true, le-ltb, lt-ltb}
use Rattle.dg_io.specs.Told.{Told}
use Rattle.dg_model.proofs.KnownLaws.{step_less}
use Rattle.dg_model.specs.Changes.{Goes}
use Rattle.dg_model.specs.Members.{is_good}
use Rattle.dg_model.specs.Seals.{LastLabel}
use Rattle.dg_model.specs.States.{Counts, CountsRise, HoldsAll, State}
use Rattle.dg_model.specs.Steps.{Step}
use Rattle.dg_model.specs.declared.events.Event.{Event}
use Rattle.dg_model.specs.declared.events.Event.TheVariants.{Cat, Ls}
use Rattle.dg_model.specs.declared.members.MemberState.{MemberState}
use Rattle.dg_model.specs.declared.members.MemberState.TheVariants.{Out}
use Rattle.dg_model.specs.declared.replies.Reply.{Reply}
use Rattle.dg_run.proofs.PlainFacts.{AreCounts, SeesNow, SeesPlain, either, found_no_state, found_unclean, from, hidden_out, known_seen, low_or_past, opened_as, past_out, same_now}
use Rattle.dg_run.proofs.Recounted.{IsFreeOf, IsGone, Recounts, cat_again, cat_goes, gone_on, holds_as, ls_again, ls_goes, recounted}
use Rattle.dg_saved.specs.Calls.{Facts}
use Rattle.dg_saved.specs.Ends.{CutUnopened, EndsEvent, EndsStatus, EventOfSuch, StatusOfSuch, WereSuch}
use Rattle.dg_saved.specs.Saved.{HasRun, HasShown, HasSource, IsKnown, IsOpenedAs, RunsFrom, ShowsFrom}
use Rattle.dg_saved.specs.declared.ends.SavedEnd.{SavedEnd}
use Rattle.dg_saved.specs.declared.ends.SavedEnd.TheVariants.{Done, NoState, Refused, Unclean, WriteFault}

-- the counts of the rack of the run, by those that were seen
abbrev pub counts_by : Facts → Counts → Counts
counts_by facts seen = record { faults = λ q. if nat_lt q 32 then seen.faults q else facts.before.faults q; calls = seen.calls; writes = seen.writes }

pub are_counts : (facts : Facts) (seen : Counts) → AreCounts facts seen (counts_by facts seen)
are_counts facts seen = record {
  faults = λ q low. cond-true (nat_lt q 32) (seen.faults q) (facts.before.faults q) (lt-ltb q 32 low);
  calls = refl;
  writes = refl;
  past = λ q past. cond-false (nat_lt q 32) (seen.faults q) (facts.before.faults q) (le-ltb q 32 past);
}

-- an event that reads a path
pub data IsReading : Event → Type 0 where
  cats : (path : List ℕ) → IsReading (Cat path)
  lists : (path : List ℕ) → IsReading (Ls path)

goes_in : (K : Type 0) (event : Event) (old new : State) (reply : Reply) → IsReading event → Step K old event reply new → Goes old new
goes_in K _ old new reply (cats path) h = cat_goes K old new path reply h
goes_in K _ old new reply (lists path) h = ls_goes K old new path reply h

again_in : (K : Type 0) (event : Event) (old new : State) (reply : Reply) (before now : Counts) → IsReading event → Recounts old.counts new.counts before now
    → ((q : ℕ) → 32 ≤ q → old.members q ≡ Out) → Step K old event reply new → Step K (recounted old before) event reply (recounted new now)
again_in K _ old new reply before now (cats path) are outside h = cat_again old new before now are outside K path reply h
again_in K _ old new reply before now (lists path) are outside h = ls_again old new before now are outside K path reply h

and_false : (a : Bool) → a && false ≡ false
and_false true = refl
and_false false = refl

module _ (such : ℕ → Type 0) (seen facts : Facts) (both : SeesNow such seen facts) (tells told : ℕ → Type 0) (each : (q : ℕ) → tells q → told q) where
  abbrev sees : SeesPlain such seen facts
  sees = both.sees

  -- ---- an array was opened

  module _ (opened : Counts) (source : HasSource seen opened) (were : WereSuch such source) where
    abbrev now : Counts
    now = counts_by facts opened

    abbrev was : HasSource facts now
    was = from such seen facts sees opened source were now (are_counts facts opened)

    opens : (V : List (List ℕ)) (state : State) → IsOpenedAs told seen opened source V state → IsOpenedAs tells facts now was V (recounted state now)
    opens V state h = opened_as such seen facts sees opened source were now (are_counts facts opened) tells told (λ q below. each q) V state h

    known : (V : List (List ℕ)) → IsKnown tells facts now was V → IsKnown told seen opened source V
    known V k = known_seen such seen facts sees opened source were now (are_counts facts opened) tells told (λ q below. each q) V k

    outside : (q : ℕ) → 32 ≤ q → source.members q ≡ Out
    outside q past = past_out such seen facts sees opened source were now (are_counts facts opened) q past

    unseen : (q : ℕ) → sees.hidden q ≡ true → source.members q ≡ Out
    unseen q hid = hidden_out such seen facts sees opened source were now (are_counts facts opened) q hid

    -- bytes of members that aren't seen don't matter
    gone_first : (V : List (List ℕ)) (state : State) → IsOpenedAs told seen opened source V state → (q : ℕ) → source.members q ≡ Out → IsGone state q
    gone_first V state h q out =
        let here : state.members q ≡ Out = ap (λ (m : ℕ → MemberState). m q) h.members ∙ out in
        let free : (is_good (state.members q) ≡ false) × (true ≡ true → (q == h.opens.source) && is_good (state.members q) ≡ false) =
        (ap is_good here, (λ e. ap (λ (m : MemberState). (q == h.opens.source) && is_good m) here ∙ and_false (q == h.opens.source))) in
        (here, subst (λ (l : Option LastLabel). IsFreeOf q l) (sym h.opens.label_is) free)

    same_or_gone : (state : State) → ((q : ℕ) → source.members q ≡ Out → IsGone state q) → (q : ℕ) → (seen.bytes q ≡ facts.bytes q) ⊎ IsGone state q
    same_or_gone state gone q = elim (low_or_past q) [
      | inl low ↦ elim (either (sees.hidden q)) [
        | inl hid ↦ inr (gone q (unseen q hid))
        | inr shown ↦ inl (both.bytes q low shown)
      ]
      | inr past ↦ inr (gone q (outside q past))
    ]

  -- they hold a state whatever its counts
  holds_now : (state : State) → HoldsAll seen.bytes state → HoldsAll seen.bytes (recounted state facts.now)
  holds_now state h = record { blocks = h.blocks; label = h.label; sizes = h.sizes; fresh = h.fresh }

  -- ---- one event

  runs : (event : Event) (reply : Reply) → IsReading event → (ran : HasRun told seen event reply) → (were : WereSuch such ran.source) → (V : List (List ℕ))
      → RunsFrom tells facts (now ran.opened ran.source were) (was ran.opened ran.source were) event reply V
  runs event reply reading ran were V =
      let one = ran.runs V in
      let first = counts_by facts ran.opened in
      let here = are_counts facts ran.opened in
      let are : Recounts one.state.counts one.next.counts first facts.now = record {
        first = λ q low. here.faults q low ∙ sym (ap (λ (c : Counts). c.faults q) one.is.counts);
        last = λ q low. both.now.faults q low ∙ sym (ap (λ (c : Counts). c.faults q) one.counts);
        past = λ q past. both.now.past q past ∙ sym (here.past q past);
        calls_first = sym (ap (λ (c : Counts). c.calls) one.is.counts);
        calls_last = both.now.calls ∙ sym (ap (λ (c : Counts). c.calls) one.counts);
        writes_first = sym (ap (λ (c : Counts). c.writes) one.is.counts);
        writes_last = both.now.writes ∙ sym (ap (λ (c : Counts). c.writes) one.counts);
      } in
      record {
        state = recounted one.state first;
        is = opens ran.opened ran.source were V one.state one.is;
        next = recounted one.next facts.now;
        step = again_in _ event one.state one.next reply first facts.now reading are
            (λ q past. ap (λ (m : ℕ → MemberState). m q) one.is.members ∙ outside ran.opened ran.source were q past)
            (step_less (known ran.opened ran.source were V) one.state event reply one.next one.step);
        counts = refl;
        holds = λ k. holds_as seen.bytes facts.bytes (recounted one.next facts.now)
            (same_or_gone ran.opened ran.source were (recounted one.next facts.now)
            (λ q out. gone_on one.state one.next (goes_in _ event one.state one.next reply reading one.step) q (gone_first ran.opened ran.source were V one.state one.is q out)))
            (holds_now one.next (one.holds (known ran.opened ran.source were V k)));
      }

  has_run : (event : Event) (reply : Reply) → IsReading event → (ran : HasRun told seen event reply) → WereSuch such ran.source → HasRun tells facts event reply
  has_run event reply reading ran were = record {
    opened = now ran.opened ran.source were;
    source = was ran.opened ran.source were;
    rise = rises_on ran.opened ran.rise;
    others = λ q past. same_now such seen facts both q (ran.others q past);
    runs = runs event reply reading ran were;
  } where
    rises_on : (opened : Counts) → CountsRise opened seen.now → CountsRise (counts_by facts opened) facts.now
    rises_on opened rise = let here = are_counts facts opened in record {
      faults = λ q. elim (low_or_past q) [
        | inl low ↦ (let up = rise.faults q in let one = here.faults q low in let other = both.now.faults q low in omega (arith, up, one, other))
        | inr past ↦ (let one = here.past q past in let other = both.now.past q past in omega (arith, one, other))
      ];
      calls = omega (arith, rise.calls, both.now.calls);
      writes = omega (arith, rise.writes, both.now.writes);
    }

  -- ---- its state

  abbrev source_now : (text : List ℕ) (shown : HasShown told seen text) → WereSuch such shown.source → HasSource facts facts.now
  source_now text shown were = from such seen facts sees seen.now shown.source were facts.now both.now

  shows : (text : List ℕ) (shown : HasShown told seen text) (were : WereSuch such shown.source) (V : List (List ℕ)) → ShowsFrom tells facts (source_now text shown were) text V
  shows text shown were V =
      let one = shown.shows V in
      record {
        state = recounted one.state facts.now;
        is = opened_as such seen facts sees seen.now shown.source were facts.now both.now tells told (λ q below. each q) V one.state one.is;
        text_is = one.text_is;
        holds = λ k. holds_as seen.bytes facts.bytes (recounted one.state facts.now)
            (same_or_gone seen.now shown.source were (recounted one.state facts.now) (λ q out. gone_first seen.now shown.source were V one.state one.is q out))
            (holds_now one.state (one.holds (known_seen such seen facts sees seen.now shown.source were facts.now both.now tells told (λ q below. each q) V k)));
      }

  has_shown : (text : List ℕ) (shown : HasShown told seen text) → WereSuch such shown.source → HasShown tells facts text
  has_shown text shown were = record {
    source = source_now text shown were;
    phase = shown.phase;
    others = λ q past. same_now such seen facts both q (shown.others q past);
    text_is = shown.text_is;
    shows = shows text shown were;
  }

  -- ---- by the end

  module _ (taken : seen.taken ≡ facts.taken) (given : seen.given ≡ facts.given) where
    printed : (step : List ℕ → List ℕ → Type 0) → Told step seen.taken seen.given → Told step facts.taken facts.given
    printed step h = subst (λ (o : Option (List ℕ)). Told step o facts.given) taken (subst (λ (o : Option (List ℕ)). Told step seen.taken o) given h)

    cut_unopened : CutUnopened seen → CutUnopened facts
    cut_unopened (inl h) = inl (found_no_state such seen facts both h.0, printed _ h.1)
    cut_unopened (inr h) = inr (found_unclean such seen facts both h.0, printed _ h.1)

    pub event_ends : (event : Event) (text : Reply → List ℕ) (gives : Reply → Bool) → IsReading event → (end : SavedEnd) (h : EndsEvent told seen event text gives end)
        → EventOfSuch such told seen event text gives end h → EndsEvent tells facts event text gives end
    event_ends event text gives reading Done h were = record { reply = h.reply; ran = has_run event h.reply reading h.ran were; kind = h.kind; output = printed _ h.output }
    event_ends event text gives reading Refused h were = record { reply = h.reply; ran = has_run event h.reply reading h.ran were; kind = h.kind; output = printed _ h.output }
    event_ends event text gives reading NoState h were = (found_no_state such seen facts both h.0, printed _ h.1)
    event_ends event text gives reading Unclean h were = (found_unclean such seen facts both h.0, printed _ h.1)
    event_ends event text gives reading WriteFault (inl h) were = inl (cut_unopened h)
    event_ends event text gives reading WriteFault (inr h) were = inr (record { reply = h.reply; ran = has_run event h.reply reading h.ran were; output = printed _ h.output })

    pub status_ends : (end : SavedEnd) (h : EndsStatus told seen end) → StatusOfSuch such told seen end h → EndsStatus tells facts end
    status_ends Done h were = (h.0, has_shown h.0 h.1 were, printed _ h.2)
    status_ends Refused h were = absurd h
    status_ends NoState h were = (found_no_state such seen facts both h.0, printed _ h.1)
    status_ends Unclean h were = (found_unclean such seen facts both h.0, printed _ h.1)
    status_ends WriteFault (inl h) were = inl (cut_unopened h)
    status_ends WriteFault (inr h) were = inr (h.0, has_shown h.0 h.1 were, printed _ h.2)
