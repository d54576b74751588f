-- A block that is written and saved in one call, and read in the next one.
use Rattle.std.proofs.Common.{◌≡◌, ◌≤◌, ◌<◌, ◌*◌, ◌+◌, ◌/◌, ◌∙◌, ℕ, zero, suc, Bool, true, false, not, ◌&&◌, List, [], ◌∷◌, length, ap, arith, inl, inr, refl, subst, sym}
use Rattle.std.specs.Prelude.{All, IfSome, IsSome, IsSomeAnd, None, Option, Some, codes}
use Rattle.std.specs.Fmt.{digits}
use Rattle.std.proofs.lemmas.Bool.{false≢true}
use Rattle.std.proofs.lemmas.List.Elements.{All-cons, All-nil}
use Rattle.std.proofs.lemmas.List.FromFn.{length-range_with_len}
use Rattle.hex.specs.Hex.{encode_with}
use Rattle.dg_io.specs.Told.{IsSame, Told, Took}
use Rattle.dg_kept.specs.Opened.{AreTold, IsKept}
use Rattle.dg_kept.specs.Saved.{HasSaved, Save}
use Rattle.dg_kept.specs.SavedRuns.{AreAllInUse, AreTakenAway, LeavesSave}
use Rattle.dg_model.proofs.KnownLaws.{step_less}
use Rattle.dg_model.proofs.MemberLaws.{none_back, none_front}
use Rattle.dg_model.proofs.MomentLaws.{history_runs}
use Rattle.dg_model.proofs.RunLaws.{run_more, run_none, trace_more}
use Rattle.dg_model.proofs.StepLaws.{StayInUse, run_keeps, step_keeps}
use Rattle.dg_model.proofs.TrimLaws.{trimmed_written}
use Rattle.dg_model.specs.Blocks.{block_in, padded}
use Rattle.dg_model.specs.Causes.{NoneRose, Rose}
use Rattle.dg_model.specs.Changes.{Stays}
use Rattle.dg_model.specs.Lives.{member_at}
use Rattle.dg_model.specs.Members.{is_filling, is_good, is_lost}
use Rattle.dg_model.specs.Moments.{AreCountsOf}
use Rattle.dg_model.specs.Moments.Kind.{plain}
use Rattle.dg_model.specs.Openings.{Reduced, all_in_use}
use Rattle.dg_model.specs.Sites.{all_lost, has_site}
use Rattle.dg_model.specs.States.{Counts, HoldsAll, State, gone_in}
use Rattle.dg_model.specs.Steps.{Step}
use Rattle.dg_model.specs.Tables.{Table, sites_in}
use Rattle.dg_model.specs.declared.events.Event.{Event}
use Rattle.dg_model.specs.declared.events.Event.TheVariants.{Array, Read, Save as SaveEvent, Write}
use Rattle.dg_model.specs.declared.members.MemberState.{MemberState}
use Rattle.dg_model.specs.declared.members.MemberState.TheVariants.{Good}
use Rattle.dg_model.specs.declared.replies.Reply.{Reply}
use Rattle.dg_model.specs.declared.replies.Reply.TheVariants.{Data, Lost, NotSaved, Range, Saved, Unavailable}
use Rattle.dg_model.specs.declared.shapes.Shape.{Shape}
use Rattle.dg_run.specs.Calls.{Facts}
use Rattle.dg_run.specs.Opened.{opened_moment}
use Rattle.dg_run.specs.Replays.{Ran, Replayed, TellsBoundaries}
use Rattle.dg_run.specs.Resumes.{AllResumedBy, EndsResume, EndsResumed, RanOn}
use Rattle.dg_run.specs.declared.top.Status.{Status}
use Rattle.dg_run.specs.declared.top.Status.TheVariants.{Done as Finished, NoMemory}
use Rattle.dg_saved.specs.Saved.{TellsArray}
use Rattle.dg_text.specs.Lines.{AreInPlace, IsInPlace, input_of}
use Rattle.dg_text.specs.Replies.{output_of}
use Rattle.dg_uses.proofs.Flat.{Fine, blank_fine, good_all, good_not_out, sites_stand, stay_same, write_below}
use Rattle.dg_uses.proofs.Headers.{saved_headers}
use Rattle.dg_uses.proofs.Held.{holds_whole}
use Rattle.dg_uses.proofs.InUse.{InUse, gone_is, in_use_stays}
use Rattle.dg_uses.proofs.Lines.{OneInput, none_from}
use Rattle.dg_uses.proofs.OtherMembers.{array_makes, others_in}
use Rattle.dg_uses.proofs.Quiet.{quiet, quiet_counts}
use Rattle.dg_uses.proofs.QuietRuns.{history_tied, quiet_history, stay_for}
use Rattle.dg_uses.proofs.RefusedRows.{OneLine}
use Rattle.dg_uses.proofs.Rows.{IsHere, shape_here, shape_is, two_bytes}
use Rattle.dg_uses.proofs.SameLines.{same_events}
use Rattle.dg_uses.proofs.TakenAway.{BlankIsOlder, all_stand}
use Rattle.dg_uses.proofs.TracedLaws.{told_both}
use Rattle.dg_uses.specs.Answers.{member_by, put}
use Rattle.dg_uses.specs.Replays.{AreNone}
use Rattle.dg_uses.specs.Saves.{GoesOn, HaveNoHeaders, IsFoundAgain, first_of}

-- ---- the two texts

abbrev pub hi : List ℕ
hi = 104 ∷ 105 ∷ []

abbrev pub saved_events : List Event
saved_events = Write 3 hi ∷ SaveEvent ∷ []

pub saved_placed : AreInPlace (Array shape_here ∷ saved_events)
saved_placed = (
  shape_is,
  All-cons IsHere (Write 3 hi) (SaveEvent ∷ []) (omega arith, omega arith, two_bytes 104 105 (omega arith) (omega arith)) (All-cons IsHere SaveEvent [] tt (All-nil IsHere)),
)

saved_text : codes "array 1024 64 4 32 2\nwrite 3 6869\nsave\n" ≡ input_of (Array shape_here ∷ saved_events)
unfolding digits encode_with
saved_text = refl

read_text : codes "read 3\n" ≡ input_of (Read 3 ∷ [])
unfolding digits
read_text = refl

read_output : output_of (Data hi ∷ []) ≡ codes "data 6869\n"
unfolding encode_with
read_output = refl

-- ---- laws that are handed in

-- a step that saves a state leaves it on the members
abbrev pub SavesLeave : Type 0
SavesLeave = (old : State) (number : ℕ) (new : State) (bytes : ℕ → Option (List ℕ)) → Step AreTold old SaveEvent (Saved number) new → AreAllInUse new → HoldsAll bytes new
    → (save : Save) × LeavesSave old number new bytes save

-- and an array that is resumed goes on from it
abbrev pub ResumedGoesOn : (ℕ → Type 0) → Type 0
ResumedGoesOn tells = (old : State) (number : ℕ) (last : State) (held : ℕ → Option (List ℕ)) (save : Save) (facts : Facts) (events : List Event) (replies : List Reply)
    (ran : RanOn tells facts events replies) → TellsArray tells ran.source.saved.table → IsFoundAgain old number last held save facts.images facts.bytes
    → NoneRose facts.before.faults ran.opened.faults → GoesOn old save facts.images facts.bytes facts.before facts.now events replies

-- ---- counts that stand at 0

abbrev pub AreZero : Counts → Type 0
AreZero counts = (q : ℕ) → counts.faults q ≡ 0

zero_still : (x : ℕ) → (Rose 0 x → ⊥) → x ≡ 0
zero_still zero none = refl
zero_still (suc x) none = absurd (none (omega arith))

pub zero_before : (x y : ℕ) → x ≤ y → y ≡ 0 → x ≡ 0
zero_before x y low e = omega (arith, low, e)

no_rise : (x y : ℕ) → y ≡ 0 → Rose x y → ⊥
no_rise x y e rose = omega (arith, e, rose)

-- ---- the save

abbrev none_out : ℕ → Bool
none_out q = false

abbrev written_here : ℕ → List ℕ
written_here = put (λ b. []) 3 hi

-- The array was saved, and each of its members is good.
record IsSavedAs (Known : Type 0) (old new : State) : Type 0 where
  number : ℕ
  step : Step Known old SaveEvent (Saved number) new
  table : new.table ≡ old.table
  members : (q : ℕ) → new.members q ≡ member_by shape_here none_out q

is_saved : (Known : Type 0) (f : ℕ → List ℕ) (old new : State) → Fine shape_here none_out f old → NoneRose old.counts.faults new.counts.faults → (reply : Reply)
    → Step Known old SaveEvent reply new → IsSavedAs Known old new
is_saved Known f old new fine none (Lost s) h =
    absurd (false≢true (sym (h.1.none 0) ∙ ap is_good (stay_same shape_here none_out f old new fine none h.1.passes.members 0)))
is_saved Known f old new fine none (Saved number) h = record {
  number = number;
  step = h;
  table = ap (λ (s : State). s.table) h.rest;
  members = stay_same shape_here none_out f old new fine none h.passes.members;
}
is_saved Known f old new fine none NotSaved h =
    let few = h.0 in
    let size : length old.live ≡ 4 = ap (λ (l : List ℕ). length l) fine.in_use.live ∙ length-range_with_len 0 4 in
    absurd (omega (arith, few, size, fine.in_use.boundaries))
is_saved Known f old new fine none reply h = absurd h

-- ---- what the first call leaves

save_stays : (replies : List Reply) → StayInUse (SaveEvent ∷ []) replies
save_stays [] = tt
save_stays (r ∷ replies) = (tt, tt)

all_stay : (replies : List Reply) → StayInUse saved_events replies
all_stay [] = tt
all_stay (r ∷ replies) = (tt, save_stays replies)

-- The members have these bytes: a state was saved on them whose block 3 has the bytes that were written, and each of its members is good; those behind
-- them have no bytes.
pub record IsSavedOn (images : ℕ → Option (List ℕ)) : Type 0 where
  pub old : State
  pub fine : Fine shape_here none_out written_here old
  pub number : ℕ
  pub last : State
  pub save : Save
  pub left : LeavesSave old number last images save
  pub away : AreTakenAway save last images images
  pub good : (q : ℕ) → q / 2 < 4 → is_good (last.members q) ≡ true
  pub behind : (q : ℕ) → 4 ≤ q / 2 → images q ≡ Some []
  pub headers : HaveNoHeaders images

module _ (leaves : SavesLeave) (older : BlankIsOlder) (before now : Counts) (images bytes : ℕ → Option (List ℕ)) (steady : Type 0) (tells : ℕ → Type 0) (fresh : AreNone before)
    (never : NoneRose (λ q. 0) now.faults) (told : (q : ℕ) → tells q) (held : (q : ℕ) → IsSome (bytes q)) (empty : (q : ℕ) → 4 ≤ q / 2 → images q ≡ Some [])
    (replies : List Reply) (ran : Ran before now images bytes steady tells (Array shape_here ∷ saved_events) replies) where
  behind : (q : ℕ) → 4 ≤ q / 2 → bytes q ≡ Some []
  behind q past =
      let same = told_both IsSame (images q) (bytes q) [] (empty q past) (held q) (others_in before now images bytes steady tells (Array shape_here) 4 saved_events replies (array_makes shape_here saved_events) ran q past) in
      same.1 ∙ ap Some same.2

  pub is_saved_on : IsSavedOn bytes
  is_saved_on =
      let Known = TellsBoundaries tells ran.final.state in
      let known : Known = λ q low. told q in
      let q = quiet_history Known before shape_here saved_events replies ran.final shape_is.most_boundaries (stay_for saved_events replies all_stay) ran.history in
      let first = quiet_counts 4 q.first in
      let last = quiet 4 ran.final.state in
      let none = q.none (subst (λ (c : Counts). NoneRose before.faults c.faults) (sym ran.counts) (none_from before now fresh never)) in
      let t = trace_more Known first shape_here saved_events replies last q.trace in
      let m = run_more Known t.blank (Write 3 hi) (SaveEvent ∷ []) t.rest last t.run in
      let n = run_more Known m.mid SaveEvent [] m.rest last m.run in
      let end = run_none Known n.mid last n.rest n.run in
      let at_first = none_front first.faults t.blank.counts.faults last.counts.faults (run_keeps Known t.blank saved_events t.rest last (all_stay t.rest) t.run).counts.faults none in
      let later = none_back first.faults t.blank.counts.faults last.counts.faults t.is_blank.counts.faults none in
      let here = none_front t.blank.counts.faults m.mid.counts.faults last.counts.faults (run_keeps Known m.mid (SaveEvent ∷ []) m.rest last (save_stays m.rest) m.run).counts.faults later in
      let rest = none_back t.blank.counts.faults m.mid.counts.faults last.counts.faults (step_keeps Known t.blank (Write 3 hi) m.reply m.mid tt m.step).counts.faults later in
      let wrote = write_below Known known shape_here (omega arith) none_out (λ b. []) t.blank m.mid (blank_fine shape_here first t.blank at_first t.is_blank) here 3 hi m.reply (omega arith) m.step in
      let saved = is_saved Known written_here m.mid last wrote.1 rest n.reply (subst (λ (s : State). Step Known m.mid SaveEvent n.reply s) (sym end.1) n.step) in
      let all = holds_whole bytes ran.final.state q.seated q.whole (ran.holds tt known) in
      let left = leaves m.mid saved.number last bytes (step_less {J = AreTold} (λ _. known) m.mid SaveEvent (Saved saved.number) last saved.step) q.whole
      (record { blocks = all.blocks; label = all.label; sizes = all.sizes; fresh = all.fresh }) in
      let size : last.table.shape.b ≡ 4 = ap (λ (t : Table). t.shape.b) saved.table ∙ ap (λ (s : Shape). s.b) wrote.1.within.numbers in
      let good : (p : ℕ) → p / 2 < 4 → last.members p ≡ Good = λ p low. saved.members p ∙ good_all shape_here p low in
      record {
        old = m.mid;
        fine = wrote.1;
        number = saved.number;
        last = last;
        save = left.0;
        left = left.1;
        away = (all_stand older left.0 last bytes 0 (omega arith) (ap is_good (good 0 (omega arith))) held
            (λ p low out. good_not_out (last.members p) (good p (omega (arith, low, size))) out) (λ p past. behind p (omega (arith, past, size)))).0;
        good = λ p low. ap is_good (good p low);
        behind = behind;
        headers = saved_headers m.mid last saved.number bytes left.0 left.1 (λ p low. ap is_good (good p (omega (arith, low, size)))) (λ p past. behind p (omega (arith, past, size)));
      }

-- ---- the block is read

some_and : (P : List ℕ → Type 0) (o : Option (List ℕ)) → IsSome o → IfSome o P → IsSomeAnd o P
some_and P None told h = absurd (false≢true told)
some_and P (Some all) told h = h

module _ (images bytes : ℕ → Option (List ℕ)) (told : (q : ℕ) → IsSome (images q)) (on_it : IsSavedOn images) (before now : Counts) (zeros : AreZero now) (replies : List Reply)
    (on : GoesOn on_it.old on_it.save images bytes before now (Read 3 ∷ []) replies) where
  abbrev First : State
  First = first_of on

  table : First.table ≡ on_it.old.table
  table = on.again.resumed.table

  kept : (q : ℕ) → q / 2 < 4 → IsKept on_it.save images q
  kept q low = record {
    within = omega (arith, low);
    has = some_and (HasSaved on_it.save q) (images q) (told q) (on_it.left.has q (on_it.good q low));
    said = on_it.left.good.still q (on_it.good q low);
  }

  good : (q : ℕ) → q / 2 < 4 → First.members q ≡ Good
  good q low = (on.again.resumed.good q).1 (kept q low)

  in_use : InUse shape_here First
  in_use =
      let opens = on.again.opened.opens in
      let shape : opens.saved.table.shape ≡ shape_here = ap (λ (t : Table). t.shape) (sym opens.table ∙ table) ∙ on_it.fine.within.numbers in
      let reduced : opens.reduced ≡ all_in_use shape_here = opens.reduced_is ∙ ap all_in_use shape in
      record {
        boundaries = opens.boundaries ∙ ap (λ (r : Reduced). r.boundaries) reduced;
        live = opens.live ∙ ap (λ (r : Reduced). r.live) reduced;
        cut = opens.cut ∙ ap (λ (r : Reduced). r.cut) reduced;
      }

  module _ (new : State) (end : on.final.state ≡ new) where
    module _ (stays : Stays First new) where
      in_use_now : InUse shape_here new
      in_use_now = in_use_stays shape_here First new in_use stays

      tied : AreCountsOf on.final.state.live on.final.beneath.counts on.final.state.counts
      tied = history_tied AreTold (opened_moment on.state on.first on.state.counts) (Read 3 ∷ []) replies on.final on.begun on.history

      still_zero : (q : ℕ) → q / 2 < 4 → new.counts.faults q ≡ 0
      still_zero q low =
          let size : length new.live ≡ 4 = ap (λ (l : List ℕ). length l) in_use_now.live ∙ length-range_with_len 0 4 in
          let long : length on.final.state.live ≡ length new.live = ap (λ (s : State). length s.live) end in
          ap (λ (s : State). s.counts.faults q) (sym end) ∙ tied.faults q (omega (arith, low, size, long))
          ∙ ap (λ (c : Counts). c.faults (member_at on.final.state.live q)) on.counts ∙ zeros (member_at on.final.state.live q)

      still_good : (q : ℕ) → q / 2 < 4 → new.members q ≡ Good
      still_good q low = elim (stays.goes.members q) [
        | inl same ↦ same ∙ good q low
        | inr fell ↦ elim fell.caused [
          | inl rose ↦ absurd (no_rise (First.counts.faults q) (new.counts.faults q) (still_zero q low) rose)
          | inr filled ↦ absurd (false≢true (sym (ap is_filling (good q low)) ∙ filled.0))
        ]
      ]

      none_lost : (s : ℕ) → s < 4 → is_lost new.members s ≡ false
      none_lost s low =
          let first = still_good (2 * s) (omega (arith, low)) in
          ap (λ (m : MemberState). not (is_good m) && not (is_good (new.members (2 * s + 1)))) first

      not_gone : gone_in new 3 ≡ false
      not_gone =
          let same : new.table ≡ on_it.old.table = ap (λ (s : State). s.table) stays.rest ∙ table in
          let stand : (has_site (sites_in on_it.old.table 3) && all_lost new.members (sites_in on_it.old.table 3)) ≡ false =
          sites_stand 4 new.members (sites_in on_it.old.table 3) none_lost (on_it.fine.within.sites 3) in
          gone_is shape_here new in_use_now 3 ∙ ap (λ (t : Table). has_site (sites_in t 3) && all_lost new.members (sites_in t 3)) same ∙ stand

    reads_hi : (reply : Reply) → Step AreTold First (Read 3) reply new → reply ≡ Data hi
    reads_hi Range h =
        let past = h.0 in
        let size : First.table.shape.n ≡ 64 = ap (λ (t : Table). t.shape.n) table ∙ ap (λ (s : Shape). s.n) on_it.fine.within.numbers in
        absurd (omega (arith, past, size))
    reads_hi Unavailable h = absurd (false≢true (sym (not_gone h.3) ∙ h.1))
    reads_hi (Data some) h =
        let block : block_in First.blocks 3 ≡ padded 1024 hi = ap (λ (v : List (List ℕ)). block_in v 3) on.again.blocks ∙ on_it.fine.blocks 3 (omega arith) in
        ap Data (trimmed_written 1024 some (block_in First.blocks 3) hi (h.2 tt) block)
    reads_hi reply h = absurd h

  pub replies_are : replies ≡ Data hi ∷ []
  replies_are =
      let run = history_runs AreTold plain (opened_moment on.state on.first on.state.counts) (Read 3 ∷ []) replies on.final on.history in
      let m = run_more AreTold First (Read 3) [] replies on.final.state run in
      let end = run_none AreTold m.mid on.final.state m.rest m.run in
      m.is ∙ ap (λ (r : Reply). r ∷ m.rest) (reads_hi m.mid end.1 m.reply m.step) ∙ ap (λ (l : List Reply). Data hi ∷ l) end.0

-- ---- both calls

-- the text of the second call is read, where the first one left its save
pub reads_saved : OneLine → (tells : ℕ → Type 0) → ResumedGoesOn tells → (facts : Facts) → ((q : ℕ) → tells q) → ((q : ℕ) → IsSome (facts.images q)) → ((q : ℕ) → IsSome (facts.bytes q))
    → IsSavedOn facts.images → AreZero facts.now → facts.left ≡ Some (codes "read 3\n") → IsSome facts.rest → AllResumedBy (RanOn tells facts) facts
    → Told (Took (codes "data 6869\n")) facts.taken facts.given
reads_saved line tells law facts told held bytes on_it zeros left some all =
    let ran = all.ran in
    let shape = ran.source.saved.table.shape in
    let read = told_both (λ x a. (x ≡ input_of all.events) × (a ≡ [])) facts.left facts.rest (codes "read 3\n") left some all.input in
    let place : All (IsInPlace (Some shape)) (Read 3 ∷ []) = All-cons (IsInPlace (Some shape)) (Read 3) [] (omega arith) (All-nil (IsInPlace (Some shape))) in
    let events : all.events ≡ Read 3 ∷ [] = same_events line shape all.events (Read 3 ∷ []) ran.lines.in_place place (sym read_text ∙ read.2.0) in
    let again : IsFoundAgain on_it.old on_it.number on_it.last facts.images on_it.save facts.images facts.bytes = record { left = on_it.left; away = on_it.away; tells = bytes } in
    let quiet_opening : NoneRose facts.before.faults ran.opened.faults =
    λ q rose. no_rise (facts.before.faults q) (ran.opened.faults q) (zero_before (ran.opened.faults q) (facts.now.faults q) (ran.rise.faults q) (zeros q)) rose in
    let on = law on_it.old on_it.number on_it.last facts.images on_it.save facts all.events all.replies ran (λ q low. told q) again quiet_opening in
    let replies : all.replies ≡ Data hi ∷ [] =
    replies_are facts.images facts.bytes held on_it facts.before facts.now zeros all.replies
    (subst (λ (es : List Event). GoesOn on_it.old on_it.save facts.images facts.bytes facts.before facts.now es all.replies) events on) in
    subst (λ (t : List ℕ). Told (Took t) facts.taken facts.given) (ap output_of replies ∙ read_output) all.output

-- the first call's text is this one
pub saved_by : OneInput → SavesLeave → BlankIsOlder → (steady : Type 0) (tells : ℕ → Type 0) (facts : Facts) → AreNone facts.before → NoneRose (λ q. 0) facts.now.faults → ((q : ℕ) → tells q)
    → ((q : ℕ) → IsSome (facts.bytes q)) → ((q : ℕ) → 4 ≤ q / 2 → facts.images q ≡ Some []) → facts.left ≡ Some (codes "array 1024 64 4 32 2\nwrite 3 6869\nsave\n") → IsSome facts.rest
    → Replayed facts.before facts.now facts.images facts.bytes steady tells facts.left facts.rest facts.taken facts.given → IsSavedOn facts.bytes
saved_by one leaves older steady tells facts fresh never told held empty left some all =
    let read = told_both (λ x a. (x ≡ input_of all.events) × (a ≡ [])) facts.left facts.rest _ left some all.input in
    let events = one all.events (Array shape_here ∷ saved_events) all.ran.in_place saved_placed (sym read.2.0 ∙ saved_text) in
    is_saved_on leaves older facts.before facts.now facts.images facts.bytes steady tells fresh never told held empty all.replies
    (subst (λ (es : List Event). Ran facts.before facts.now facts.images facts.bytes steady tells es all.replies) events all.ran)

-- where no count rose by the end of the second call, none had by the end of the first one
pub none_between : (steady : Type 0) (tells : ℕ → Type 0) (facts : Facts) (status : Status) → EndsResumed steady tells facts status → status ≡ Finished → NoneRose (λ q. 0) facts.now.faults
    → AreZero facts.now × NoneRose (λ q. 0) facts.before.faults
none_between steady tells facts status ends is never =
    let ended : AreZero facts.now = λ q. zero_still (facts.now.faults q) (never q) in
    (ended, λ q rose. no_rise 0 (facts.before.faults q) (zero_before (facts.before.faults q) (facts.now.faults q) (rise status ends is q) (ended q)) rose)
  where
    rise : (s : Status) → EndsResumed steady tells facts s → s ≡ Finished → (q : ℕ) → facts.before.faults q ≤ facts.now.faults q
    rise s (inl first) is q = let both : Finished ≡ NoMemory = sym is ∙ first.is in absurd (cc both)
    rise s (inr (inl alone)) is q =
        let all = subst (λ (x : Status). EndsResume tells facts x) is alone.ends in
        omega (arith, all.ran.source.rise.faults q, all.ran.rise.faults q)
    rise s (inr (inr by)) is q = by.sees.rise.faults q
