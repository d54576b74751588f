-- What is taken of members that a save was left on, and an array that goes on from them.
use Rattle.std.proofs.Common.{◌≡◌, ◌∙◌, ◌++◌, ◌<◌, ℕ, List, [], ◌∷◌, inl, inr, false, arith, refl, sym, ap, subst}
use Rattle.std.specs.Prelude.{All, Option, Some, None, IfSome, IsSome}
use Rattle.std.proofs.lemmas.Bool.{false≢true}
use Rattle.std.proofs.lemmas.List.Elements.{All-head, All-tail}
use Rattle.dg_io.specs.Told.{IsSame, Told}
use Rattle.dg_kept.specs.Opened.{AreTold}
use Rattle.dg_kept.specs.Saved.{Save}
use Rattle.dg_kept.specs.SavedRuns.{GivesBlock, IsReading, IsResumed}
use Rattle.dg_kept.specs.Taken.{AreTaken, IsBodyTaken, IsSpared, IsTaken}
use Rattle.dg_model.proofs.KnownLaws.{step_less}
use Rattle.dg_model.proofs.StepLaws.{StaysInUse, step_keeps}
use Rattle.dg_model.specs.Causes.{NoneRose, Rose}
use Rattle.dg_model.specs.Changes.{Stays}
use Rattle.dg_model.specs.Moments.{AreCountsOf, History}
use Rattle.dg_model.specs.Moments.Kind.{plain}
use Rattle.dg_model.specs.Openings.{Found, Opens}
use Rattle.dg_model.specs.Runs.{Run}
use Rattle.dg_model.specs.Saves.{Label, SavedState}
use Rattle.dg_model.specs.States.{Counts, State, gone_in}
use Rattle.dg_model.specs.Steps.{Step}
use Rattle.dg_model.specs.declared.events.Event.{Event}
use Rattle.dg_model.specs.declared.events.Event.TheVariants.{Audit, Cat, Home, LostFiles, Ls, Pending, Read, Regroup, Tree, Who}
use Rattle.dg_model.specs.declared.replies.Reply.{Reply}
use Rattle.dg_model.specs.declared.replies.Reply.TheVariants.{Audited, Blocks, Cut, Data, Given, HomeAt, Listed, ListedCut, LostFiles as LostFilesReply, LostFilesCut, NoHome, Nodes, NodesCut, NotSettled, Range, Refused, Unavailable, Verdict}
use Rattle.dg_model.specs.declared.shapes.Shape.{Shape}
use Rattle.dg_open.specs.Founds.{AreRead, IsBodyRead, IsPassed, IsRead}
use Rattle.dg_run.specs.Calls.{Facts as CallFacts, met_by}
use Rattle.dg_run.specs.Opened.{Reached, opened_moment}
use Rattle.dg_saved.specs.Calls.{Facts}
use Rattle.dg_saved.specs.OpeningLaws.{opens_alone, opens_less}
use Rattle.dg_saved.specs.Saved.{HasLooked, HasSource, IsKnown, IsOpenedAs, RunsFrom, had}
use Rattle.dg_uses.proofs.QuietRuns.{history_less}
use Rattle.dg_uses.specs.Answers.{TellsEach}
use Rattle.dg_uses.specs.Saves.{GoesOn, IsAnswered, IsOpenedAgain, KeepsNothing}

-- ---- what is taken where no count rose

spared : (taken : ℕ → Option Found) (q : ℕ) (label : Label) → IsPassed taken q label → IsSpared taken q label
spared taken q label (inl older) = inl (record { p = older.p; found = older.found; there = older.there; greater = older.greater })
spared taken q label (inr (inl unclean)) = inr (inl unclean)
spared taken q label (inr (inr first)) =
    inr (inr (record { p = first.p; found = first.found; saved = first.saved; before = first.before; newest = first.newest; says = first.state }))

body_taken : (taken : ℕ → Option Found) (q before now : ℕ) (label : Label) (all : List ℕ) (state : Option SavedState) → (Rose before now → ⊥)
    → IsBodyRead taken q before now label all state → IsBodyTaken taken q label all state
body_taken taken q before now label all (Some saved) none read = read
body_taken taken q before now label all None none (inl says) = inl says
body_taken taken q before now label all None none (inr (inl rose)) = absurd (none rose)
body_taken taken q before now label all None none (inr (inr passed)) = inr (spared taken q label passed)

is_taken : (taken : ℕ → Option Found) (q before now : ℕ) (all : List ℕ) (found : Option Found) → (Rose before now → ⊥) → IsRead taken q before now all found
    → IsTaken taken q all found
is_taken taken q before now all None none (inl nothing) = nothing
is_taken taken q before now all None none (inr rose) = absurd (none rose)
is_taken taken q before now all (Some found) none read = (read.0, body_taken taken q before now found.label all found.state none read.1)

if_told : (P Q : List ℕ → Type 0) (o : Option (List ℕ)) → ((all : List ℕ) → P all → Q all) → IfSome o P → IfSome o Q
if_told P Q None f h = tt
if_told P Q (Some all) f h = f all h

pub are_taken : (images : ℕ → Option (List ℕ)) (before now : ℕ → ℕ) (taken : ℕ → Option Found) → NoneRose before now → AreRead images before now taken
    → AreTaken images taken
are_taken images before now taken none read = record {
  each = λ q low. if_told (λ all. IsRead taken q (before q) (now q) all (taken q)) (λ all. IsTaken taken q all (taken q)) (images q)
      (λ all h. is_taken taken q (before q) (now q) all (taken q) (none q) h) (read.each q low);
  others = read.others;
}

-- ---- what a call finds

pub had_is : (image all : Option (List ℕ)) → IsSome all → had image all ≡ image
had_is image None told = absurd (false≢true told)
had_is image (Some all) told = refl

-- what an array was opened from is what the members had
pub source_taken : (facts : Facts) (opened : Counts) (source : HasSource facts opened) → TellsEach facts.bytes → NoneRose facts.before.faults opened.faults
    → AreTaken facts.images source.taken
source_taken facts opened source tells none =
    let same : (λ (q : ℕ). had (facts.images q) (facts.bytes q)) ≡ facts.images = λ i q. had_is (facts.images q) (facts.bytes q) (tells q) i in
    subst (λ (f : ℕ → Option (List ℕ)). AreTaken f source.taken) same
    (are_taken (λ (q : ℕ). had (facts.images q) (facts.bytes q)) facts.before.faults opened.faults source.taken none source.read)

had_before : (P : List ℕ → Type 0) (image all : Option (List ℕ)) → IsSome all → Told IsSame image all → IfSome all P → IfSome image P
had_before P None all told same h = tt
had_before P (Some image) None told same h = absurd (false≢true told)
had_before P (Some image) (Some all) told same h = subst P same h

-- and so is what was looked at in vain
pub looked_taken : (facts : Facts) (looked : HasLooked facts) → TellsEach facts.bytes → NoneRose facts.before.faults facts.now.faults
    → AreTaken facts.images looked.taken
looked_taken facts looked tells none =
    let found = are_taken facts.bytes facts.before.faults facts.now.faults looked.taken none looked.read in
    record {
      each = λ q low. had_before (λ all. IsTaken looked.taken q all (looked.taken q)) (facts.images q) (facts.bytes q) (tells q) (looked.same q) (found.each q low);
      others = found.others;
    }

-- ---- an opening whose bytes are told

-- An array that was opened with the blocks of a save has those of the old state.
module _ (tells : ℕ → Type 0) (facts : Facts) (opened : Counts) (source : HasSource facts opened) (nothing : KeepsNothing facts) (old : State) (save : Save) where
  pub opened_again : (state : State) → IsOpenedAs tells facts opened source save.blocks state → IsKnown tells facts opened source save.blocks → save.blocks ≡ old.blocks
      → AreTaken facts.images source.taken → NoneRose facts.before.faults opened.faults
      → ((s : State) → Opens AreTold source.taken None facts.before s → NoneRose facts.before.faults s.counts.faults → IsResumed old save facts.images s)
      → IsOpenedAgain old save facts.images facts.before state
  opened_again state is known same taken none resume =
      let opens : Opens AreTold source.taken None facts.before state =
      opens_less (λ _. known) source.taken None facts.before state (opens_alone facts nothing.extra nothing.room source tells save.blocks state is) in
      let quiet : NoneRose facts.before.faults state.counts.faults = subst (λ (c : Counts). NoneRose facts.before.faults c.faults) (sym is.counts) none in
      record {
        opened = record { taken = source.taken; are = taken; opens = opens; none = quiet };
        resumed = resume state opens quiet;
        blocks = is.blocks ∙ same;
      }

-- A resumed one goes on from there.
pub goes_on : (tells : ℕ → Type 0) (facts : CallFacts) (opened : Counts) (source : HasSource (met_by facts) opened) (old : State) (save : Save) (events : List Event)
    (replies : List Reply) (on : Reached tells facts opened source save.blocks events replies) → IsKnown tells (met_by facts) opened source save.blocks
    → IsOpenedAgain old save facts.images facts.before on.resumed.state → GoesOn old save facts.images facts.bytes facts.before facts.now events replies
goes_on tells facts opened source old save events replies on known again =
    let resumed = on.resumed in
    record {
      state = resumed.state;
      again = again;
      first = resumed.first;
      begun = subst (λ (c : Counts). AreCountsOf resumed.state.live c resumed.first) (sym resumed.is.counts) resumed.begun;
      final = resumed.final;
      history = subst (λ (c : Counts). History AreTold plain (opened_moment resumed.state resumed.first c) events replies resumed.final) (sym resumed.is.counts)
          (history_less (λ _. known) plain (opened_moment resumed.state resumed.first opened) events replies resumed.final resumed.history);
      holds = on.holds known;
      counts = on.counts;
    }

-- One that was asked for one thing answered from there.
pub is_answered : (tells : ℕ → Type 0) (facts : Facts) (opened : Counts) (source : HasSource facts opened) (old : State) (save : Save) (event : Event) (reply : Reply)
    (on : RunsFrom tells facts opened source event reply save.blocks) → IsKnown tells facts opened source save.blocks
    → IsOpenedAgain old save facts.images facts.before on.state → IsAnswered old save facts.images facts.bytes facts.before facts.now event reply
is_answered tells facts opened source old save event reply on known again = record {
  state = on.state;
  again = again;
  final = on.next;
  step = step_less (λ _. known) on.state event reply on.next on.step;
  holds = on.holds known;
  counts = on.counts;
}

-- ---- the reply to an event among others

pub record IsAnsweredAt (first : State) (front : List Event) (event : Event) (replies : List Reply) : Type 0 where
  pub answers : List Reply
  pub reply : Reply
  pub others : List Reply
  pub split : replies ≡ answers ++ reply ∷ others
  pub mid : State
  pub led : Run AreTold first front answers mid
  pub new : State
  pub step : Step AreTold mid event reply new

pub answered_at : (first : State) (front : List Event) (event : Event) (rest : List Event) (replies : List Reply) (last : State)
    → Run AreTold first (front ++ event ∷ rest) replies last → IsAnsweredAt first front event replies
answered_at first [] event rest [] last run = absurd run
answered_at first [] event rest (reply ∷ replies) last run = record {
  answers = [];
  reply = reply;
  others = replies;
  split = refl;
  mid = first;
  led = refl;
  new = run.0;
  step = run.1;
}
answered_at first (one ∷ front) event rest [] last run = absurd run
answered_at first (one ∷ front) event rest (reply ∷ replies) last run =
    let at = answered_at run.0 front event rest replies last run.2 in
    record {
      answers = reply ∷ at.answers;
      reply = at.reply;
      others = at.others;
      split = ap (λ (l : List Reply). reply ∷ l) at.split;
      mid = at.mid;
      led = (run.0, run.1, at.led);
      new = at.new;
      step = at.step;
    }

-- ---- blocks that are read of an array that went on

keeps_blocks : (old new : State) → Stays old new → new.blocks ≡ old.blocks
keeps_blocks old new h = ap (λ (s : State). s.blocks) h.rest

reading_keeps : (old : State) (event : Event) (reply : Reply) (new : State) → IsReading event → Step AreTold old event reply new → new.blocks ≡ old.blocks
reading_keeps old (Read b) Range new is h = ap (λ (s : State). s.blocks) h.1
reading_keeps old (Read b) Unavailable new is h = keeps_blocks old new h.3
reading_keeps old (Read b) (Data bytes) new is h = keeps_blocks old new h.5
reading_keeps old (Who b) Range new is h = ap (λ (s : State). s.blocks) h.1
reading_keeps old (Who b) Unavailable new is h = ap (λ (s : State). s.blocks) h.2
reading_keeps old (Who b) (Verdict who) new is h = ap (λ (s : State). s.blocks) h.3
reading_keeps old Pending (Blocks blocks) new is h = ap (λ (s : State). s.blocks) h.1
reading_keeps old (Cat path) (Given lines) new is h = ap (λ (s : State). s.blocks) h.2.rest
reading_keeps old (Cat path) (Refused refusal) new is h = keeps_blocks old new h.1
reading_keeps old (Cat path) Unavailable new is h = keeps_blocks old new h.1
reading_keeps old (Cat path) (Cut lines) new is h = keeps_blocks old new h.3
reading_keeps old (Ls path) (Listed entries) new is h = keeps_blocks old new h.1
reading_keeps old (Ls path) (Refused refusal) new is h = keeps_blocks old new h.1
reading_keeps old (Ls path) Unavailable new is h = keeps_blocks old new h.1
reading_keeps old (Ls path) (ListedCut entries) new is h = keeps_blocks old new h.2
reading_keeps old Tree NotSettled new is h = ap (λ (s : State). s.blocks) h.1
reading_keeps old Tree (Nodes entries) new is h = keeps_blocks old new h.2
reading_keeps old Tree (Refused refusal) new is h = keeps_blocks old new h.2
reading_keeps old Tree Unavailable new is h = keeps_blocks old new h.2
reading_keeps old Tree (NodesCut entries) new is h = keeps_blocks old new h.3
reading_keeps old (Home path) NotSettled new is h = ap (λ (s : State). s.blocks) h.1
reading_keeps old (Home path) (HomeAt s copy) new is h = keeps_blocks old new h.2
reading_keeps old (Home path) NoHome new is h = keeps_blocks old new h.2
reading_keeps old (Home path) (Refused refusal) new is h = keeps_blocks old new h.2
reading_keeps old (Home path) Unavailable new is h = keeps_blocks old new h.2
reading_keeps old LostFiles NotSettled new is h = ap (λ (s : State). s.blocks) h.1
reading_keeps old LostFiles (LostFilesReply lost) new is h = keeps_blocks old new h.2
reading_keeps old LostFiles (Refused refusal) new is h = keeps_blocks old new h.2
reading_keeps old LostFiles Unavailable new is h = keeps_blocks old new h.2
reading_keeps old LostFiles (LostFilesCut lost) new is h = keeps_blocks old new h.3
reading_keeps old Audit (Audited findings) new is h = keeps_blocks old new h.1
reading_keeps old Audit Unavailable new is h = keeps_blocks old new h.1
reading_keeps old (Read b) reply new is h = absurd h
reading_keeps old (Who b) reply new is h = absurd h
reading_keeps old Pending reply new is h = absurd h
reading_keeps old (Cat path) reply new is h = absurd h
reading_keeps old (Ls path) reply new is h = absurd h
reading_keeps old Tree reply new is h = absurd h
reading_keeps old (Home path) reply new is h = absurd h
reading_keeps old LostFiles reply new is h = absurd h
reading_keeps old Audit reply new is h = absurd h
reading_keeps old event reply new is h = absurd is

reading_stays : (event : Event) (reply : Reply) → IsReading event → StaysInUse event reply
reading_stays Regroup reply is = absurd is
reading_stays event reply is = tt

-- readings keep the blocks, and the array's numbers
readings_keep : (first : State) (front : List Event) (answers : List Reply) (mid : State) → All IsReading front → Run AreTold first front answers mid
    → (mid.blocks ≡ first.blocks) × (mid.table.shape ≡ first.table.shape)
readings_keep first [] [] mid each run = (ap (λ (s : State). s.blocks) run, ap (λ (s : State). s.table.shape) run)
readings_keep first [] (reply ∷ answers) mid each run = absurd run
readings_keep first (event ∷ front) [] mid each run = absurd run
readings_keep first (event ∷ front) (reply ∷ answers) mid each run =
    let is = All-head IsReading event front each in
    let rest = readings_keep run.0 front answers mid (All-tail IsReading event front each) run.2 in (
      rest.0 ∙ reading_keeps first event reply run.0 is run.1,
      rest.1 ∙ (step_keeps AreTold first event reply run.0 (reading_stays event reply is) run.1).table.shape,
    )

gives_block : (mid : State) (b : ℕ) (reply : Reply) (new : State) → b < mid.table.shape.n → Step AreTold mid (Read b) reply new → gone_in new b ≡ false
    → GivesBlock mid.blocks b reply
gives_block mid b Range new low h stands = let past = h.0 in absurd (omega (arith, low, past))
gives_block mid b Unavailable new low h stands = absurd (false≢true (sym stands ∙ h.1))
gives_block mid b (Data bytes) new low h stands = record { bytes = bytes; reply_is = refl; trimmed = h.2 tt }
gives_block mid b reply new low h stands = absurd h

-- so each block that is read, and isn't gone, is that of the first state
pub reads_block : (first : State) (front : List Event) (answers : List Reply) (mid : State) (b : ℕ) (reply : Reply) (new : State) → All IsReading front
    → Run AreTold first front answers mid → b < first.table.shape.n → Step AreTold mid (Read b) reply new → gone_in new b ≡ false → GivesBlock first.blocks b reply
reads_block first front answers mid b reply new each run low step stands =
    let kept = readings_keep first front answers mid each run in
    subst (λ (v : List (List ℕ)). GivesBlock v b reply) kept.0
    (gives_block mid b reply new (subst (λ (s : Shape). b < s.n) (sym kept.1) low) step stands)
