-- What is read of an array that was opened from a save.
use Rattle.std.proofs.Common.{◌≡◌, ◌∙◌, ℕ, ◌<◌, inl, inr, suc, Bool, true, false, List, [], ◌∷◌, refl, sym, ap, subst, arith}
use Rattle.std.specs.Prelude.{All, Option, ◌||◌}
use Rattle.std.proofs.lemmas.Bool.{cases_Bool, false≢true}
use Rattle.dg_model.specs.Blocks.{IsTrimmed, block_in}
use Rattle.dg_model.specs.Changes.{IsInOrder, Stays}
use Rattle.dg_model.specs.Marks.{AreNext}
use Rattle.dg_model.specs.Members.{MembersFall, is_good}
use Rattle.dg_model.specs.Openings.{IsReopened}
use Rattle.dg_model.specs.Runs.{Run}
use Rattle.dg_model.specs.Saves.{SavedState}
use Rattle.dg_model.specs.Sites.{is_gone}
use Rattle.dg_model.specs.States.{Holds, State, gone_in, is_broken, is_cut}
use Rattle.dg_model.specs.Steps.{Step}
use Rattle.dg_model.specs.Tables.{Table}
use Rattle.dg_model.specs.declared.events.Event.{Event}
use Rattle.dg_model.specs.declared.events.Event.TheVariants.{Audit, Cat, Home, LostFiles, Ls, Pending, Read, Tree, Who}
use Rattle.dg_model.specs.declared.members.MemberState.{MemberState}
use Rattle.dg_model.specs.declared.phases.Phase.TheVariants.{Settled}
use Rattle.dg_model.specs.declared.replies.Reply.{Reply}
use Rattle.dg_model.specs.declared.replies.Reply.TheVariants.{Audited, Blocks, Cut, Data, Given, HomeAt, Listed, ListedCut, LostFiles as LostFilesReply, LostFilesCut, NoHome, Nodes, NodesCut, NotSettled, Range, Refused, Unavailable, Verdict}
use Rattle.dg_model.proofs.MemberLaws.{NoneRecovers, gone_stays}
use Rattle.dg_kept.proofs.OpenedLaws.{order_moves}
use Rattle.dg_kept.specs.Opened.{AreTold, HoldsSaved, IsAsSaved, StaysSettled, state_in}
use Rattle.dg_kept.specs.Saved.{Save}
use Rattle.dg_kept.specs.SavedRuns.{GivesBlock, IsReading, IsResumed, LeavesSave}

-- ---- a run on what was left

pub resumed : (old : State) (number : ℕ) (last : State) (bytes images : ℕ → Option (List ℕ)) (save : Save) (state : State) → LeavesSave old number last bytes save
    → IsAsSaved save images state → HoldsSaved save images state → StaysSettled save state → IsResumed old save images state
resumed old number last bytes images save state left is holds stays = record {
  table = table;
  homes = is.homes ∙ ap (λ (s : SavedState). s.homes) left.state;
  recent = is.recent ∙ ap (λ (s : SavedState). s.recent) left.state;
  marks = subst (λ (s : SavedState). AreNext (is_broken state) AreTold state.table.shape.l state.table.shape.n state.blocks s.pending state.pending) left.state is.marks;
  phase = subst (λ (s : SavedState). IsReopened AreTold s state) left.state is.phase;
  good = is.good;
  out = is.out;
  held = subst (λ (v : List (List ℕ)). Holds images (record state { blocks = v })) left.blocks holds.held;
  blocks = λ held b low stands. holds.blocks held b (subst (λ (t : Table). b < t.shape.n) (sym table) low) stands ∙ ap (λ (v : List (List ℕ)). block_in v b) left.blocks;
  whole = λ held whole. holds.whole held whole ∙ left.blocks;
  settled = λ settled order whole blocks. settled_again settled order whole blocks;
}
  where
    table : state.table ≡ old.table
    table = is.table ∙ ap (λ (s : SavedState). s.table) left.state

    settled_again : old.phase ≡ Settled → IsInOrder AreTold old → is_broken state ≡ false → state.blocks ≡ old.blocks → (state.phase ≡ Settled) × (state.copies ≡ old.copies)
    settled_again settled order whole blocks =
        let again = stays (ap (λ (s : SavedState). s.phase) left.state ∙ settled) (order_moves old (state_in save) (sym (ap (λ (s : SavedState). s.table) left.state))
        (sym left.blocks) (sym (ap (λ (s : SavedState). s.homes) left.state)) (sym (ap (λ (s : SavedState). s.copies) left.state)) order) whole (blocks ∙ sym left.blocks) in
        (again.0, again.1 ∙ ap (λ (s : SavedState). s.copies) left.state)

-- ---- readings

-- sites and blocks are as before, and no member became good
record Remains (old new : State) : Type 0 where
  table : new.table ≡ old.table
  blocks : new.blocks ≡ old.blocks
  members : NoneRecovers old.members new.members

same : (old new : State) → new ≡ old → Remains old new
same old new is = record {
  table = ap (λ (s : State). s.table) is;
  blocks = ap (λ (s : State). s.blocks) is;
  members = λ q good. ap (λ (s : State). is_good (s.members q)) (sym is) ∙ good;
}

fall_back : (before now : ℕ → ℕ) (old new : ℕ → MemberState) → MembersFall before now old new → NoneRecovers old new
fall_back before now old new falls q good = elim (falls q) [
  | inl same ↦ ap is_good (sym same) ∙ good
  | inr fallen ↦ absurd (false≢true (sym (ap is_good fallen.out) ∙ good))
]

stays : (old new : State) → Stays old new → Remains old new
stays old new h = record {
  table = ap (λ (s : State). s.table) h.rest;
  blocks = ap (λ (s : State). s.blocks) h.rest;
  members = fall_back old.counts.faults new.counts.faults old.members new.members h.goes.members;
}

read_remains : (old : State) (event : Event) (reply : Reply) (new : State) → IsReading event → Step AreTold old event reply new → Remains old new
read_remains old (Read b) Range new is h = same old new h.1
read_remains old (Read b) Unavailable new is h = stays old new h.3
read_remains old (Read b) (Data bytes) new is h = stays old new h.5
read_remains old (Who b) Range new is h = same old new h.1
read_remains old (Who b) Unavailable new is h = same old new h.2
read_remains old (Who b) (Verdict who) new is h = same old new h.3
read_remains old Pending (Blocks blocks) new is h = same old new h.1
read_remains old (Cat path) (Given lines) new is h = record {
  table = ap (λ (s : State). s.table) h.2.rest;
  blocks = ap (λ (s : State). s.blocks) h.2.rest;
  members = fall_back old.counts.faults new.counts.faults old.members new.members h.2.goes.members;
}
read_remains old (Cat path) (Refused refusal) new is h = stays old new h.1
read_remains old (Cat path) Unavailable new is h = stays old new h.1
read_remains old (Cat path) (Cut lines) new is h = stays old new h.3
read_remains old (Ls path) (Listed entries) new is h = stays old new h.1
read_remains old (Ls path) (Refused refusal) new is h = stays old new h.1
read_remains old (Ls path) Unavailable new is h = stays old new h.1
read_remains old (Ls path) (ListedCut entries) new is h = stays old new h.2
read_remains old Tree NotSettled new is h = same old new h.1
read_remains old Tree (Nodes entries) new is h = stays old new h.2
read_remains old Tree (Refused refusal) new is h = stays old new h.2
read_remains old Tree Unavailable new is h = stays old new h.2
read_remains old Tree (NodesCut entries) new is h = stays old new h.3
read_remains old (Home path) NotSettled new is h = same old new h.1
read_remains old (Home path) (HomeAt s copy) new is h = stays old new h.2
read_remains old (Home path) NoHome new is h = stays old new h.2
read_remains old (Home path) (Refused refusal) new is h = stays old new h.2
read_remains old (Home path) Unavailable new is h = stays old new h.2
read_remains old LostFiles NotSettled new is h = same old new h.1
read_remains old LostFiles (LostFilesReply lost) new is h = stays old new h.2
read_remains old LostFiles (Refused refusal) new is h = stays old new h.2
read_remains old LostFiles Unavailable new is h = stays old new h.2
read_remains old LostFiles (LostFilesCut lost) new is h = stays old new h.3
read_remains old Audit (Audited findings) new is h = stays old new h.1
read_remains old Audit Unavailable new is h = stays old new h.1
read_remains old (Read b) reply new is h = absurd h
read_remains old (Who b) reply new is h = absurd h
read_remains old Pending reply new is h = absurd h
read_remains old (Cat path) reply new is h = absurd h
read_remains old (Ls path) reply new is h = absurd h
read_remains old Tree reply new is h = absurd h
read_remains old (Home path) reply new is h = absurd h
read_remains old LostFiles reply new is h = absurd h
read_remains old Audit reply new is h = absurd h
read_remains old event reply new is h = absurd is

then : (old mid new : State) → Remains old mid → Remains mid new → Remains old new
then old mid new first second = record {
  table = second.table ∙ first.table;
  blocks = second.blocks ∙ first.blocks;
  members = λ q good. first.members q (second.members q good);
}

runs_remain : (old : State) (events : List Event) (replies : List Reply) (new : State) → All IsReading events → Run AreTold old events replies new → Remains old new
runs_remain old [] [] new each run = same old new run
runs_remain old [] (reply ∷ replies) new each run = absurd run
runs_remain old (event ∷ events) [] new each run = absurd run
runs_remain old (event ∷ events) (reply ∷ replies) new each run =
    then old run.0 new (read_remains old event reply run.0 (each 0 event (omega arith)) run.1)
    (runs_remain run.0 events replies new (λ k d low. each (suc k) d (omega (arith, low))) run.2)

-- ---- a block

or_left : (a b : Bool) → a ≡ true → (a || b) ≡ false → ⊥
or_left a b e none = false≢true (sym none ∙ ap (λ (x : Bool). x || b) e)

-- a block that isn't gone wasn't
stood_before : (state new : State) (b : ℕ) → Remains state new → gone_in new b ≡ false → is_gone state.table state.members b ≡ false
stood_before state new b is stands = elim (cases_Bool (is_gone state.table state.members b)) [
  | inl gone ↦
      let now = gone_stays state.table state.members new.members b is.members gone in
      let here : is_gone new.table new.members b ≡ true = subst (λ (t : Table). is_gone t new.members b ≡ true) (sym is.table) now in
      absurd (or_left (is_gone new.table new.members b) (is_cut new b) here stands)
  | inr stood ↦ stood
]

gives : (state : State) (b : ℕ) (reply : Reply) (new : State) → b < state.table.shape.n → gone_in new b ≡ false → Step AreTold state (Read b) reply new → GivesBlock state.blocks b reply
gives state b Range new low stands step = absurd (let past = step.0 in omega (arith, past, low))
gives state b Unavailable new low stands step = absurd (false≢true (sym stands ∙ step.1))
gives state b (Data bytes) new low stands step = record { bytes = bytes; reply_is = refl; trimmed = step.2 tt }
gives state b reply new low stands step = absurd step

pub reads_saved : (old : State) (save : Save) (images : ℕ → Option (List ℕ)) (state : State) (events : List Event) (replies : List Reply) (mid : State) (b : ℕ) (reply : Reply) (new : State)
    → IsResumed old save images state → Holds images state → All IsReading events → Run AreTold state events replies mid → b < old.table.shape.n
    → Step AreTold mid (Read b) reply new → gone_in new b ≡ false → GivesBlock old.blocks b reply
reads_saved old save images state events replies mid b reply new is held each run low step stands =
    let front = runs_remain state events replies mid each run in
    let all = then state mid new front (read_remains mid (Read b) reply new tt step) in
    let inside : b < mid.table.shape.n = subst (λ (t : Table). b < t.shape.n) (sym (front.table ∙ is.table)) low in
    let given = gives mid b reply new inside stands step in
    let value : block_in mid.blocks b ≡ block_in old.blocks b =
    ap (λ (v : List (List ℕ)). block_in v b) front.blocks ∙ is.blocks held b low (stood_before state new b all stands) in
    record { bytes = given.bytes; reply_is = given.reply_is; trimmed = subst (λ (block : List ℕ). IsTrimmed given.bytes block) value given.trimmed }
