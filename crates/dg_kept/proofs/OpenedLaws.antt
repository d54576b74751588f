-- What an array is that was opened from members on which a save is found.
use Rattle.std.proofs.Common.{◌≡◌, ◌∙◌, ℕ, ◌/◌, ◌%◌, ◌<◌, ◌≤◌, inl, inr, get_or, Bool, true, List, refl, sym, ap, subst, arith}
use Rattle.std.specs.Prelude.{Contains, IsSome, Option, Some, ◌==◌, ◌&&◌}
use Rattle.std.proofs.lemmas.Bool.{false≢true}
use Rattle.std.proofs.lemmas.List.Elements.{Contains-get_or}
use Rattle.dg_model.specs.Blocks.{block_in}
use Rattle.dg_model.specs.Causes.{NoneRose}
use Rattle.dg_model.specs.Changes.{IsInOrder}
use Rattle.dg_model.specs.Marks.{AreNext, is_marked}
use Rattle.dg_model.specs.Members.{SlotOf, is_good, serves, slot_of}
use Rattle.dg_model.specs.Openings.{Found, IsReopened, IsSource, MayBeGood, Opens, Reduced, copies_after}
use Rattle.dg_model.specs.Placed.{IsPlaced}
use Rattle.dg_model.specs.Saves.{Label, SavedState, body_of}
use Rattle.dg_model.specs.Seals.{LastLabel, label_on}
use Rattle.dg_model.specs.States.{Counts, StandsFor, State, is_broken}
use Rattle.dg_model.specs.Tables.{IsTable, StandsIn, Table, sites_in}
use Rattle.dg_model.specs.Wants.{AreWants, FitWants}
use Rattle.dg_model.specs.declared.homes.Home.{Home}
use Rattle.dg_model.specs.declared.members.MemberState.{MemberState}
use Rattle.dg_model.specs.declared.members.MemberState.TheVariants.{Good}
use Rattle.dg_model.specs.declared.phases.Phase.{Phase}
use Rattle.dg_model.specs.declared.phases.Phase.TheVariants.{Loose, Settled, Worn}
use Rattle.dg_model.specs.declared.sites.Site.{Site}
use Rattle.ufs_model.specs.Malformations.{IsSoundVolume}
use Rattle.dg_save.specs.Laws.{BodiesAreUnique, LabelsAreUnique}
use Rattle.dg_kept.proofs.BlockLaws.{agree, agree_whole, good_is}
use Rattle.dg_kept.proofs.FoundLaws.{newest_has, source_is, taken_up}
use Rattle.dg_kept.proofs.ToldLaws.{if_from, some_and, some_from, told_of}
use Rattle.dg_kept.specs.Opened.{AreAsFound, AreTold, HoldsSaved, IsAsSaved, IsKept, StaysSettled, state_in}
use Rattle.dg_kept.specs.Saved.{HasSaved, IsFoundOn, IsSave, Save}
use Rattle.dg_kept.specs.Taken.{AreTaken}

-- ---- order

-- what holds of a settled state holds of each with its sites, blocks, homes and copies
pub order_moves : (a b : State) → a.table ≡ b.table → a.blocks ≡ b.blocks → a.homes ≡ b.homes → a.copies ≡ b.copies → IsInOrder AreTold a → IsInOrder AreTold b
order_moves a b table blocks homes copies h = record {
  wants = h.wants;
  seen = record {
    fit = subst (λ (t : Table). FitWants t h.wants) table h.seen.fit;
    are = λ told. subst (λ (t : Table). AreWants t.shape.l t.shape.n b.blocks h.wants) table
        (subst (λ (v : List (List ℕ)). AreWants a.table.shape.l a.table.shape.n v h.wants) blocks (h.seen.are told));
  };
  placed = subst (λ (t : Table). IsPlaced h.wants t b.homes b.copies) table
      (subst (λ (x : List Home). IsPlaced h.wants a.table x b.copies) homes (subst (λ (x : List Home). IsPlaced h.wants a.table a.homes x) copies h.placed));
  sound = λ told. subst (λ (t : Table). IsSoundVolume t.shape.l t.shape.n b.blocks) table
      (subst (λ (v : List (List ℕ)). IsSoundVolume a.table.shape.l a.table.shape.n v) blocks (h.sound told));
}

-- ---- members that may be good

-- whatever members do that are good only where they may be: those hold the blocks of the save
module _ (labels : LabelsAreUnique) (bodies : BodiesAreUnique) (save : Save) (images : ℕ → Option (List ℕ)) (taken : ℕ → Option Found) (is : IsSave save)
    (found : IsFoundOn save images) (read : AreTaken images taken) (first : ℕ) (label : Label) (saved : SavedState) (of : IsSource taken first label saved) where
  found_source : (label ≡ label_on save.label first) × (saved ≡ save.state)
  found_source = source_is labels bodies save is images found taken read first label saved of

  on_place : (q : ℕ) → label_on save.label q ≡ record label { boundary = q / 2; side = q % 2 }
  on_place q = ap (λ (n : ℕ). record (label_on save.label q) { boundary = n / 2; side = n % 2 }) (is.numbers q)
      ∙ ap (λ (l : Label). record l { boundary = q / 2; side = q % 2 }) (sym found_source.0)

  kept_may : (q : ℕ) → IsKept save images q → MayBeGood taken label saved q
  kept_may q kept =
      let at = some_and (HasSaved save q) (images q) kept.has in
      let up = taken_up labels bodies save is images found taken read q at.0 kept.within at.1 at.2 in
      record {
        found = up.f;
        there = up.there;
        same = up.label ∙ on_place q;
        said = subst (λ (s : SavedState). is_marked s.good q ≡ true) (sym found_source.1) kept.said;
      }

  may_kept : (q : ℕ) → MayBeGood taken label saved q → IsKept save images q
  may_kept q may =
      let here = ap (λ (l : Label). l.sequence) may.same in
      let there = ap (λ (l : Label). l.sequence) found_source.0 in
      let great : save.label.sequence ≤ may.found.label.sequence = omega (arith, here, there) in
      let has = newest_has labels bodies save is images found taken read q may.found great may.there in
      record {
        within = has.m.within;
        has = some_from (HasSaved save q) (images q) has.m.all has.m.told has.has;
        said = subst (λ (s : SavedState). is_marked s.good q ≡ true) found_source.1 may.said;
      }

  module _ (members : ℕ → MemberState) (are : AreAsFound taken label saved members) where
    serves_may : (q slot : ℕ) → serves (members q) slot ≡ true → IsKept save images q
    serves_may q slot does = elim (are q) [
      | inl good ↦ may_kept q good.1
      | inr bad ↦ absurd (false≢true (subst (λ (m : MemberState). serves m slot ≡ true) bad does))
    ]

    in_slot : (b : ℕ) → b < save.state.table.shape.n → (site : Site) → Contains (sites_in save.state.table b) site → (q : ℕ) → q / 2 ≡ site.boundary
        → serves (members q) site.slot ≡ true → SlotOf save.state.table.shape.l site.slot (block_in save.blocks b) (images q)
    in_slot b low site here q on does =
        let at = some_and (HasSaved save q) (images q) (serves_may q site.slot does).has in
        let stands : StandsIn save.state.table b (q / 2) site.slot =
        subst (λ (s : ℕ). Contains (sites_in save.state.table b) (record { boundary = s; slot = site.slot })) (sym on) here in
        if_from (λ (all : List ℕ). slot_of save.state.table.shape.l site.slot all ≡ block_in save.blocks b) (images q) at.0 at.1 (at.2.blocks b site.slot low stands)

    pub saved_held : StandsFor saved.table members images save.blocks
    saved_held = subst (λ (s : SavedState). StandsFor s.table members images save.blocks) (sym found_source.1) (record {
      size = is.size;
      blank = is.blank;
      held = λ b low k d inside. in_slot b low (get_or (sites_in save.state.table b) k d) (Contains-get_or (sites_in save.state.table b) k d inside);
    })

-- ---- the opened state

module _ (labels : LabelsAreUnique) (bodies : BodiesAreUnique) (save : Save) (images : ℕ → Option (List ℕ)) (taken : ℕ → Option Found) (beside : Option Reduced)
    (before : Counts) (state : State) (is : IsSave save) (found : IsFoundOn save images) (read : AreTaken images taken) (h : Opens AreTold taken beside before state)
    (quiet : NoneRose before.faults state.counts.faults) where
  source : (h.label ≡ label_on save.label h.source) × (h.saved ≡ save.state)
  source = source_is labels bodies save is images found taken read h.source h.label h.saved h.is_source

  table_is : state.table ≡ save.state.table
  table_is = h.table ∙ ap (λ (s : SavedState). s.table) source.1

  -- ---- members

  kept_good : (q : ℕ) → IsKept save images q → state.members q ≡ Good
  kept_good q kept = elim (h.out q) [
    | inl good ↦ good
    | inr bad ↦ absurd (quiet q (bad.1 (kept_may labels bodies save images taken is found read h.source h.label h.saved h.is_source q kept)))
  ]

  good_kept : (q : ℕ) → state.members q ≡ Good → IsKept save images q
  good_kept q good = may_kept labels bodies save images taken is found read h.source h.label h.saved h.is_source q (h.good q good)

  as_found : AreAsFound taken h.label h.saved state.members
  as_found q = elim (h.out q) [ inl good ↦ inl (good, h.good q good) | inr bad ↦ inr bad.0 ]

  -- ---- the label

  -- the label that is made of that of the source
  abbrev made : Bool → Label → List ℕ → LastLabel
  made sealed label body = record {
    format = label.format;
    sequence = label.sequence;
    sealed = sealed;
    shape = label.shape;
    body = body;
    keepers = λ q. is_good (state.members q);
    bodies = λ q. (q == h.source) && is_good (state.members q);
    numbers = λ q. q;
  }

  label_is : state.label ≡ Some (made save.label.sealed (label_on save.label h.source) save.label.body)
  label_is = h.label_is ∙ ap (λ (l : Label). Some (made true l (body_of l.format h.saved))) source.0
      ∙ ap (λ (s : SavedState). Some (made true (label_on save.label h.source) (body_of save.label.format s))) source.1
      ∙ ap (λ (body : List ℕ). Some (made true (label_on save.label h.source) body)) (sym is.body)
      ∙ ap (λ (sealed : Bool). Some (made sealed (label_on save.label h.source) save.label.body)) (sym is.sealed)

  pub as_saved : IsAsSaved save images state
  as_saved = record {
    table = table_is;
    homes = h.homes ∙ ap (λ (s : SavedState). s.homes) source.1;
    recent = h.recent ∙ ap (λ (s : SavedState). s.recent) source.1;
    marks = subst (λ (s : SavedState). AreNext (is_broken state) AreTold state.table.shape.l state.table.shape.n state.blocks s.pending state.pending) source.1 h.pending;
    phase = subst (λ (s : SavedState). IsReopened AreTold s state) source.1 h.phase;
    good = λ q. (good_kept q, kept_good q);
    out = λ q. elim (h.out q) [ inl good ↦ inl good | inr bad ↦ inr bad.0 ];
    label = (h.source, label_is);
  }

  -- ---- blocks

  good_told : (q : ℕ) → is_good (state.members q) ≡ true → IsSome (images q)
  good_told q good =
      let at = some_and (HasSaved save q) (images q) (good_kept q (good_is (state.members q) good)).has in
      told_of (images q) at.0 at.1

  held : StandsFor state.table state.members images save.blocks
  held = subst (λ (t : Table). StandsFor t state.members images save.blocks) (sym h.table)
      (saved_held labels bodies save images taken is found read h.source h.label h.saved h.is_source state.members as_found)

  table_ok : IsTable state.table
  table_ok = subst IsTable (sym table_is) is.form.can.table

  pub holds_saved : HoldsSaved save images state
  holds_saved = record {
    held = held;
    blocks = λ holds b low stands. agree state.table state.members images good_told state.blocks save.blocks holds held b low stands;
    whole = λ holds whole. agree_whole state.table state.members images good_told state.blocks save.blocks table_ok whole holds held;
  }

  -- ---- a settled save

  pub stays_settled : StaysSettled save state
  stays_settled settled order whole blocks = on state.phase refl
    where
      on : (phase : Phase) → state.phase ≡ phase → (state.phase ≡ Settled) × (state.copies ≡ save.state.copies)
      on Loose e = absurd (h.phase.loose e (ap (λ (s : SavedState). s.phase) source.1 ∙ settled) tt
          (order_moves (state_in save) (record state { copies = h.saved.copies }) (sym table_is) (sym blocks) (sym (h.homes ∙ ap (λ (s : SavedState). s.homes) source.1))
          (sym (ap (λ (s : SavedState). s.copies) source.1)) order))
      on Settled e = (e, h.phase.copies ∙ ap (λ (p : Phase). copies_after p h.saved.copies) e ∙ ap (λ (s : SavedState). s.copies) source.1)
      on Worn e = absurd (false≢true (sym whole ∙ h.phase.worn.0 e))
