-- What is taken of a rack, and what is opened from it.
use Rattle.std.proofs.Common.{◌≡◌, ◌≢◌, inl, inr, ℕ, ◌/◌, ◌%◌, ◌<◌, Bool, true, false, cond, List, length, refl, sym, ◌∙◌, ap, subst, arith, eqb, eq-eqb}
use Rattle.std.specs.Prelude.{◌==◌, Option, Some, None, IfSome, if◌then◌else◌}
use Rattle.std.specs.Option.{option_map}
use Rattle.std.proofs.lemmas.Bool.{cases_eq, cases_lt, false≢true}
use Rattle.std.proofs.lemmas.List.{get_or_past}
use Rattle.dg_io.specs.declared.outside.Rack.{Ghosts}
use Rattle.dg_model.specs.Marks.{is_marked}
use Rattle.dg_model.specs.Openings.{Found, HasOwnLabel, IsNewest, IsSource, IsUnclean, MayBeGood, Says}
use Rattle.dg_model.specs.Saves.{Label as LabelValue, SavedState as SavedValue}
use Rattle.dg_open.proofs.ReadLemmas.{failed_before, if_both, if_some, reads_both, seen_on}
use Rattle.dg_open.specs.Founds.{ComesBefore, IsBodyRead, IsOlder, IsPassed, IsRead}
use Rattle.dg_open.specs.Reopenings.{AreReadOf, FindsNoState, FindsUnclean, LeavesRead}
use Rattle.dg_open.specs.Seen.{AreLabeled, AreSealed, AreSeen, HasNumber, HasOpened, IsCounted, IsFirst, IsGreatest, IsGreatestOf}
use Rattle.dg_open.specs.Seen.{IsLabeledBy, IsSeen, SayNone, SaysNone, found_with, label_at, taken_in}
use Rattle.dg_open.specs.declared.bodies.Source.{Source}
use Rattle.dg_save.specs.Labels.{label_of}
use Rattle.dg_save.specs.States.{state_of}
use Rattle.dg_save.specs.declared.labels.Label.{Label}

-- ---- what is taken, by the table

same_found : (a b : Found) → Some a ≡ Some b → a ≡ b
same_found a b e = cc

none_found : (a : Found) → None ≡ Some a → ⊥
none_found a e = cc

pub record TakenLabel (table : List (Option Label)) (state : Option SavedValue) (q : ℕ) (found : Found) : Type 0 where
  pub label : Label
  pub there : label_at table q ≡ Some label
  pub is : found ≡ found_with state label

taken_label : (table : List (Option Label)) (states : ℕ → Option SavedValue) (q : ℕ) (found : Found) → taken_in table states q ≡ Some found
    → TakenLabel table (states q) q found
taken_label table states q found there = by_label (label_at table q) refl there
  where
    by_label : (o : Option Label) → label_at table q ≡ o → option_map (found_with (states q)) o ≡ Some found → TakenLabel table (states q) q found
    by_label None at there = absurd (none_found found there)
    by_label (Some label) at there = record { label = label; there = at; is = sym (same_found _ _ there) }

taken_is : (table : List (Option Label)) (states : ℕ → Option SavedValue) (q : ℕ) (label : Label) → label_at table q ≡ Some label
    → taken_in table states q ≡ Some (found_with (states q) label)
taken_is table states q label at = ap (λ (o : Option Label). option_map (found_with (states q)) o) at

some_low : (table : List (Option Label)) (q : ℕ) (label : Label) → length table ≡ 32 → label_at table q ≡ Some label → q < 32
some_low table q label size at = elim (cases_lt q 32) [
  | inl low ↦ low
  | inr high ↦ absurd (none_label (sym (get_or_past table q None (omega (arith, size))) ∙ at))
]
  where
    none_label : None ≡ Some label → ⊥
    none_label e = cc

-- ---- the newest

module _ (table : List (Option Label)) (states : ℕ → Option SavedValue) (size : length table ≡ 32) (greatest : ℕ) (is_greatest : IsGreatest table 32 greatest) where
  newest_label : (q : ℕ) (found : Found) → IsNewest (taken_in table states) q found → TakenLabel table (states q) q found
  newest_label q found newest = taken_label table states q found newest.there

  newest_number : (q : ℕ) (found : Found) (newest : IsNewest (taken_in table states) q found) → HasNumber table greatest q (newest_label q found newest).label
  newest_number q found newest =
      let own = newest_label q found newest in
      let first = newest.greatest is_greatest.q (found_with (states is_greatest.q) is_greatest.label) (taken_is table states is_greatest.q is_greatest.label is_greatest.there) in
      let last = is_greatest.most q own.label (some_low table q own.label size own.there) own.there in
      let at = ap (λ (f : Found). f.label.sequence) own.is in
      record { there = own.there; is = omega (arith, first, last, at, is_greatest.is) }

  number_newest : (q : ℕ) (label : Label) → HasNumber table greatest q label → IsNewest (taken_in table states) q (found_with (states q) label)
  number_newest q label number = record {
    there = taken_is table states q label number.there;
    greatest = λ p other there.
        let own = taken_label table states p other there in
        let most = is_greatest.most p own.label (some_low table p own.label size own.there) own.there in
        let at = ap (λ (f : Found). f.label.sequence) own.is in
        let here = number.is in
        omega (arith, most, at, here);
  }

  -- a label that isn't one of the newest is older
  older : (q : ℕ) (label : Label) → label_at table q ≡ Some label → label.sequence ≢ greatest → IsOlder (taken_in table states) (label_of label)
  older q label at other =
      let most = is_greatest.most q label (some_low table q label size at) at in
      record {
        p = is_greatest.q;
        found = found_with (states is_greatest.q) is_greatest.label;
        there = taken_is table states is_greatest.q is_greatest.label is_greatest.there;
        greater = omega (arith, most, is_greatest.is, other);
      }

  clean : AreSealed table greatest 32 → IsUnclean (taken_in table states) → ⊥
  clean sealed unclean =
      let own = newest_label unclean.q unclean.found unclean.newest in
      let is = sealed unclean.q own.label (some_low table unclean.q own.label size own.there) (newest_number unclean.q unclean.found unclean.newest) in
      false≢true (sym unclean.opened ∙ ap (λ (f : Found). f.label.sealed) own.is ∙ is)

-- ---- what is read

any_some : (P : List ℕ → Type 0) (o : Option (List ℕ)) → ((all : List ℕ) → P all) → IfSome o P
any_some P None gives = tt
any_some P (Some all) gives = gives all

abbrev BodiesRead : {R : Type 0} → Ghosts R → R → R → List (Option Label) → (ℕ → Option SavedValue) → Type 0
BodiesRead rack before now table states = (q : ℕ) (label : Label) → q < 32 → label_at table q ≡ Some label
    → IfSome (rack.bytes now q) (λ all. IsBodyRead (taken_in table states) q ((rack.counts before).faults q) ((rack.counts now).faults q) (label_of label) all (states q))

abbrev ReadAs : {R : Type 0} → Ghosts R → R → R → List (Option Label) → (ℕ → Option SavedValue) → ℕ → Option Label → Type 0
ReadAs rack before now table states q o = IfSome (rack.bytes now q)
    (λ all. IsRead (taken_in table states) q ((rack.counts before).faults q) ((rack.counts now).faults q) all (option_map (found_with (states q)) o))

are_read : {R : Type 0} (rack : Ghosts R) (before now : R) (table : List (Option Label)) (states : ℕ → Option SavedValue)
    → AreSeen rack before now table 32 → BodiesRead rack before now table states → AreReadOf rack before now (taken_in table states)
are_read rack before now table states seen bodies = record {
  each = λ q low. by_label q low (label_at table q) refl (seen.seen q low);
  others = λ q high. ap (λ (o : Option Label). option_map (found_with (states q)) o) (get_or_past table q None (omega (arith, seen.size, high)));
}
  where
    by_label : (q : ℕ) → q < 32 → (o : Option Label) → label_at table q ≡ o → IsSeen rack before now q o → ReadAs rack before now table states q (label_at table q)
    by_label q low None at is = subst (λ (o : Option Label). ReadAs rack before now table states q o) (sym at) (elim is [
      | inl failed ↦ any_some _ (rack.bytes now q) (λ all. inr failed)
      | inr none ↦ if_some (λ all. (label : LabelValue) → HasOwnLabel q all label → ⊥) _ (rack.bytes now q) none (λ all h. inl h)
    ])
    by_label q low (Some label) at is = subst (λ (o : Option Label). ReadAs rack before now table states q o) (sym at)
        (if_both (λ all. HasOwnLabel q all (label_of label))
        (λ all. IsBodyRead (taken_in table states) q ((rack.counts before).faults q) ((rack.counts now).faults q) (label_of label) all (states q)) _
        (rack.bytes now q) is.own (bodies q label low at) (λ all own body. (own, body)))

-- where the body of a member wasn't read
body_passed : {R : Type 0} (rack : Ghosts R) (before now : R) (taken : ℕ → Option Found) (q : ℕ) (label : LabelValue) → IsPassed taken q label
    → IfSome (rack.bytes now q) (λ all. IsBodyRead taken q ((rack.counts before).faults q) ((rack.counts now).faults q) label all None)
body_passed rack before now taken q label passed = any_some _ (rack.bytes now q) (λ all. inr (inr passed))

-- where it says none
body_silent : {R : Type 0} (rack : Ghosts R) (before now : R) (taken : ℕ → Option Found) (q : ℕ) (label : Label) → SaysNone rack before now q label
    → IfSome (rack.bytes now q) (λ all. IsBodyRead taken q ((rack.counts before).faults q) ((rack.counts now).faults q) (label_of label) all None)
body_silent rack before now taken q label silent = elim silent [
  | inl failed ↦ any_some _ (rack.bytes now q) (λ all. inr (inl failed))
  | inr none ↦ if_some (λ all. Says (label_of label) all None) _ (rack.bytes now q) none (λ all h. inl h)
]

silent_before : {R : Type 0} (rack : Ghosts R) (before start now : R) (q : ℕ) (label : Label) → LeavesRead rack before start → SaysNone rack start now q label → SaysNone rack before now q label
silent_before rack before start now q label leaves silent = elim silent [
  | inl failed ↦ inl (failed_before rack before start now q leaves failed)
  | inr none ↦ inr none
]

-- what was seen before the bodies were read is so afterwards
pub seen_after : {R : Type 0} (rack : Ghosts R) (before start now : R) (table : List (Option Label)) → AreSeen rack before start table 32 → LeavesRead rack start now → AreSeen rack before now table 32
seen_after rack before start now table seen leaves = record {
  seen = λ q low. seen_on rack before start now q (label_at table q) (seen.seen q low) leaves;
  leaves = reads_both rack before start now seen.leaves leaves;
  size = seen.size;
}

pub seen_labeled : {R : Type 0} (rack : Ghosts R) (before now : R) (table : List (Option Label)) → AreSeen rack before now table 32 → AreLabeled rack now table
seen_labeled rack before now table seen q low = by_label (label_at table q) (seen.seen q low)
  where
    by_label : (o : Option Label) → IsSeen rack before now q o → IfSome o (IsLabeledBy rack now q)
    by_label None is = tt
    by_label (Some label) is = is

-- ---- no state

abbrev no_states : ℕ → Option SavedValue
no_states q = None

pub finds_nothing : {R : Type 0} (rack : Ghosts R) (before now : R) (table : List (Option Label)) → AreSeen rack before now table 32 → IsGreatestOf table 32 None
    → FindsNoState rack before now
finds_nothing rack before now table seen none = record {
  taken = taken_in table no_states;
  read = are_read rack before now table no_states seen (λ q label low at. absurd (none_label label (sym (none q low) ∙ at)));
  none = record {
    clean = λ unclean. nothing unclean.q unclean.found unclean.newest.there;
    none = λ q found newest. absurd (nothing q found newest.there);
  };
  leaves = seen.leaves;
}
  where
    none_label : (label : Label) → None ≡ Some label → ⊥
    none_label label e = cc

    nothing : (q : ℕ) (found : Found) → taken_in table no_states q ≡ Some found → ⊥
    nothing q found there =
        let own = taken_label table no_states q found there in
        none_label own.label (sym (none q (some_low table q own.label seen.size own.there)) ∙ own.there)

pub finds_unclean : {R : Type 0} (rack : Ghosts R) (before now : R) (table : List (Option Label)) (greatest : ℕ) → AreSeen rack before now table 32 → IsGreatest table 32 greatest
    → HasOpened table greatest → FindsUnclean rack before now
finds_unclean rack before now table greatest seen is_greatest opened =
    let unclean : IsUnclean (taken_in table no_states) = record {
      q = opened.q;
      found = found_with None opened.label;
      newest = number_newest table no_states seen.size greatest is_greatest opened.q opened.label opened.number;
      opened = opened.opened;
    } in
    record {
      taken = taken_in table no_states;
      read = are_read rack before now table no_states seen (λ q label low at. body_passed rack before now (taken_in table no_states) q (label_of label) (inr (inl unclean)));
      unclean = unclean;
      leaves = seen.leaves;
    }

pub finds_silent : {R : Type 0} (rack : Ghosts R) (before start now : R) (table : List (Option Label)) (greatest : ℕ) → AreSeen rack before start table 32 → IsGreatest table 32 greatest
    → AreSealed table greatest 32 → LeavesRead rack start now → SayNone rack start now table greatest 32 → FindsNoState rack before now
finds_silent rack before start now table greatest seen is_greatest sealed leaves none = record {
  taken = taken_in table no_states;
  read = are_read rack before now table no_states (seen_after rack before start now table seen leaves) bodies;
  none = record {
    clean = clean table no_states seen.size greatest is_greatest sealed;
    none = λ q found newest. ap (λ (f : Found). f.state) (newest_label table no_states seen.size greatest is_greatest q found newest).is;
  };
  leaves = reads_both rack before start now seen.leaves leaves;
}
  where
    bodies : BodiesRead rack before now table no_states
    bodies q label low at = elim (cases_eq label.sequence greatest) [
      | inl is ↦ body_silent rack before now (taken_in table no_states) q label
          (silent_before rack before start now q label seen.leaves (none q label low (record { there = at; is = is })))
      | inr other ↦ body_passed rack before now (taken_in table no_states) q (label_of label) (inl (older table no_states seen.size greatest is_greatest q label at other))
    ]

-- ---- a state

-- the source alone says a state
abbrev pub state_from : ℕ → SavedValue → ℕ → Option SavedValue
state_from s saved q = if q == s then Some saved else None

from_here : (s : ℕ) (saved : SavedValue) (q : ℕ) → q ≡ s → state_from s saved q ≡ Some saved
from_here s saved q same = ap (λ (b : Bool). cond b (Some saved) None) (eq-eqb q s same)

from_other : (s : ℕ) (saved : SavedValue) (q : ℕ) → q ≢ s → state_from s saved q ≡ None
from_other s saved q other = by_test (eqb q s) refl
  where
    by_test : (b : Bool) → eqb q s ≡ b → cond b (Some saved) None ≡ None
    by_test false e = refl
    by_test true e = absurd (other (grind (arith, e)))

module _ {R : Type 0} (rack : Ghosts R) (before start now : R) (table : List (Option Label)) (greatest : ℕ) (source : Source)
    (seen : AreSeen rack before start table 32) (is_greatest : IsGreatest table 32 greatest) (sealed : AreSealed table greatest 32)
    (leaves : LeavesRead rack start now) (first : IsFirst rack start now table greatest source) where
  abbrev saved_value : SavedValue
  saved_value = state_of source.saved

  abbrev states : ℕ → Option SavedValue
  states = state_from first.q saved_value

  abbrev taken : ℕ → Option Found
  taken = taken_in table states

  source_newest : IsNewest taken first.q (record { label = label_of source.label; state = Some saved_value })
  source_newest = subst (λ (o : Option SavedValue). IsNewest taken first.q (record { label = label_of source.label; state = o }))
      (from_here first.q saved_value first.q refl) (number_newest table states seen.size greatest is_greatest first.q source.label first.number)

  comes_before : (q : ℕ) → first.q < q → ComesBefore taken q
  comes_before q later = record {
    p = first.q;
    found = record { label = label_of source.label; state = Some saved_value };
    saved = saved_value;
    before = later;
    newest = source_newest;
    state = refl;
  }

  abbrev BodyIs : ℕ → Label → Option SavedValue → Type 0
  BodyIs q label o = IfSome (rack.bytes now q) (λ all. IsBodyRead taken q ((rack.counts before).faults q) ((rack.counts now).faults q) (label_of label) all o)

  same_label : (a b : Label) → Some a ≡ Some b → a ≡ b
  same_label a b e = cc

  body_other : (q : ℕ) (label : Label) → q < 32 → label_at table q ≡ Some label → q ≢ first.q → BodyIs q label None
  body_other q label low at other = elim (cases_eq label.sequence greatest) [
    | inl is ↦ elim (cases_lt q first.q) [
      | inl early ↦ body_silent rack before now taken q label
          (silent_before rack before start now q label seen.leaves (first.first q label early (record { there = at; is = is })))
      | inr late ↦ body_passed rack before now taken q (label_of label) (inr (inr (comes_before q (omega (arith, other)))))
    ]
    | inr less ↦ body_passed rack before now taken q (label_of label) (inl (older table states seen.size greatest is_greatest q label at less))
  ]

  body_here : (q : ℕ) (label : Label) → label_at table q ≡ Some label → q ≡ first.q → BodyIs q label (Some saved_value)
  body_here q label at same =
      let own : label ≡ source.label = same_label label source.label (sym at ∙ ap (λ (p : ℕ). label_at table p) same ∙ first.number.there) in
      subst (λ (p : ℕ). IfSome (rack.bytes now p) (λ all. Says (label_of label) all (Some saved_value))) (sym same)
      (subst (λ (l : Label). IfSome (rack.bytes now first.q) (λ all. Says (label_of l) all (Some saved_value))) (sym own) first.says.says)

  bodies : BodiesRead rack before now table states
  bodies q label low at = elim (cases_eq q first.q) [
    | inl same ↦ subst (λ (o : Option SavedValue). BodyIs q label o) (sym (from_here first.q saved_value q same)) (body_here q label at same)
    | inr other ↦ subst (λ (o : Option SavedValue). BodyIs q label o) (sym (from_other first.q saved_value q other)) (body_other q label low at other)
  ]

  pub source_read : AreReadOf rack before now taken
  source_read = are_read rack before now table states (seen_after rack before start now table seen leaves) bodies

  pub source_is : IsSource taken first.q (label_of source.label) saved_value
  source_is = record {
    clean = clean table states seen.size greatest is_greatest sealed;
    newest = source_newest;
    first = λ p other early newest. ap (λ (f : Found). f.state) (newest_label table states seen.size greatest is_greatest p other newest).is
        ∙ from_other first.q saved_value p (λ e. omega (arith, e));
  }

  -- ---- its members

  pub counted_may : (failed : List Bool) (q : ℕ) → IsCounted table failed source.label source.saved.good q → MayBeGood taken (label_of source.label) saved_value q
  counted_may failed q counted = record {
    found = found_with (states q) (record source.label { boundary = q / 2; side = q % 2 });
    there = taken_is table states q (record source.label { boundary = q / 2; side = q % 2 }) counted.there;
    same = refl;
    said = counted.said;
  }

  back : LabelValue → Label
  back l = record { format = l.format; sequence = l.sequence; sealed = l.sealed; boundary = l.boundary; side = l.side; shape = l.shape; body = l.body }

  pub may_counted : (failed : List Bool) (q : ℕ) → MayBeGood taken (label_of source.label) saved_value q → is_marked failed q ≡ false
      → IsCounted table failed source.label source.saved.good q
  unfolding back
  may_counted failed q may stood =
      let own = taken_label table states q may.found may.there in
      let value : label_of own.label ≡ record (label_of source.label) { boundary = q / 2; side = q % 2 } = sym (ap (λ (f : Found). f.label) own.is) ∙ may.same in
      let same : own.label ≡ record source.label { boundary = q / 2; side = q % 2 } = ap back value in
      record {
        there = own.there ∙ ap (λ (l : Label). Some l) same;
        said = may.said;
        stood = stood;
      }
