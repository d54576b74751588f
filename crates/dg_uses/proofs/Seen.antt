-- All of a state but its counts and its label, and what a step in which no count of faults rises leaves of it.
use Rattle.std.proofs.Common.{◌≡◌, ◌≢◌, ◌∙◌, ◌&&◌, ◌||◌, ◌⊎◌, ◌+◌, ℕ, Bool, true, false, not, List, Option, Some, None, refl, sym, ap, inl, inr}
use Rattle.std.specs.Prelude.{if◌then◌else◌}
use Rattle.std.proofs.lemmas.Bool.{cases_eq, false≢true}
use Rattle.dg_model.specs.Causes.{NoneRose}
use Rattle.dg_model.specs.Changes.{Goes, Stays}
use Rattle.dg_model.specs.Members.{ArePaired, HasFallen, IsStruck, MembersFall, OthersFall, is_filling, is_good, partner_of}
use Rattle.dg_model.specs.Seals.{KeepsLabel, LastLabel, label_after, next_sequence}
use Rattle.dg_model.specs.States.{Counts, State}
use Rattle.dg_model.specs.Tables.{Table}
use Rattle.dg_model.specs.declared.homes.Home.{Home}
use Rattle.dg_model.specs.declared.members.MemberState.{MemberState}
use Rattle.dg_model.specs.declared.members.MemberState.TheVariants.{Good, Filling, Out}
use Rattle.dg_model.specs.declared.phases.Phase.{Phase}

-- all fields of a state but two
pub record Seen : Type 0 where
  pub boundaries : ℕ
  pub live : List ℕ
  pub table : Table
  pub blocks : List (List ℕ)
  pub pending : List Bool
  pub cut : List Bool
  pub homes : List Home
  pub copies : List Home
  pub phase : Phase
  pub recent : List ℕ
  pub members : ℕ → MemberState

abbrev pub seen_of : State → Seen
seen_of s = record {
  boundaries = s.boundaries;
  live = s.live;
  table = s.table;
  blocks = s.blocks;
  pending = s.pending;
  cut = s.cut;
  homes = s.homes;
  copies = s.copies;
  phase = s.phase;
  recent = s.recent;
  members = s.members;
}

-- the state with these two
abbrev pub state_of : Seen → Option LastLabel → Counts → State
state_of c label counts = record {
  boundaries = c.boundaries;
  live = c.live;
  table = c.table;
  blocks = c.blocks;
  pending = c.pending;
  cut = c.cut;
  homes = c.homes;
  copies = c.copies;
  phase = c.phase;
  recent = c.recent;
  members = c.members;
  label = label;
  counts = counts;
}

-- ---- members

not_good : (m : MemberState) → m ≡ Out → is_good m ≡ false
not_good m out = ap is_good out

pub good_fills : (m : MemberState) → is_good m ≡ true → is_filling m ≡ false
good_fills Good h = refl
good_fills (Filling have) h = absurd (false≢true h)
good_fills Out h = refl

module _ (before now : ℕ → ℕ) (old new : ℕ → MemberState) (none : NoneRose before now) (paired : ArePaired old) where
  -- a good member doesn't fall where no count of faults rises
  good_stands : (q : ℕ) → is_good (old q) ≡ true → HasFallen before now old new q → ⊥
  good_stands q good fell = elim fell.caused [
    | inl rose ↦ none q rose
    | inr left ↦ false≢true (sym (good_fills (old q) good) ∙ left.0)
  ]

  -- and so none does
  pub members_stay : MembersFall before now old new → (q : ℕ) → new q ≡ old q
  members_stay falls q = elim (falls q) [
    | inl same ↦ same
    | inr fell ↦ elim fell.caused [
      | inl rose ↦ absurd (none q rose)
      | inr left ↦ absurd (partner (falls (partner_of q)) (paired q left.0) left.1)
    ]
  ]
    where
      partner : (new (partner_of q) ≡ old (partner_of q)) ⊎ HasFallen before now old new (partner_of q) → is_good (old (partner_of q)) ≡ true → new (partner_of q) ≡ Out → ⊥
      partner (inl same) good out = false≢true (sym (not_good (old (partner_of q)) (sym same ∙ out)) ∙ good)
      partner (inr fell) good out = good_stands (partner_of q) good fell

  -- the same of all members but one, which isn't out
  pub others_stay : (p : ℕ) → new p ≢ Out → OthersFall p before now old new → (q : ℕ) → q ≢ p → new q ≡ old q
  others_stay p in_it falls q other = elim (falls q other) [
    | inl same ↦ same
    | inr fell ↦ elim fell.caused [
      | inl rose ↦ absurd (none q rose)
      | inr left ↦ absurd (partner (cases_eq (partner_of q) p) (paired q left.0) left.1)
    ]
  ]
    where
      partner : (partner_of q ≡ p) ⊎ (partner_of q ≢ p) → is_good (old (partner_of q)) ≡ true → new (partner_of q) ≡ Out → ⊥
      partner (inl here) good out = in_it (ap new (sym here) ∙ out)
      partner (inr apart) good out = elim (falls (partner_of q) apart) [
        | inl same ↦ false≢true (sym (not_good (old (partner_of q)) (sym same ∙ out)) ∙ good)
        | inr fell ↦ good_stands (partner_of q) good fell
      ]

-- an event makes a member fail in one way, as a member that is refilled keeps a good partner
pub struck_one : (k : ℕ) (m x y : ℕ → MemberState) → ArePaired x → ArePaired y → IsStruck k m x → IsStruck k m y → (q : ℕ) → x q ≡ y q
struck_one k m x y pairs paired one two q = elim (cases_eq q k) [
  | inl same ↦ ap x same ∙ one.out ∙ sym two.out ∙ sym (ap y same)
  | inr other ↦ by other (one.others q other) (two.others q other)
]
  where
    left_out : (z : ℕ → MemberState) → ArePaired z → z k ≡ Out → is_filling (m q) ≡ true → partner_of q ≡ k → z q ≡ m q → ⊥
    left_out z pairs out fills partner same =
        false≢true (sym (ap is_good (ap z partner ∙ out)) ∙ pairs q (ap is_filling same ∙ fills))

    by : q ≢ k → (x q ≡ m q) ⊎ ((is_filling (m q) ≡ true) × (x q ≡ Out) × (partner_of q ≡ k)) → (y q ≡ m q) ⊎ ((is_filling (m q) ≡ true) × (y q ≡ Out) × (partner_of q ≡ k)) → x q ≡ y q
    by other (inl same) (inl too) = same ∙ sym too
    by other (inl same) (inr h) = absurd (left_out x pairs one.out h.0 h.2 same)
    by other (inr h) (inl same) = absurd (left_out y paired two.out h.0 h.2 same)
    by other (inr h) (inr g) = h.1 ∙ sym g.1

-- ---- labels

pub next_number_is : (opens : Bool) (old new : ℕ → MemberState) (label : Option LastLabel) → next_sequence (label_after opens old new label) ≡ next_sequence label
next_number_is opens old new None = refl
next_number_is opens old new (Some last) = by (last.sealed && not opens)
  where
    by : (b : Bool) → next_sequence (Some (if b then last else record last {
      sealed = false;
      keepers = λ q. (last.sealed || last.keepers q) && (is_good (old q) && is_good (new q));
    })) ≡ last.sequence + 1
    by true = refl
    by false = refl

-- a step that is no save leaves the number of the next one
pub number_kept : (before now : ℕ) (old new : ℕ → MemberState) (last next : Option LastLabel) → KeepsLabel before now old new last next → next_sequence next ≡ next_sequence last
number_kept before now old new last next h = ap next_sequence h.is ∙ next_number_is h.opens old new last

-- ---- steps that leave all that is seen

module _ (c : Seen) (l : Option LastLabel) (n : Counts) (x : State) (paired : ArePaired c.members) (none : NoneRose n.faults x.counts.faults) where
  pub goes_stay : Goes (state_of c l n) x → x.members ≡ c.members
  goes_stay h = λ i q. members_stay n.faults x.counts.faults c.members x.members none paired h.members q i

  pub stays_seen : Stays (state_of c l n) x → seen_of x ≡ c
  stays_seen h = ap seen_of h.rest ∙ ap (λ (m : ℕ → MemberState). record c { members = m }) (goes_stay h.goes)
