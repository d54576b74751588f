-- Lost boundaries are taken out of use: where no count of faults rises, and just those go that were lost before, this has one reply, and leads to one
-- state but for its counts and its label.
use Rattle.std.proofs.Common.{◌≡◌, ◌≢◌, ◌⊎◌, ◌∙◌, ◌<◌, ◌≤◌, ◌+◌, ◌*◌, ◌/◌, ◌%◌, ◌&&◌, ◌||◌, ◌==◌, ℕ, Bool, true, false, not, List, [], ◌∷◌, Option, get_or, map, length, refl, sym, ap, subst, inl, inr, arith}
use Rattle.std.specs.Prelude.{if◌then◌else◌, filter, nat_lt, slice_index}
use Rattle.std.specs.List.{Contains, range_with_len}
use Rattle.std.specs.List.Sorted.{IsStrictlyIncreasing}
use Rattle.std.proofs.Math.Nat.{mul-le-mul_right}
use Rattle.std.proofs.lemmas.Bool.{cases_Bool, cases_eq, cases_lt, cond-false, eq-eqb, false≢true, and_parts, le-ltb}
use Rattle.std.proofs.lemmas.List.{get_or-map, length-map}
use Rattle.std.proofs.lemmas.List.Elements.{All-filter, filter_passes}
use Rattle.std.proofs.lemmas.List.FromFn.{get_or-range_with_len, length-range_with_len}
use Rattle.std.proofs.lemmas.List.Sums.{fails_before_first}
use Rattle.ufs_model.specs.Blocks.{Volume}
use Rattle.dg_model.specs.Blocks.{block_in, zeros}
use Rattle.dg_model.specs.Causes.{NoneRose, Rose}
use Rattle.dg_model.specs.Changes.{phase_after}
use Rattle.dg_model.specs.Lives.{left_of, member_at, place_in}
use Rattle.dg_model.specs.Marks.{AreNext, is_marked}
use Rattle.dg_model.specs.Members.{ArePaired, HasFallen, MembersFall, is_filling, is_good, is_lost, partner_of}
use Rattle.dg_model.specs.Moments.{AreCountsOf}
use Rattle.dg_model.specs.Moves.{count_upto}
use Rattle.dg_model.specs.Regroups.{Regroups, homes_left, left_in, member_before, members_left, state_left, table_left}
use Rattle.dg_model.specs.Seals.{LastLabel}
use Rattle.dg_model.specs.Sites.{is_gone}
use Rattle.dg_model.specs.States.{Counts, State, has_lost, is_broken}
use Rattle.dg_model.specs.Steps.{Step}
use Rattle.dg_model.specs.Tables.{Table}
use Rattle.dg_model.specs.declared.events.Event.TheVariants.{Regroup}
use Rattle.dg_model.specs.declared.members.MemberState.{MemberState}
use Rattle.dg_model.specs.declared.members.MemberState.TheVariants.{Good, Filling, Out}
use Rattle.dg_model.specs.declared.phases.Phase.{Phase}
use Rattle.dg_model.specs.declared.replies.Reply.{Reply}
use Rattle.dg_model.specs.declared.replies.Reply.TheVariants.{Whole, TooFew, Regrouped}
use Rattle.dg_model.specs.declared.shapes.Shape.{Shape}
use Rattle.dg_model.proofs.MemberLaws.{good_was, lost_stays}
use Rattle.dg_model.proofs.NumberLists.{filter_in}
use Rattle.dg_model.proofs.RegroupLaws.{left_ascend, place_at, place_of_at, rises}
use Rattle.dg_model.proofs.StepLaws.{StaysInUse}
use Rattle.dg_promise.specs.Promises.{AreTold}
use Rattle.dg_uses.proofs.OneMark.{next_same}
use Rattle.dg_uses.proofs.OneStep.{AreOne, IsFit, stays_x, stays_y}
use Rattle.dg_uses.proofs.OneView.{both}
use Rattle.dg_uses.proofs.Seated.{IsSeated}
use Rattle.dg_uses.proofs.Seen.{Seen, good_fills, seen_of, state_of}

-- ---- members

is_out : (m : MemberState) → (m ≡ Out) ⊎ (m ≢ Out)
is_out Good = inr good_in
  where
    good_in : Good ≡ Out → ⊥
    good_in e = cc
is_out (Filling have) = inr filling_in
  where
    filling_in : Filling have ≡ Out → ⊥
    filling_in e = cc
is_out Out = inl refl

-- members stay where no count of faults rises of one that isn't out
pub stay_where : (before now : ℕ → ℕ) (old new : ℕ → MemberState) → ((q : ℕ) → old q ≢ Out → Rose (before q) (now q) → ⊥) → ArePaired old
    → MembersFall before now old new → (q : ℕ) → new q ≡ old q
stay_where before now old new none paired falls q = elim (is_out (old q)) [
  | inl out ↦ elim (falls q) [ inl same ↦ same | inr fell ↦ fell.out ∙ sym out ]
  | inr there ↦ elim (falls q) [
    | inl same ↦ same
    | inr fell ↦ elim fell.caused [
      | inl rose ↦ absurd (none q there rose)
      | inr left ↦ absurd (partner (falls (partner_of q)) (paired q left.0) left.1)
    ]
  ]
]
  where
    partner : (new (partner_of q) ≡ old (partner_of q)) ⊎ HasFallen before now old new (partner_of q) → is_good (old (partner_of q)) ≡ true → new (partner_of q) ≡ Out → ⊥
    partner (inl same) good out = false≢true (sym (ap is_good (sym same ∙ out)) ∙ good)
    partner (inr fell) good out = elim fell.caused [
      | inl rose ↦ none (partner_of q) (λ (e : old (partner_of q) ≡ Out). false≢true (sym (ap is_good e) ∙ good)) rose
      | inr left ↦ false≢true (sym (good_fills (old (partner_of q)) good) ∙ left.0)
    ]

out_of : (m p : MemberState) → is_good m ≡ false → (is_filling m ≡ true → is_good p ≡ true) → is_good p ≡ false → m ≡ Out
out_of Good p bad paired other = absurd (false≢true (sym bad))
out_of (Filling have) p bad paired other = absurd (false≢true (sym other ∙ paired refl))
out_of Out p bad paired other = refl

not_true : (b : Bool) → not b ≡ true → b ≡ false
not_true true e = absurd (false≢true e)
not_true false e = refl

-- the members of a lost boundary are out, where each that is refilled has a good partner
lost_out : (members : ℕ → MemberState) → ArePaired members → (q : ℕ) → is_lost members (q / 2) ≡ true → members q ≡ Out
lost_out members paired q lost = elim (cases_eq q (2 * (q / 2))) [
  | inl first ↦
      let other : partner_of q ≡ 2 * (q / 2) + 1 = omega (arith, first) in
      out_of (members q) (members (partner_of q)) (ap (λ (p : ℕ). is_good (members p)) first ∙ one) (paired q) (ap (λ (p : ℕ). is_good (members p)) other ∙ two)
  | inr apart ↦
      let second : q ≡ 2 * (q / 2) + 1 = omega (arith, apart) in
      let other : partner_of q ≡ 2 * (q / 2) = omega (arith, second) in
      out_of (members q) (members (partner_of q)) (ap (λ (p : ℕ). is_good (members p)) second ∙ two) (paired q) (ap (λ (p : ℕ). is_good (members p)) other ∙ one)
]
  where
    parts : (not (is_good (members (2 * (q / 2)))) ≡ true) × (not (is_good (members (2 * (q / 2) + 1))) ≡ true)
    parts = and_parts (not (is_good (members (2 * (q / 2))))) (not (is_good (members (2 * (q / 2) + 1)))) lost

    one : is_good (members (2 * (q / 2))) ≡ false
    one = not_true (is_good (members (2 * (q / 2)))) parts.0

    two : is_good (members (2 * (q / 2) + 1)) ≡ false
    two = not_true (is_good (members (2 * (q / 2) + 1))) parts.1

-- no member is refilled under new places
none_fills : (left : List ℕ) (members : ℕ → MemberState) (q : ℕ) → is_filling (members_left left members q) ≡ false
none_fills left members q = by (nat_lt (q / 2) (length left)) (members (member_before left q))
  where
    by : (b : Bool) (m : MemberState) → is_filling (if b then state_left left m else Out) ≡ false
    by true Good = refl
    by true (Filling have) = refl
    by true Out = refl
    by false m = refl

left_paired : (left : List ℕ) (members : ℕ → MemberState) → ArePaired (members_left left members)
left_paired left members q fills = absurd (false≢true (sym (none_fills left members q) ∙ fills))

-- a member that isn't out under new places is of one of them
in_left : (left : List ℕ) (members : ℕ → MemberState) (q : ℕ) → members_left left members q ≢ Out → q / 2 < length left
in_left left members q there = elim (cases_lt (q / 2) (length left)) [
  | inl low ↦ low
  | inr past ↦ absurd (there (cond-false (nat_lt (q / 2) (length left)) _ Out (le-ltb (q / 2) (length left) past)))
]

-- ---- places that are left

place_within : (xs : List ℕ) (s : ℕ) → Contains xs s → place_in xs s < length xs
place_within xs s (k, within, is) = elim (cases_lt (place_in xs s) (length xs)) [
  | inl below ↦ below
  | inr past ↦ absurd (false≢true (sym (fails_before_first (λ t. t == s) xs k s (omega (arith, within, past))) ∙ eq-eqb (get_or xs k s) s is))
]

range_has : (b s : ℕ) → s < b → Contains (range_with_len 0 b) s
range_has b s low =
    let at : get_or (range_with_len 0 b) s s ≡ s = omega (arith, get_or-range_with_len 0 b s s low) in
    (s, omega (arith, low, length-range_with_len 0 b), at)

live_left : (shape : Shape) (members : ℕ → MemberState) (s : ℕ) → s < shape.b → is_lost members s ≡ false → place_in (left_of shape members) s < length (left_of shape members)
live_left shape members s low live =
    place_within (left_of shape members) s (filter_in (λ x. not (is_lost members x)) (range_with_len 0 shape.b) s (range_has shape.b s low) (ap not live))

left_below : (shape : Shape) (members : ℕ → MemberState) (i : ℕ) → i < length (left_of shape members) → slice_index (left_of shape members) i < shape.b
left_below shape members i within = All-filter (λ x. not (is_lost members x)) (λ x. x < shape.b) (range_with_len 0 shape.b) all i 0 within
  where
    all : (k d : ℕ) → k < length (range_with_len 0 shape.b) → get_or (range_with_len 0 shape.b) k d < shape.b
    all k d h =
        let low : k < shape.b = omega (arith, h, length-range_with_len 0 shape.b) in
        let e = get_or-range_with_len 0 shape.b k d low in omega (arith, e, low)

-- where more boundaries are lost no more are left
fewer : (p q : ℕ → Bool) → ((x : ℕ) → p x ≡ true → q x ≡ true) → (xs : List ℕ) → length (filter p xs) ≤ length (filter q xs)
fewer p q more [] = omega arith
fewer p q more (x ∷ xs) = by (p x) (q x) (more x) (fewer p q more xs)
  where
    by : (a b : Bool) → (a ≡ true → b ≡ true) → length (filter p xs) ≤ length (filter q xs)
        → length (if a then x ∷ filter p xs else filter p xs) ≤ length (if b then x ∷ filter q xs else filter q xs)
    by true true h less = omega (arith, less)
    by true false h less = absurd (false≢true (h refl))
    by false true h less = omega (arith, less)
    by false false h less = less

fewer_left : (shape : Shape) (old new : ℕ → MemberState) → ((s : ℕ) → is_lost old s ≡ true → is_lost new s ≡ true) → length (left_of shape new) ≤ length (left_of shape old)
fewer_left shape old new lost = fewer (λ x. not (is_lost new x)) (λ x. not (is_lost old x)) by (range_with_len 0 shape.b)
  where
    by : (s : ℕ) → not (is_lost new s) ≡ true → not (is_lost old s) ≡ true
    by s h = elim (cases_Bool (is_lost old s)) [
      | inl gone ↦ absurd (false≢true (sym (not_true (is_lost new s) h) ∙ lost s gone))
      | inr here ↦ ap not here
    ]

-- ---- what is seen

-- how many boundaries are lost, and blocks gone with them
abbrev pub lost_of : Seen → ℕ
lost_of c = count_upto c.table.shape.b (is_lost c.members)

abbrev pub gone_of : Seen → ℕ
gone_of c = count_upto c.table.shape.n (is_gone c.table c.members)

abbrev pub left_seen : Seen → List ℕ
left_seen c = left_of c.table.shape c.members

abbrev blocks_left : Seen → List (List ℕ)
blocks_left c = map (λ b. if is_gone c.table c.members b then zeros c.table.shape.l else block_in c.blocks b) (range_with_len 0 (length c.blocks))

abbrev marks_left : Seen → List Bool
marks_left c = map (λ b. is_marked c.pending b && not (is_gone c.table c.members b)) (range_with_len 0 (length c.pending))

-- the state without its lost boundaries
abbrev without : Seen → List Bool → Phase → (ℕ → MemberState) → Seen
without c pending phase members = record c {
  live = map (λ x. slice_index c.live x) (left_seen c);
  table = table_left (left_seen c) c.table;
  blocks = blocks_left c;
  pending = pending;
  cut = map (λ b. is_marked c.cut b || is_gone c.table c.members b) (range_with_len 0 (length c.cut));
  homes = homes_left (left_seen c) c.copies c.homes;
  copies = [];
  phase = phase;
  members = members;
}

-- what a step leaves that takes the lost boundaries of a state out of use, so many of them, and cuts so many blocks
pub record IsLeft (c : Seen) (r d : ℕ) (new : State) : Type 0 where
  pub boundaries : r ≡ lost_of c
  pub blocks : d ≡ gone_of c
  pub seen : seen_of new ≡ without c new.pending (phase_after (is_broken new)) new.members
  pub members : new.members ≡ members_left (left_seen c) c.members
  pub table : new.table ≡ table_left (left_seen c) c.table
  pub marks : AreNext (is_broken new) AreTold c.table.shape.l c.table.shape.n (blocks_left c) (marks_left c) new.pending

abbrev pub too_small : Seen → Type 0
too_small c = (length (left_seen c) < c.table.shape.m) ⊎ (length (left_seen c) < 2) ⊎ (length (left_seen c) * c.table.shape.k < c.table.shape.n)

-- ---- one step

module _ (old : State) (r d : ℕ) (new : State) (h : Regroups AreTold old r d new) where
  lost_more : (s : ℕ) → is_lost old.members s ≡ true → is_lost h.mid.members s ≡ true
  lost_more s = lost_stays old.members h.mid.members s (λ q. good_was old.counts.faults h.mid.counts.faults old.members h.mid.members q h.opened.goes.members)

  same_table : h.mid.table ≡ old.table
  same_table = ap (λ (s : State). s.table) h.opened.rest

  -- an array that would be too small isn't regrouped
  pub was_enough : too_small (seen_of old) → ⊥
  was_enough small = h.enough (elim small [
    | inl few ↦ inl (omega (arith, few, fewer_here, ap (λ (t : Table). t.shape.m) same_table))
    | inr more ↦ elim more [
      | inl few ↦ inr (inl (omega (arith, few, fewer_here)))
      | inr few ↦
          inr (inr (omega (arith, few, mul-le-mul_right old.table.shape.k fewer_here, ap (λ (t : Table). length (left_in h.mid) * t.shape.k) same_table, ap (λ (t : Table). t.shape.n) same_table)))
    ]
  ])
    where
      fewer_here : length (left_in h.mid) ≤ length (left_seen (seen_of old))
      fewer_here =
          subst (λ (t : Table). length (left_of t.shape h.mid.members) ≤ length (left_of old.table.shape old.members)) (sym same_table)
          (fewer_left old.table.shape old.members h.mid.members lost_more)

  -- the boundaries in use ascend still
  pub left_ascends : IsSeated old → IsStrictlyIncreasing old.live → IsStrictlyIncreasing new.live
  left_ascends seat ascend k low =
      let left = left_in h.mid in
      let live : new.live ≡ map (λ p. slice_index old.live p) left =
      ap (λ (s : State). s.live) h.rest ∙ ap (λ (l : List ℕ). map (λ p. slice_index l p) left) (ap (λ (s : State). s.live) h.opened.rest) in
      let inside : k + 1 < length left = omega (arith, low, ap (λ (l : List ℕ). length l) live, length-map left (λ p. slice_index old.live p)) in
      let first = ap (λ (l : List ℕ). get_or l k 0) live ∙ get_or-map (λ p. slice_index old.live p) left k 0 0 (omega (arith, inside)) in
      let second = ap (λ (l : List ℕ). get_or l (k + 1) 0) live ∙ get_or-map (λ p. slice_index old.live p) left (k + 1) 0 0 inside in
      let below : slice_index left (k + 1) < old.table.shape.b =
      subst (λ (t : Table). slice_index left (k + 1) < t.shape.b) same_table (left_below h.mid.table.shape h.mid.members (k + 1) inside) in
      let up = rises old.live ascend (slice_index left k) (slice_index left (k + 1)) (left_ascend h.mid.table.shape h.mid.members k inside) (omega (arith, below, seat.size)) in
      omega (arith, first, second, up)

  module _ (before after : Counts) (seat : IsSeated old) (paired : ArePaired old.members) (begun : AreCountsOf old.live before old.counts)
      (tied : AreCountsOf new.live after new.counts) (none : NoneRose before.faults after.faults) (ascend : IsStrictlyIncreasing old.live)
      (took : (s : ℕ) → place_in old.live s < length old.live → (place_in new.live s < length new.live → ⊥) → is_lost old.members (place_in old.live s) ≡ true) where
    abbrev left : List ℕ
    left = left_in h.mid

    live_new : new.live ≡ map (λ p. slice_index h.mid.live p) left
    live_new = ap (λ (s : State). s.live) h.rest

    live_mid : h.mid.live ≡ old.live
    live_mid = ap (λ (s : State). s.live) h.opened.rest

    long : length new.live ≡ length left
    long = ap (λ (l : List ℕ). length l) live_new ∙ length-map left (λ p. slice_index h.mid.live p)

    low_left : (i : ℕ) → i < length left → slice_index left i < old.table.shape.b
    low_left i within = subst (λ (t : Table). slice_index left i < t.shape.b) same_table (left_below h.mid.table.shape h.mid.members i within)

    -- a member under its new place is the same one of the rack
    before_half : (q : ℕ) → member_before left q / 2 ≡ slice_index left (q / 2)
    before_half q = omega arith

    before_side : (q : ℕ) → member_before left q % 2 ≡ q % 2
    before_side q = omega arith

    rack_at : (q : ℕ) → q / 2 < length left → member_at new.live q ≡ member_at old.live (member_before left q)
    rack_at q low =
        let at : slice_index new.live (q / 2) ≡ slice_index old.live (slice_index left (q / 2)) =
        ap (λ (l : List ℕ). slice_index l (q / 2)) live_new ∙ get_or-map (λ p. slice_index h.mid.live p) left (q / 2) 0 0 low
        ∙ ap (λ (l : List ℕ). slice_index l (slice_index left (q / 2))) live_mid in
        let same : slice_index old.live (member_before left q / 2) ≡ slice_index old.live (slice_index left (q / 2)) = ap (λ (x : ℕ). slice_index old.live x) (before_half q) in
        omega (arith, at, same, before_side q)

    -- and its count didn't rise
    not_rose : (q : ℕ) → q / 2 < length left → Rose (old.counts.faults (member_before left q)) (new.counts.faults q) → ⊥
    not_rose q low rose =
        let inside : member_before left q / 2 < length old.live = omega (arith, before_half q, low_left (q / 2) low, seat.size) in
        let one : old.counts.faults (member_before left q) ≡ before.faults (member_at old.live (member_before left q)) = begun.faults (member_before left q) inside in
        let two : new.counts.faults q ≡ after.faults (member_at old.live (member_before left q)) =
        tied.faults q (omega (arith, low, long)) ∙ ap (λ (p : ℕ). after.faults p) (rack_at q low) in
        none (member_at old.live (member_before left q))
        (subst (λ (a : ℕ). Rose a (after.faults (member_at old.live (member_before left q)))) one (subst (λ (b : ℕ). Rose (old.counts.faults (member_before left q)) b) two rose))

    -- ---- while the seal is opened

    at_place : (q : ℕ) → q / 2 < old.table.shape.b → is_lost h.mid.members (q / 2) ≡ false → Rose (old.counts.faults q) (h.mid.counts.faults q) → ⊥
    at_place q low stands rose =
        let inside : q / 2 < h.mid.table.shape.b = subst (λ (t : Table). q / 2 < t.shape.b) (sym same_table) low in
        let place : place_in left (q / 2) < length left = live_left h.mid.table.shape h.mid.members (q / 2) inside stands in
        let at : slice_index left (place_in left (q / 2)) ≡ q / 2 = place_at left (q / 2) place in
        by (2 * place_in left (q / 2) + q % 2) (omega arith) (omega arith) place at rose
      where
        by : (p : ℕ) → p / 2 ≡ place_in left (q / 2) → p % 2 ≡ q % 2 → place_in left (q / 2) < length left → slice_index left (place_in left (q / 2)) ≡ q / 2
            → Rose (old.counts.faults q) (h.mid.counts.faults q) → ⊥
        by p half side place at rose =
            let there : p / 2 < length left = omega (arith, half, place) in
            let slot : slice_index left (p / 2) ≡ q / 2 = ap (λ (x : ℕ). slice_index left x) half ∙ at in
            let back : member_before left p ≡ q = omega (arith, slot, side) in
            let mid : h.counts.faults p ≡ h.mid.counts.faults q = h.same_rack.faults p there ∙ ap (λ (x : ℕ). h.mid.counts.faults x) back in
            let first : old.counts.faults (member_before left p) ≡ old.counts.faults q = ap (λ (x : ℕ). old.counts.faults x) back in
            let rises : h.counts.faults p ≤ new.counts.faults p = h.goes.passes.counts.faults p in
            not_rose p there (omega (arith, rose, mid, first, rises))

    -- the boundary at a place that is left has no other place
    left_at : (p i : ℕ) → p < old.table.shape.b → i < length left → get_or new.live i 0 ≡ slice_index old.live p → is_lost h.mid.members p ≡ false
    left_at p i low within is =
        let x : ℕ = slice_index left i in
        let at : get_or new.live i 0 ≡ slice_index old.live x =
        ap (λ (l : List ℕ). get_or l i 0) live_new ∙ get_or-map (λ y. slice_index h.mid.live y) left i 0 0 within ∙ ap (λ (l : List ℕ). slice_index l x) live_mid in
        let inside : x < length old.live = omega (arith, low_left i within, seat.size) in
        let same : x ≡ p =
        sym (place_of_at old.live ascend x inside) ∙ ap (λ (s : ℕ). place_in old.live s) (sym at ∙ is) ∙ place_of_at old.live ascend p (omega (arith, low, seat.size)) in
        ap (λ (y : ℕ). is_lost h.mid.members y) (sym same) ∙ not_true (is_lost h.mid.members x) (filter_passes (λ y. not (is_lost h.mid.members y)) (range_with_len 0 h.mid.table.shape.b) i 0 within)

    -- a boundary that wasn't lost before isn't lost then
    stands_mid : (p : ℕ) → p < old.table.shape.b → is_lost old.members p ≡ false → is_lost h.mid.members p ≡ false
    stands_mid p low stood = elim (cases_Bool (is_lost h.mid.members p)) [
      | inr stands ↦ stands
      | inl lost ↦
          let s : ℕ = slice_index old.live p in
          let at : place_in old.live s ≡ p = place_of_at old.live ascend p (omega (arith, low, seat.size)) in
          let gone : place_in new.live s < length new.live → ⊥ =
          λ there. false≢true (sym (left_at p (place_in new.live s) low (omega (arith, there, long)) (place_at new.live s there)) ∙ lost) in
          absurd (false≢true (sym stood ∙ ap (λ (y : ℕ). is_lost old.members y) (sym at) ∙ took s (omega (arith, at, low, seat.size)) gone))
    ]

    mid_none : (q : ℕ) → old.members q ≢ Out → Rose (old.counts.faults q) (h.mid.counts.faults q) → ⊥
    mid_none q there rose = elim (cases_lt (q / 2) old.table.shape.b) [
      | inr past ↦ there (seat.out q past)
      | inl low ↦ elim (cases_Bool (is_lost old.members (q / 2))) [
        | inl lost ↦ there (lost_out old.members paired q lost)
        | inr stands ↦ at_place q low (stands_mid (q / 2) low stands) rose
      ]
    ]

    members_mid : h.mid.members ≡ old.members
    members_mid = λ i q. stay_where old.counts.faults h.mid.counts.faults old.members h.mid.members mid_none paired h.opened.goes.members q i

    seen_mid : seen_of h.mid ≡ seen_of old
    seen_mid = ap seen_of h.opened.rest ∙ ap (λ (m : ℕ → MemberState). record (seen_of old) { members = m }) members_mid

    -- ---- under new places

    new_none : (q : ℕ) → members_left left h.mid.members q ≢ Out → Rose (h.counts.faults q) (new.counts.faults q) → ⊥
    new_none q there rose =
        let low = in_left left h.mid.members q there in
        let rises : old.counts.faults (member_before left q) ≤ h.mid.counts.faults (member_before left q) = h.opened.goes.passes.counts.faults (member_before left q) in
        let same : h.counts.faults q ≡ h.mid.counts.faults (member_before left q) = h.same_rack.faults q low in
        not_rose q low (omega (arith, rose, rises, same))

    members_new : new.members ≡ members_left left h.mid.members
    members_new =
        λ i q. stay_where h.counts.faults new.counts.faults (members_left left h.mid.members) new.members new_none (left_paired left h.mid.members) h.goes.members q i

    new_marks : AreNext (is_broken new) AreTold h.mid.table.shape.l h.mid.table.shape.n (blocks_left (seen_of h.mid)) (marks_left (seen_of h.mid)) new.pending
    new_marks =
        subst (λ (v : Volume). AreNext (is_broken new) AreTold h.mid.table.shape.l h.mid.table.shape.n v (marks_left (seen_of h.mid)) new.pending) (ap (λ (s : State). s.blocks) h.rest)
        (subst (λ (t : Table). AreNext (is_broken new) AreTold t.shape.l t.shape.n new.blocks (marks_left (seen_of h.mid)) new.pending) (ap (λ (s : State). s.table) h.rest) h.marks)

    pub is_left : IsLeft (seen_of old) r d new
    is_left = record {
      boundaries = h.boundaries ∙ ap lost_of seen_mid;
      blocks = h.blocks ∙ ap gone_of seen_mid;
      seen = ap seen_of h.rest ∙ ap (λ (c : Seen). without c new.pending (phase_after (is_broken new)) new.members) seen_mid;
      members = members_new ∙ ap (λ (c : Seen). members_left (left_seen c) c.members) seen_mid;
      table = ap (λ (s : State). s.table) h.rest ∙ ap (λ (c : Seen). table_left (left_seen c) c.table) seen_mid;
      marks = subst (λ (c : Seen). AreNext (is_broken new) AreTold c.table.shape.l c.table.shape.n (blocks_left c) (marks_left c) new.pending) seen_mid new_marks;
    }

-- ---- where all boundaries stay in use

module _ (c : Seen) (ok : IsFit c) (l k : Option LastLabel) (n m : Counts) (x y : State) (none : NoneRose n.faults x.counts.faults) (never : NoneRose m.faults y.counts.faults) where
  pub kept_one : (r q : Reply) → StaysInUse Regroup r → StaysInUse Regroup q → Step AreTold (state_of c l n) Regroup r x → Step AreTold (state_of c k m) Regroup q y → AreOne r q x y
  kept_one Whole Whole u v h g = (refl, ap seen_of h.1 ∙ sym (ap seen_of g.1))
  kept_one Whole TooFew u v h g = absurd (both (has_lost c.table.shape c.members) g.0 h.0)
  kept_one Whole (Regrouped s e) u v h g = absurd v
  kept_one Whole q u v h g = absurd g
  kept_one TooFew Whole u v h g = absurd (both (has_lost c.table.shape c.members) h.0 g.0)
  kept_one TooFew TooFew u v h g = (refl, stays_x c ok l k n m x y none never h.3 ∙ sym (stays_y c ok l k n m x y none never g.3))
  kept_one TooFew (Regrouped s e) u v h g = absurd v
  kept_one TooFew q u v h g = absurd g
  kept_one (Regrouped r d) q u v h g = absurd u
  kept_one r q u v h g = absurd h

-- ---- two steps

pub one_left : (c : Seen) (r d s e : ℕ) (x y : State) → IsLeft c r d x → IsLeft c s e y → AreOne (Regrouped r d) (Regrouped s e) x y
one_left c r d s e x y h g =
    let members : x.members ≡ y.members = h.members ∙ sym g.members in
    let broken : is_broken x ≡ is_broken y = ap (λ (t : Table). has_lost t.shape x.members) (h.table ∙ sym g.table) ∙ ap (has_lost y.table.shape) members in
    let marks : x.pending ≡ y.pending = next_same (is_broken x) (is_broken y) c.table.shape.l c.table.shape.n (blocks_left c) (blocks_left c) (marks_left c) x.pending y.pending broken refl h.marks g.marks in (
      ap (λ (n : ℕ). Regrouped n d) (h.boundaries ∙ sym g.boundaries) ∙ ap (λ (n : ℕ). Regrouped s n) (h.blocks ∙ sym g.blocks),
      h.seen ∙ ap (λ (p : List Bool). without c p (phase_after (is_broken x)) x.members) marks
          ∙ ap (λ (b : Bool). without c y.pending (phase_after b) x.members) broken
          ∙ ap (λ (m : ℕ → MemberState). without c y.pending (phase_after (is_broken y)) m) members
          ∙ sym g.seen,
    )
