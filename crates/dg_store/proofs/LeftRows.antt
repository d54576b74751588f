-- A row of boundaries without those that are lost.
use Rattle.std.proofs.Common.{◌≡◌, inl, inr, ℕ, zero, suc, ◌+◌, ◌*◌, ◌/◌, ◌%◌, ◌&&◌, ◌≤◌, ◌<◌, ◌++◌, ◌∷◌, Bool, true, false, cond, List, [], length, length-append, get_or, take, refl, sym, ◌∙◌, ap, subst, arith}
use Rattle.std.specs.Prelude.{Option, Some, None, not, nat_lt, slice_get, slice_set, if◌then◌else◌}
use Rattle.std.proofs.Math.Seq.{get_or-append_seam}
use Rattle.std.proofs.lemmas.Bool.{cases_eq, cases_lt, le-ltb, lt-ltb}
use Rattle.std.proofs.lemmas.List.{append-nil, get_or_append_left, length-set, length-take}
use Rattle.dg_model.specs.Members.{is_good, is_lost}
use Rattle.dg_model.specs.Regroups.{member_before, members_left, state_left}
use Rattle.dg_model.specs.declared.members.MemberState.{MemberState}
use Rattle.dg_model.specs.declared.members.MemberState.TheVariants.{Good, Filling, Out}
use Rattle.dg_pair.specs.declared.boundaries.Boundary.{Boundary}
use Rattle.dg_pair.specs.Boundaries.{members_of, number_of, unfilled}
use Rattle.dg_pair.specs.Calls.{IsPair}
use Rattle.dg_store.specs.Reduced.{IsGoodOf, IsKept, IsMoved, live_upto}
use Rattle.dg_store.specs.Rows.{RowStands, member_at, members_in}
use Rattle.dg_store.proofs.LeftPlaces.{left_more}
use Rattle.dg_store.proofs.Rows.{get_set_other, get_set_same, some_same}

get_take_below : {X : Type 0} (xs : List X) (k i : ℕ) → i < k → slice_get (take k xs) i ≡ slice_get xs i
get_take_below [] zero i low = refl
get_take_below [] (suc k) i low = refl
get_take_below (x ∷ xs) zero i low = absurd (omega (arith, low))
get_take_below (x ∷ xs) (suc k) zero low = refl
get_take_below (x ∷ xs) (suc k) (suc i) low = get_take_below xs k i (omega (arith, low))

get_take_past : {X : Type 0} (xs : List X) (k i : ℕ) → k ≤ i → slice_get (take k xs) i ≡ None
get_take_past [] zero i past = refl
get_take_past [] (suc k) i past = refl
get_take_past (x ∷ xs) zero i past = refl
get_take_past (x ∷ xs) (suc k) zero past = absurd (omega (arith, past))
get_take_past (x ∷ xs) (suc k) (suc i) past = get_take_past xs k i (omega (arith, past))

some_at : {X : Type 0} (xs : List X) (i : ℕ) → i < length xs → (x : X) × (slice_get xs i ≡ Some x)
some_at [] i low = absurd (omega (arith, low))
some_at (x ∷ xs) zero low = (x, refl)
some_at (x ∷ xs) (suc i) low = some_at xs i (omega (arith, low))

-- a member of the same boundary of two rows
same_at : (was now : List Boundary) (s q : ℕ) → slice_get now s ≡ slice_get was s → q / 2 ≡ s → members_in now q ≡ members_in was q
same_at was now s q same at =
    ap (λ (o : Option Boundary). member_at o q) (ap (λ (t : ℕ). slice_get now t) at ∙ same ∙ sym (ap (λ (t : ℕ). slice_get was t) at))

left_unfilled : (left : List ℕ) (m : MemberState) → unfilled m ≡ state_left left m
left_unfilled left Good = refl
left_unfilled left (Filling have) = refl
left_unfilled left Out = refl

-- a member of boundary n of a row, by the boundary's own number
pub before_is : (was : List Boundary) (n : ℕ) (x : Boundary) (q : ℕ) → number_of x ≡ n → slice_get was n ≡ Some x → members_of x (2 * number_of x + q % 2) ≡ members_in was (2 * n + q % 2)
before_is was n x q number stood =
    let at : (2 * n + q % 2) / 2 ≡ n = omega arith in
    ap (λ (s : ℕ). members_of x (2 * s + q % 2)) number ∙ sym (ap (λ (o : Option Boundary). member_at o (2 * n + q % 2)) (ap (λ (t : ℕ). slice_get was t) at ∙ stood))

module _ (l slots : ℕ) (was : List Boundary) (stands : RowStands l slots was) where
  pub kept_none : IsKept l slots was was 0 0
  kept_none = record {
    left = refl;
    behind = omega arith;
    count = refl;
    done = λ i x low is. absurd (omega (arith, low));
    rest = λ i past. refl;
  }

  -- the row stands at each turn, and the next boundary is as it was
  pub kept_stands : (now : List Boundary) (n kept : ℕ) → IsKept l slots was now n kept → RowStands l slots now
  kept_stands now n kept k i x is = elim (cases_lt i kept) [
    | inl below ↦ (k.done i x below is).pair
    | inr past ↦ stands i x (sym (k.rest i past) ∙ is)
  ]

  pub kept_lost : (now : List Boundary) (n kept : ℕ) → IsKept l slots was now n kept → is_lost (members_in now) n ≡ is_lost (members_in was) n
  kept_lost now n kept k =
      let low : (2 * n) / 2 ≡ n = omega arith in
      let high : (2 * n + 1) / 2 ≡ n = omega arith in
      let a = same_at was now n (2 * n) (k.rest n k.behind) low in
      let b = same_at was now n (2 * n + 1) (k.rest n k.behind) high in
      ap (λ (m : MemberState). not (is_good m) && not (is_good (members_in now (2 * n + 1)))) a
      ∙ ap (λ (m : MemberState). not (is_good (members_in was (2 * n))) && not (is_good m)) b

  -- one that is lost is passed
  pub kept_skip : (now : List Boundary) (n kept : ℕ) → is_lost (members_in was) n ≡ true → IsKept l slots was now n kept → IsKept l slots was now (n + 1) kept
  kept_skip now n kept lost k =
      let same : live_upto was (n + 1) ≡ live_upto was n =
      left_more (λ x. not (is_lost (members_in was) x)) n ∙ ap (λ (b : Bool). live_upto was n ++ cond (not b) (n ∷ []) []) lost ∙ append-nil (live_upto was n) in
      record {
        left = k.left ∙ ap length (sym same);
        behind = omega (arith, k.behind);
        count = k.count;
        done = λ i x below is. subst (λ (left : List ℕ). IsGoodOf l slots was (get_or left i 0) i x) (sym same) (k.done i x below is);
        rest = k.rest;
      }

  -- one that isn't takes the next place
  pub kept_take : (now : List Boundary) (n kept : ℕ) (x y : Boundary) → is_lost (members_in was) n ≡ false → n < length was → slice_get now n ≡ Some x → IsMoved x kept l slots y
      → IsKept l slots was now n kept → IsKept l slots was (slice_set now kept y) (n + 1) (kept + 1)
  kept_take now n kept x y live within is moved k =
      let more : live_upto was (n + 1) ≡ live_upto was n ++ n ∷ [] =
      left_more (λ z. not (is_lost (members_in was) z)) n ∙ ap (λ (b : Bool). live_upto was n ++ cond (not b) (n ∷ []) []) live in
      let long : length (live_upto was (n + 1)) ≡ length (live_upto was n ++ n ∷ []) = ap length more in
      let room : kept < length now = omega (arith, k.count, k.behind, within) in
      let stood : slice_get was n ≡ Some x = sym (k.rest n k.behind) ∙ is in
      let number : number_of x ≡ n = (stands n x stood).number_is in
      let good : IsGoodOf l slots was n kept y = record { pair = moved.pair; members = λ q at. moved.members q at ∙ ap unfilled (before_is was n x q number stood) } in
      record {
        left = omega (arith, long, length-append (live_upto was n) (n ∷ []), k.left);
        behind = omega (arith, k.behind);
        count = length-set now kept y ∙ k.count;
        done = λ i z below at. elim (cases_eq i kept) [
          | inl here ↦
              let same : y ≡ z = some_same y z (sym (ap (λ (j : ℕ). slice_get (slice_set now kept y) j) here ∙ get_set_same now kept y room) ∙ at) in
              let place : n ≡ get_or (live_upto was (n + 1)) i 0 =
              sym (ap (λ (left : List ℕ). get_or left i 0) more ∙ ap (λ (j : ℕ). get_or (live_upto was n ++ n ∷ []) j 0) (here ∙ k.left)
              ∙ get_or-append_seam (live_upto was n) n [] 0) in
              subst (λ (w : Boundary). IsGoodOf l slots was (get_or (live_upto was (n + 1)) i 0) i w) same
              (subst (λ (p : ℕ). IsGoodOf l slots was p i y) place
              (subst (λ (j : ℕ). IsGoodOf l slots was n j y) (sym here) good))
          | inr other ↦
              let early : i < kept = omega (arith, below, other) in
              let place : get_or (live_upto was n) i 0 ≡ get_or (live_upto was (n + 1)) i 0 =
              sym (ap (λ (left : List ℕ). get_or left i 0) more ∙ get_or_append_left (live_upto was n) (n ∷ []) 0 i (omega (arith, early, k.left))) in
              subst (λ (p : ℕ). IsGoodOf l slots was p i z) place (k.done i z early (sym (get_set_other now kept i y other) ∙ at))
        ];
        rest = λ i past. get_set_other now kept i y (λ e. omega (arith, e, past)) ∙ k.rest i (omega (arith, past));
      }

  -- at the end they are the boundaries that are left
  module _ (now : List Boundary) (b kept : ℕ) (total : length was ≡ b) (k : IsKept l slots was now b kept) where
    pub row_count : length (take kept now) ≡ length (live_upto was b)
    row_count = omega (arith, length-take kept now, k.count, total, k.behind, k.left)

    pub row_stands : RowStands l slots (take kept now)
    row_stands i x is = elim (cases_lt i kept) [
      | inl below ↦ (k.done i x below (sym (get_take_below now kept i below) ∙ is)).pair
      | inr past ↦ absurd (cc (get_take_past now kept i past, is))
    ]

    pub row_members : (q : ℕ) → members_in (take kept now) q ≡ members_left (live_upto was b) (members_in was) q
    row_members q = elim (cases_lt (q / 2) kept) [
      | inl below ↦
          let low : q / 2 < length now = omega (arith, below, k.count, total, k.behind) in
          let x = some_at now (q / 2) low in
          let left : nat_lt (q / 2) (length (live_upto was b)) ≡ true = lt-ltb (q / 2) (length (live_upto was b)) (omega (arith, below, k.left)) in
          ap (λ (o : Option Boundary). member_at o q) (get_take_below now kept (q / 2) below ∙ x.1)
          ∙ (k.done (q / 2) x.0 below x.1).members q refl
          ∙ left_unfilled (live_upto was b) (members_in was (member_before (live_upto was b) q))
          ∙ sym (ap (λ (t : Bool). if t then state_left (live_upto was b) (members_in was (member_before (live_upto was b) q)) else Out) left)
      | inr past ↦
          let none : nat_lt (q / 2) (length (live_upto was b)) ≡ false = le-ltb (q / 2) (length (live_upto was b)) (omega (arith, past, k.left)) in
          ap (λ (o : Option Boundary). member_at o q) (get_take_past now kept (q / 2) past)
          ∙ sym (ap (λ (t : Bool). if t then state_left (live_upto was b) (members_in was (member_before (live_upto was b) q)) else Out) none)
    ]

-- ---- one boundary

good_only : (m : MemberState) → (if is_good m then Good else Out) ≡ unfilled m
good_only Good = refl
good_only (Filling have) = refl
good_only Out = refl

-- the members that were opened as good are those that were good
pub moved_is : (from to : Boundary) (number l slots : ℕ) (a b : Bool) → IsPair number l slots to
    → a ≡ is_good (members_of from (2 * number_of from + 0)) → b ≡ is_good (members_of from (2 * number_of from + 1))
    → members_of to (2 * number) ≡ (if a then Good else Out) → members_of to (2 * number + 1) ≡ (if b then Good else Out) → IsMoved from number l slots to
moved_is from to number l slots a b pair a_is b_is first second = record {
  pair = pair;
  members = λ q at. elim (cases_eq (q % 2) 0) [
    | inl even ↦
        let q_is : q ≡ 2 * number = omega (arith, at, even) in
        ap (members_of to) q_is ∙ first ∙ ap (λ (t : Bool). if t then Good else Out) a_is ∙ good_only (members_of from (2 * number_of from + 0))
        ∙ ap (λ (x : ℕ). unfilled (members_of from (2 * number_of from + x))) (sym even)
    | inr uneven ↦
        let odd : q % 2 ≡ 1 = omega (arith, uneven) in
        let q_is : q ≡ 2 * number + 1 = omega (arith, at, odd) in
        ap (members_of to) q_is ∙ second ∙ ap (λ (t : Bool). if t then Good else Out) b_is ∙ good_only (members_of from (2 * number_of from + 1))
        ∙ ap (λ (x : ℕ). unfilled (members_of from (2 * number_of from + x))) (sym odd)
  ];
}
