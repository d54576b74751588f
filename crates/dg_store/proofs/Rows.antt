-- Rows of boundaries: one is replaced, or one is added.
use Rattle.std.proofs.Common.{◌≡◌, ◌≢◌, ◌⊎◌, inl, inr, ℕ, zero, suc, ◌+◌, ◌*◌, ◌/◌, ◌≤◌, ◌<◌, List, [], ◌∷◌, ◌++◌, length, refl, sym, ◌∙◌, ap, subst, arith, eq-eqb, get_or}
use Rattle.std.specs.Prelude.{Option, Some, None, slice_get, slice_set}
use Rattle.std.proofs.lemmas.Bool.{cases_eq, false≢true}
use Rattle.std.proofs.lemmas.Option.{slice_get-get_or}
use Rattle.dg_model.specs.Causes.{Rose}
use Rattle.dg_model.specs.Members.{MembersFall, is_filling, is_lost}
use Rattle.dg_model.specs.declared.members.MemberState.{MemberState}
use Rattle.dg_model.specs.declared.members.MemberState.TheVariants.{Good, Out}
use Rattle.dg_pair.specs.declared.boundaries.Boundary.{Boundary}
use Rattle.dg_pair.specs.Boundaries.{members_of}
use Rattle.dg_pair.specs.Calls.{IsPair, begun}
use Rattle.dg_store.specs.Answers.{AreBlank}
use Rattle.dg_store.specs.Rows.{member_at, members_in, RowStands}
use Rattle.dg_store.proofs.Changed.{IsChanged}

pub get_set_same : {X : Type 0} (xs : List X) (i : ℕ) (y : X) → i < length xs → slice_get (slice_set xs i y) i ≡ Some y
get_set_same [] i y h = absurd (omega arith)
get_set_same (x ∷ xs) zero y h = refl
get_set_same (x ∷ xs) (suc i) y h = get_set_same xs i y (omega arith)

pub get_set_other : {X : Type 0} (xs : List X) (i j : ℕ) (y : X) → j ≢ i → slice_get (slice_set xs i y) j ≡ slice_get xs j
get_set_other [] i j y h = refl
get_set_other (x ∷ xs) zero zero y h = absurd (h refl)
get_set_other (x ∷ xs) zero (suc j) y h = refl
get_set_other (x ∷ xs) (suc i) zero y h = refl
get_set_other (x ∷ xs) (suc i) (suc j) y h = get_set_other xs i j y (λ e. h (ap suc e))

get_push_new : {X : Type 0} (xs : List X) (y : X) → slice_get (xs ++ y ∷ []) (length xs) ≡ Some y
get_push_new [] y = refl
get_push_new (z ∷ xs) y = get_push_new xs y

get_push_other : {X : Type 0} (xs : List X) (j : ℕ) (y : X) → j ≢ length xs → slice_get (xs ++ y ∷ []) j ≡ slice_get xs j
get_push_other [] zero y h = absurd (h refl)
get_push_other [] (suc j) y h = refl
get_push_other (z ∷ xs) zero y h = refl
get_push_other (z ∷ xs) (suc j) y h = get_push_other xs j y (λ e. h (ap suc e))

pub some_same : {X : Type 0} (a b : X) → Some a ≡ Some b → a ≡ b
some_same a b e = cc

-- what a read of the row gives
pub there : {X : Type 0} (row : List X) (s : ℕ) (x : X) → s < length row → x ≡ get_or row s x → slice_get row s ≡ Some x
there row s x within value = slice_get-get_or row s x within ∙ ap Some (sym value)

-- boundary s was replaced
pub set_changed : (row : List Boundary) (s : ℕ) (x y : Boundary) → s < length row → slice_get row s ≡ Some x → IsChanged s (members_of x) (members_of y) (members_in row) (members_in (slice_set row s y))
set_changed row s x y within was = record {
  was = λ q at. ap (λ (o : Option Boundary). member_at o q) (ap (λ (t : ℕ). slice_get row t) at ∙ was);
  here = λ q at. ap (λ (o : Option Boundary). member_at o q) (ap (λ (t : ℕ). slice_get (slice_set row s y) t) at ∙ get_set_same row s y within);
  other = λ q off. ap (λ (o : Option Boundary). member_at o q) (get_set_other row s (q / 2) y off);
}

pub set_stands : (l slots s : ℕ) (row : List Boundary) (y : Boundary) → s < length row → RowStands l slots row → IsPair s l slots y → RowStands l slots (slice_set row s y)
set_stands l slots s row y within stands done t z is = elim (cases_eq t s) [
  | inl here ↦
      let same : y ≡ z = some_same y z (sym (ap (λ (j : ℕ). slice_get (slice_set row s y) j) here ∙ get_set_same row s y within) ∙ is) in
      subst (λ (w : Boundary). IsPair t l slots w) same (subst (λ (j : ℕ). IsPair j l slots y) (sym here) done)
  | inr other ↦ stands t z (sym (get_set_other row s t y other) ∙ is)
]

past : {X : Type 0} (xs : List X) (j : ℕ) → length xs ≤ j → slice_get xs j ≡ None
past [] j h = refl
past (x ∷ xs) zero h = absurd (omega arith)
past (x ∷ xs) (suc j) h = past xs j (omega arith)

-- a boundary was added, whose members are y's
pub push_changed : (row : List Boundary) (s : ℕ) (y : Boundary) → length row ≡ s → IsChanged s (λ q. Out) (members_of y) (members_in row) (members_in (row ++ y ∷ []))
push_changed row s y count = record {
  was = λ q at. ap (λ (o : Option Boundary). member_at o q) (past row (q / 2) (omega arith));
  here = λ q at. ap (λ (o : Option Boundary). member_at o q) (ap (λ (t : ℕ). slice_get (row ++ y ∷ []) t) (at ∙ sym count) ∙ get_push_new row y);
  other = λ q off. ap (λ (o : Option Boundary). member_at o q) (get_push_other row (q / 2) y (λ e. off (e ∙ count)));
}

pub push_stands : (l slots s : ℕ) (row : List Boundary) (y : Boundary) → length row ≡ s → RowStands l slots row → IsPair s l slots y → RowStands l slots (row ++ y ∷ [])
push_stands l slots s row y count stands done t z is = elim (cases_eq t s) [
  | inl here ↦
      let same : y ≡ z = some_same y z (sym (ap (λ (j : ℕ). slice_get (row ++ y ∷ []) j) (here ∙ sym count) ∙ get_push_new row y) ∙ is) in
      subst (λ (w : Boundary). IsPair t l slots w) same (subst (λ (j : ℕ). IsPair j l slots y) (sym here) done)
  | inr other ↦ stands t z (sym (get_push_other row t y (λ e. other (e ∙ count))) ∙ is)
]

begun_at : (number q : ℕ) → q / 2 ≡ number → begun number q ≡ Good
begun_at number q at = rw (eq-eqb (q / 2) number at) refl

-- a member that was blanked is good, or its count of faults rose
pub begun_is : (number : ℕ) (f g : ℕ → ℕ) (members : ℕ → MemberState) → MembersFall f g (begun number) members
    → (q : ℕ) → q / 2 ≡ number → (members q ≡ Good) ⊎ ((members q ≡ Out) × Rose (f q) (g q))
begun_is number f g members falls q at =
    let good = begun_at number q at in
    elim (falls q) [
      | inl same ↦ inl (same ∙ good)
      | inr fell ↦ elim fell.caused [
        | inl rose ↦ inr (fell.out, rose)
        | inr partner ↦ absurd (false≢true (sym (ap is_filling good) ∙ partner.0))
      ]
    ]

-- each boundary up to number s has begun
pub push_begins : (s : ℕ) (x y old new : ℕ → MemberState) (f g h : ℕ → ℕ) → IsChanged s x y old new → AreBlank s f g old
    → ((q : ℕ) → q / 2 ≡ s → (y q ≡ Good) ⊎ ((y q ≡ Out) × Rose (g q) (h q)))
    → ((q : ℕ) → f q ≤ g q) → ((q : ℕ) → g q ≤ h q) → AreBlank (s + 1) f h new
push_begins s x y old new f g h changed began begins before after = record {
  others = λ q past. changed.other q (omega arith) ∙ began.others q (omega arith);
  begins = λ q below. elim (cases_eq (q / 2) s) [
    | inl at ↦ elim (begins q at) [
      | inl good ↦ inl (changed.here q at ∙ good)
      | inr failed ↦ inr (changed.here q at ∙ failed.0, let rose = failed.1 in let early = before q in omega arith)
    ]
    | inr off ↦ elim (began.begins q (omega arith)) [
      | inl good ↦ inl (changed.other q off ∙ good)
      | inr failed ↦ inr (changed.other q off ∙ failed.0, let rose = failed.1 in let late = after q in omega arith)
    ]
  ];
}

-- boundary s of a row is lost by its own members
pub lost_at : (row : List Boundary) (s : ℕ) (x : Boundary) → slice_get row s ≡ Some x → is_lost (members_in row) s ≡ is_lost (members_of x) s
lost_at row s x is =
    let low : (2 * s) / 2 ≡ s = omega arith in
    let high : (2 * s + 1) / 2 ≡ s = omega arith in
    let a : members_in row (2 * s) ≡ members_of x (2 * s) = ap (λ (o : Option Boundary). member_at o (2 * s)) (ap (λ (t : ℕ). slice_get row t) low ∙ is) in
    let b : members_in row (2 * s + 1) ≡ members_of x (2 * s + 1) = ap (λ (o : Option Boundary). member_at o (2 * s + 1)) (ap (λ (t : ℕ). slice_get row t) high ∙ is) in
    cc

-- there is no member past the row
pub beyond : (row : List Boundary) (q : ℕ) → length row ≤ q / 2 → members_in row q ≡ Out
beyond row q h = ap (λ (o : Option Boundary). member_at o q) (past row (q / 2) h)
