-- Lists of homes: a new one among them.
use Rattle.std.proofs.Common.{◌≡◌, ◌≢◌, ◌<◌, ◌≤◌, ◌+◌, ◌++◌, ℕ, zero, suc, Bool, true, false, List, [], ◌∷◌, length, get_or, take, drop, inl, inr, refl, sym, ◌∙◌, ap, subst, arith}
use Rattle.std.specs.Prelude.{Some, None, if◌then◌else◌, map, nat_lt, slice_index}
use Rattle.std.proofs.lemmas.Bool.{cases_eq, cases_lt}
use Rattle.std.proofs.lemmas.Bool.Decides.{nat_tests}
use Rattle.dg_model.specs.Homes.{Ascend, home_of, with_home}
use Rattle.dg_model.specs.declared.homes.Home.{Home}
use Rattle.dg_model.proofs.SiteLists.{apart_test, same_test}

-- ---- one home

at_head : (home : Home) (homes : List Home) (i : ℕ) → home.inode ≡ i → home_of (home ∷ homes) i ≡ Some home.boundary
at_head home homes i same = ap (λ (t : Bool). if t then Some home.boundary else home_of homes i) (same_test home.inode i same)

past_head : (home : Home) (homes : List Home) (i : ℕ) → home.inode ≢ i → home_of (home ∷ homes) i ≡ home_of homes i
past_head home homes i other = ap (λ (t : Bool). if t then Some home.boundary else home_of homes i) (apart_test home.inode i other)

before_head : (home first : Home) (homes : List Home) → home.inode < first.inode → with_home home (first ∷ homes) ≡ home ∷ first ∷ homes
before_head home first homes low =
    let e : nat_lt home.inode first.inode ≡ true = grind (arith, nat_tests) in
    ap (λ (t : Bool). if t then home ∷ first ∷ homes else first ∷ with_home home homes) e

after_head : (home first : Home) (homes : List Home) → first.inode ≤ home.inode → with_home home (first ∷ homes) ≡ first ∷ with_home home homes
after_head home first homes high =
    let e : nat_lt home.inode first.inode ≡ false = grind (arith, nat_tests) in
    ap (λ (t : Bool). if t then home ∷ first ∷ homes else first ∷ with_home home homes) e

-- ---- a new home among others

some_not : (t : ℕ) → Some t ≡ None → ⊥
some_not t e = cc e

pub home_new : (home : Home) (homes : List Home) → home_of homes home.inode ≡ None → home_of (with_home home homes) home.inode ≡ Some home.boundary
home_new home [] none = at_head home [] home.inode refl
home_new home (first ∷ homes) none = elim (cases_lt home.inode first.inode) [
  | inl low ↦ ap (λ (xs : List Home). home_of xs home.inode) (before_head home first homes low) ∙ at_head home (first ∷ homes) home.inode refl
  | inr high ↦ elim (cases_eq first.inode home.inode) [
    | inl same ↦ absurd (some_not first.boundary (sym (at_head first homes home.inode same) ∙ none))
    | inr other ↦
        ap (λ (xs : List Home). home_of xs home.inode) (after_head home first homes high)
        ∙ past_head first (with_home home homes) home.inode other
        ∙ home_new home homes (sym (past_head first homes home.inode other) ∙ none)
  ]
]

pub home_others : (home : Home) (homes : List Home) (i : ℕ) → home.inode ≢ i → home_of (with_home home homes) i ≡ home_of homes i
home_others home [] i other = past_head home [] i other
home_others home (first ∷ homes) i other = elim (cases_lt home.inode first.inode) [
  | inl low ↦ ap (λ (xs : List Home). home_of xs i) (before_head home first homes low) ∙ past_head home (first ∷ homes) i other
  | inr high ↦ ap (λ (xs : List Home). home_of xs i) (after_head home first homes high) ∙ (elim (cases_eq first.inode i) [
    | inl same ↦ at_head first (with_home home homes) i same ∙ sym (at_head first homes i same)
    | inr apart ↦ past_head first (with_home home homes) i apart ∙ home_others home homes i other ∙ sym (past_head first homes i apart)
  ])
]

pub length_home : (home : Home) (homes : List Home) → length (with_home home homes) ≡ length homes + 1
length_home home [] = refl
length_home home (first ∷ homes) = elim (cases_lt home.inode first.inode) [
  | inl low ↦ let e = ap (λ (xs : List Home). length xs) (before_head home first homes low) in omega (arith, e)
  | inr high ↦ let e = ap (λ (xs : List Home). length xs) (after_head home first homes high) in let more = length_home home homes in omega (arith, e, more)
]

-- ---- homes that ascend

abbrev inodes : List Home → List ℕ
inodes homes = map (λ (home : Home). home.inode) homes

-- the first inode is above a number, and they ascend
abbrev pub AscendFrom : ℕ → List Home → Type 0
AscendFrom n [] = Unit {0}
AscendFrom n (home ∷ homes) = (n < home.inode) × AscendFrom home.inode homes

abbrev pub Ascending : List Home → Type 0
Ascending [] = Unit {0}
Ascending (home ∷ homes) = AscendFrom home.inode homes

from_ascend : (home : Home) (homes : List Home) → Ascend (home ∷ homes) → AscendFrom home.inode homes
from_ascend home [] up = tt
from_ascend home (next ∷ homes) up = (
  up 0 (omega arith),
  from_ascend next homes (λ k low.
      let e : suc k + 1 ≡ suc (k + 1) = omega arith in
      subst (λ (m : ℕ). slice_index (inodes (home ∷ next ∷ homes)) (suc k) < slice_index (inodes (home ∷ next ∷ homes)) m) e (up (suc k) (omega (arith, low)))),
)

pub ascending_from : (homes : List Home) → Ascend homes → Ascending homes
ascending_from [] up = tt
ascending_from (home ∷ homes) up = from_ascend home homes up

to_ascend : (home : Home) (homes : List Home) → AscendFrom home.inode homes → Ascend (home ∷ homes)
to_ascend home [] up k low = absurd (omega (arith, low))
to_ascend home (next ∷ homes) up zero low = up.0
to_ascend home (next ∷ homes) up (suc k) low =
    let e : suc (k + 1) ≡ suc k + 1 = omega arith in
    subst (λ (m : ℕ). slice_index (inodes (home ∷ next ∷ homes)) (suc k) < slice_index (inodes (home ∷ next ∷ homes)) m) e (to_ascend next homes up.1 k (omega (arith, low)))

pub ascending_to : (homes : List Home) → Ascending homes → Ascend homes
ascending_to [] up = λ k low. absurd (omega (arith, low))
ascending_to (home ∷ homes) up = to_ascend home homes up

pub from_lower : (n m : ℕ) (homes : List Home) → n ≤ m → AscendFrom m homes → AscendFrom n homes
from_lower n m [] less up = tt
from_lower n m (home ∷ homes) less up = (omega (arith, less, up.0), up.1)

with_from : (n : ℕ) (home : Home) (homes : List Home) → n < home.inode → home_of homes home.inode ≡ None → AscendFrom n homes → AscendFrom n (with_home home homes)
with_from n home [] low none up = (low, tt)
with_from n home (first ∷ homes) low none up = elim (cases_lt home.inode first.inode) [
  | inl less ↦ subst (AscendFrom n) (sym (before_head home first homes less)) (low, (less, up.1))
  | inr high ↦ elim (cases_eq first.inode home.inode) [
    | inl same ↦ absurd (some_not first.boundary (sym (at_head first homes home.inode same) ∙ none))
    | inr other ↦
        subst (AscendFrom n) (sym (after_head home first homes high))
        (up.0, with_from first.inode home homes (omega (arith, high, other)) (sym (past_head first homes home.inode other) ∙ none) up.1)
  ]
]

pub with_ascends : (home : Home) (homes : List Home) → home_of homes home.inode ≡ None → Ascend homes → Ascend (with_home home homes)
with_ascends home [] none up = ascending_to (home ∷ []) tt
with_ascends home (first ∷ homes) none up = ascending_to (with_home home (first ∷ homes)) (elim (cases_lt home.inode first.inode) [
  | inl less ↦ subst Ascending (sym (before_head home first homes less)) (less, from_ascend first homes up)
  | inr high ↦ elim (cases_eq first.inode home.inode) [
    | inl same ↦ absurd (some_not first.boundary (sym (at_head first homes home.inode same) ∙ none))
    | inr other ↦
        subst Ascending (sym (after_head home first homes high))
        (with_from first.inode home homes (omega (arith, high, other)) (sym (past_head first homes home.inode other) ∙ none) (from_ascend first homes up))
  ]
])

-- ---- the place of a new home

-- behind those with lesser inodes, and before one with a greater one
pub put_at : (home : Home) (homes : List Home) (at : ℕ) (d : Home) → at ≤ length homes → ((k : ℕ) → k < at → (get_or homes k d).inode ≤ home.inode)
    → (at < length homes → home.inode < (get_or homes at d).inode) → take at homes ++ home ∷ drop at homes ≡ with_home home homes
put_at home [] zero d within lower higher = refl
put_at home [] (suc at) d within lower higher = absurd (omega (arith, within))
put_at home (first ∷ homes) zero d within lower higher = sym (before_head home first homes (higher (omega arith)))
put_at home (first ∷ homes) (suc at) d within lower higher =
    ap (λ (xs : List Home). first ∷ xs) (put_at home homes at d (omega (arith, within)) (λ k low. lower (suc k) (omega (arith, low))) (λ low. higher (omega (arith, low))))
    ∙ sym (after_head home first homes (lower 0 (omega arith)))

pub same_default : (homes : List Home) (k : ℕ) (d e : Home) (i : ℕ) → k < length homes → i < (get_or homes k d).inode → i < (get_or homes k e).inode
same_default [] k d e i low less = absurd (omega (arith, low))
same_default (home ∷ homes) zero d e i low less = less
same_default (home ∷ homes) (suc k) d e i low less = same_default homes k d e i (omega (arith, low)) less
