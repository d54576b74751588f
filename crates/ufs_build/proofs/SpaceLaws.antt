-- Free fragments, and how far was searched for them.
use Rattle.std.proofs.Common.{◌≡◌, ◌∙◌, ℕ, zero, suc, ◌+◌, ◌<◌, ◌≤◌, ◌&&◌, ◌%◌, Bool, true, false, not, List, [], ◌∷◌, Some, None, length, get_or, set, cond, refl, sym, ap, arith, inl, inr}
use Rattle.std.specs.Prelude.{nat_le, find}
use Rattle.std.specs.List.{range_with_len}
use Rattle.std.proofs.lemmas.List.{get_or-set_other, get_or-set_same, length-set}
use Rattle.std.proofs.lemmas.Bool.{cases_eq, false≢true}
use Rattle.ufs_model.specs.Pointers.{is_data_run}
use Rattle.ufs_model.specs.declared.geometries.Geometry.{Geometry}
use Rattle.ufs_build.specs.Placements.{fits, is_used, lowest, marked}
use Rattle.ufs_build.specs.Spaces.{IsSearched, NoneBelow}
use Rattle.ufs_build.proofs.BelowLaws.{below_mono}

-- ---- the lowest

finds_one : (test : ℕ → Bool) (from n a : ℕ) (here : Bool) → test from ≡ here → from ≤ a → a < from + suc n
    → ((b : ℕ) → from ≤ b → b < a → test b ≡ false) → test a ≡ true
    → (from + 1 ≤ a → find test (range_with_len (from + 1) n) ≡ Some a) → cond here (Some from) (find test (range_with_len (from + 1) n)) ≡ Some a
finds_one test from n a true e low high none here more =
    let first : from ≡ a = elim (cases_eq from a) as (λ _. from ≡ a) [
      | inl same ↦ same
      | inr differ ↦ absurd (false≢true (sym (none from (omega arith) (let h : from < a = omega arith in h)) ∙ e))
    ] in ap Some first
finds_one test from n a false e low high none here more =
    more (elim (cases_eq from a) as (λ _. from + 1 ≤ a) [
      | inl same ↦ absurd (false≢true (sym e ∙ ap test same ∙ here))
      | inr differ ↦ omega arith
    ])

finds : (test : ℕ → Bool) (from n a : ℕ) → from ≤ a → a < from + n → ((b : ℕ) → from ≤ b → b < a → test b ≡ false) → test a ≡ true
    → find test (range_with_len from n) ≡ Some a
finds test from zero a low high none here = absurd (omega arith)
finds test from (suc n) a low high none here = finds_one test from n a (test from) refl low high none here
    (λ more. finds test (from + 1) n a more (omega arith) (λ b h l. none b (omega arith) l) here)

finds_none : (test : ℕ → Bool) (from n : ℕ) → ((b : ℕ) → b < from + n → test b ≡ false) → find test (range_with_len from n) ≡ None
finds_none test from zero none = refl
finds_none test from (suc n) none = rw (none from (omega arith)) (finds_none test (from + 1) n (λ b low. none b (omega arith)))

pub lowest_is : (g : Geometry) (used : List Bool) (k a : ℕ) → NoneBelow g used k a → a < g.size → fits g used k a ≡ true → Some a ≡ lowest g used k
unfolding lowest
lowest_is g used k a below inside here =
    sym (finds (fits g used k) 0 g.size a (omega arith) (omega arith) (λ b h low. below.none b low) here)

pub lowest_none : (g : Geometry) (used : List Bool) (k end : ℕ) → end ≡ g.size → NoneBelow g used k end → None ≡ lowest g used k
unfolding lowest
lowest_none g used k end e below = sym (finds_none (fits g used k) 0 g.size (λ b low. below.none b (omega arith)))

-- ---- what is searched stays so

set_kept : (marks : List Bool) (i f : ℕ) → get_or marks f false ≡ true → get_or (set marks i true) f false ≡ true
set_kept [] i f h = h
set_kept (m ∷ marks) zero zero h = refl
set_kept (m ∷ marks) zero (suc f) h = h
set_kept (m ∷ marks) (suc i) zero h = h
set_kept (m ∷ marks) (suc i) (suc f) h = set_kept marks i f h

marked_kept : (used : List Bool) (a k f : ℕ) → is_used used f ≡ true → is_used (marked used a k) f ≡ true
marked_kept used a zero f h = h
marked_kept used a (suc k) f h = set_kept (marked used a k) (a + k) f (marked_kept used a k f h)

still_free : (x y : Bool) → (y ≡ true → x ≡ true) → not x ≡ true → not y ≡ true
still_free true y h e = absurd (false≢true e)
still_free false true h e = absurd (false≢true (h refl))
still_free false false h e = refl

to_false : (x y : Bool) → (x ≡ true → y ≡ true) → y ≡ false → x ≡ false
to_false true y h e = absurd (false≢true (sym e ∙ h refl))
to_false false y h e = refl

to_true : (a b x y : Bool) → (x ≡ true → y ≡ true) → (a && (b && x)) ≡ true → (a && (b && y)) ≡ true
to_true false b x y h e = e
to_true true false x y h e = e
to_true true true x y h e = h e

fits_before : (g : Geometry) (used : List Bool) (a c k b : ℕ) → fits g (marked used a c) k b ≡ true → fits g used k b ≡ true
unfolding fits
fits_before g used a c k b h =
    to_true (nat_le (b % g.frag + k) g.frag) (is_data_run g b k) _ _
    (below_mono (λ i. not (is_used (marked used a c) (b + i))) (λ i. not (is_used used (b + i))) k
    (λ i e. still_free (is_used (marked used a c) (b + i)) (is_used used (b + i)) (marked_kept used a c (b + i)) e)) h

pub none_below_marked : (g : Geometry) (used : List Bool) (a c k from : ℕ) → NoneBelow g used k from → NoneBelow g (marked used a c) k from
none_below_marked g used a c k from below = record {
  none = λ b low. to_false (fits g (marked used a c) k b) (fits g used k b) (fits_before g used a c k b) (below.none b low);
}

pub searched_marked : (g : Geometry) (used : List Bool) (searched : List ℕ) (a c : ℕ) → IsSearched g used searched → IsSearched g (marked used a c) searched
searched_marked g used searched a c is = record {
  size = is.size;
  inside = is.inside;
  below = λ k. none_below_marked g used a c k (get_or searched k 0) (is.below k);
}

pub searched_set : (g : Geometry) (used : List Bool) (searched : List ℕ) (k a : ℕ) → IsSearched g used searched → k < 9 → NoneBelow g used k a → a ≤ g.size
    → IsSearched g used (set searched k a)
searched_set g used searched k a is low below inside =
    let long : k < length searched = rw (is.size) low in
    record {
      size = length-set searched k a ∙ is.size;
      inside = λ j. elim (cases_eq j k) as (λ _. get_or (set searched k a) j 0 ≤ g.size) [
        | inl same ↦ rw (same, get_or-set_same searched k a 0 long) inside
        | inr differ ↦ rw (get_or-set_other searched k j a 0 differ) (is.inside j)
      ];
      below = λ j. elim (cases_eq j k) as (λ _. NoneBelow g used j (get_or (set searched k a) j 0)) [
        | inl same ↦ rw (same, get_or-set_same searched k a 0 long) below
        | inr differ ↦ rw (get_or-set_other searched k j a 0 differ) (is.below j)
      ];
    }
