-- What is kept in memory of the members that an opening attaches: marks of all members, and copies of where their pages stand.
use Rattle.std.proofs.Common.{◌≡◌, ◌≤◌, ◌<◌, ◌+◌, ◌++◌, ◌∷◌, ℕ, Bool, true, false, List, [], length, refl, sym, ◌∙◌, ap, arith, inl, inr, subst, length-append}
use Rattle.std.specs.Prelude.{◌&&◌, not, Option, Some, None, is_some, slice_get, slice_set}
use Rattle.std.proofs.lemmas.Bool.{false≢true}
use Rattle.std.proofs.lemmas.List.{get_or-set_other, get_or-set_same, get_or_past, length-set}
use Rattle.std.proofs.lemmas.Option.{slice_get-get_or, slice_get_past}
use Rattle.dg_stop.proofs.Committing.{same_or_not}
use Rattle.dg_stop.proofs.OneCommit.{lt_or}
use Rattle.dg_stop.proofs.TableLemmas.{push_get}
use Rattle.dg_stop.specs.DoubleCommits.{fell_now}
use Rattle.dg_stop.specs.DoubleOpenings.{AreCopied, IsCopyOf, is_prepared}
use Rattle.dg_stop.specs.Doubles.{most_of}
use Rattle.dg_stop.specs.Phases.{bits_in, bits_of_held, flag_in, size_in, size_of}
use Rattle.dg_stop.specs.Tables.{head_at}
use Rattle.dg_stop.specs.declared.headers.Header.{Header}
use Rattle.dg_stop.specs.declared.places.Places.{Places}

-- ---- marks

-- the members below n have the marks that they are to have
pub record FlagsUpTo (f : ℕ → Bool) (n : ℕ) (flags : List Bool) : Type 0 where
  pub count : length flags ≡ 32
  pub below : (q : ℕ) → q < n → flag_in flags q ≡ f q

pub up_to_none : (f : ℕ → Bool) (flags : List Bool) → length flags ≡ 32 → FlagsUpTo f 0 flags
up_to_none f flags count = record { count = count; below = λ q low. absurd (omega (arith, low)) }

pub up_to_next : (f : ℕ → Bool) (n : ℕ) (flags : List Bool) (flag : Bool) → n < 32 → flag ≡ f n → FlagsUpTo f n flags → FlagsUpTo f (n + 1) (slice_set flags n flag)
up_to_next f n flags flag low is so = record {
  count = length-set flags n flag ∙ so.count;
  below = λ q near. elim (same_or_not q n) [
    | inl e ↦ subst (λ (x : ℕ). flag_in (slice_set flags n flag) x ≡ f x) (sym e) (get_or-set_same flags n flag false (omega (arith, low, so.count)) ∙ is)
    | inr apart ↦ get_or-set_other flags n q flag false apart ∙ so.below q (omega (arith, near, apart))
  ];
}

pub up_to_low : (f : ℕ → Bool) (n : ℕ) (flags : List Bool) → n ≡ 32 → FlagsUpTo f n flags → (q : ℕ) → q < 32 → flag_in flags q ≡ f q
up_to_low f n flags end so q low = so.below q (omega (arith, end, low))

pub up_to_all : (f : ℕ → Bool) (n : ℕ) (flags : List Bool) → n ≡ 32 → ((q : ℕ) → 32 ≤ q → f q ≡ false) → FlagsUpTo f n flags → (q : ℕ) → flag_in flags q ≡ f q
up_to_all f n flags end high so q = elim (lt_or q 32) [
  | inl low ↦ so.below q (omega (arith, end, low))
  | inr over ↦ get_or_past flags q false (omega (arith, so.count, over)) ∙ sym (high q over)
]

-- a member with a mark is below 32
pub flag_low : (flags : List Bool) → length flags ≡ 32 → (q : ℕ) → flag_in flags q ≡ true → q < 32
flag_low flags count q on = elim (lt_or q 32) [
  | inl low ↦ low
  | inr high ↦ absurd (false≢true (sym (get_or_past flags q false (omega (arith, count, high))) ∙ on))
]

pub no_head : (heads : List (Option Header)) (q : ℕ) → length heads ≡ 32 → 32 ≤ q → head_at heads q ≡ None
no_head heads q size high = get_or_past heads q None (omega (arith, size, high))

pub prepared_high : (heads : List (Option Header)) → length heads ≡ 32 → (q : ℕ) → 32 ≤ q → is_prepared (head_at heads q) ≡ false
prepared_high heads size q high = ap is_prepared (no_head heads q size high)

pub standing_high : (heads : List (Option Header)) (served serves : List Bool) → length heads ≡ 32 → (q : ℕ) → 32 ≤ q → (is_some (head_at heads q) && not (fell_now served serves q)) ≡ false
standing_high heads served serves size q high = ap (λ (h : Option Header). is_some h && not (fell_now served serves q)) (no_head heads q size high)

-- ---- copies

-- the members below n are copied
pub record CopiedBelow (n : ℕ) (old new : List Places) : Type 0 where
  pub count : length new ≡ n
  pub same : (q : ℕ) (held : Places) → slice_get new q ≡ Some held → IsCopyOf (slice_get old q) held

no_places : (a : Places) → ◌≡◌ {A = Option Places} None (Some a) → ⊥
no_places a e = false≢true (ap is_some e)

-- a member that is there is one
inside_is : (all : List Places) (q : ℕ) → slice_get all q ≡ None → q < length all → ⊥
inside_is [] q none low = omega (arith, low)
inside_is (x ∷ all) q none low = no_places _ (sym none ∙ slice_get-get_or (x ∷ all) q x low)

pub copied_none : (old new : List Places) → length new ≡ 0 → CopiedBelow 0 old new
copied_none old new none = record { count = none; same = same new none } where
  same : (new : List Places) → length new ≡ 0 → (q : ℕ) (held : Places) → slice_get new q ≡ Some held → IsCopyOf (slice_get old q) held
  same [] none q held got = absurd (no_places held got)
  same (x ∷ all) none q held got = absurd (omega (arith, none))

pub copied_next : (n : ℕ) (old new : List Places) (x : Places) → IsCopyOf (slice_get old n) x → CopiedBelow n old new → CopiedBelow (n + 1) old (new ++ x ∷ [])
copied_next n old new x is so = record {
  count = length-append new (x ∷ []) ∙ ap (λ (k : ℕ). k + 1) so.count;
  same = λ q held got. elim (push_get new x held q got) [
    | inl was ↦ so.same q held was
    | inr one ↦ subst (λ (k : ℕ). IsCopyOf (slice_get old k) held) (sym (one.0 ∙ so.count)) (subst (IsCopyOf (slice_get old n)) (sym one.1) is)
  ];
}

copied_at : (o : Option Places) (held : Places) (c : Option Places) → c ≡ Some held → IsCopyOf o held → (size_of c ≡ size_of o) × (bits_of_held c ≡ bits_of_held o) × (most_of c ≡ most_of o)
copied_at o held c got is = (ap size_of got ∙ is.size, ap bits_of_held got ∙ is.bits, ap most_of got ∙ is.most)

pub copied_all : (n : ℕ) (old new : List Places) → n ≡ 32 → length old ≡ 32 → CopiedBelow n old new → AreCopied old new
copied_all n old new end size so = record {
  count = so.count ∙ end ∙ sym size;
  sizes = λ q. (at q).0;
  bits = λ q. (at q).1;
  most = λ q. (at q).2;
}
  where
    by : (q : ℕ) (c : Option Places) → slice_get new q ≡ c → q < n → (size_in new q ≡ size_in old q) × (bits_in new q ≡ bits_in old q) × (most_of (slice_get new q) ≡ most_of (slice_get old q))
    by q (Some held) got low = copied_at (slice_get old q) held (slice_get new q) got (so.same q held got)
    by q None got low = absurd (inside_is new q got (omega (arith, low, so.count)))

    at : (q : ℕ) → (size_in new q ≡ size_in old q) × (bits_in new q ≡ bits_in old q) × (most_of (slice_get new q) ≡ most_of (slice_get old q))
    at q = elim (lt_or q n) [
      | inl low ↦ by q (slice_get new q) refl low
      | inr high ↦
          let none : slice_get new q ≡ slice_get old q = slice_get_past new q (omega (arith, high, so.count)) ∙ sym (slice_get_past old q (omega (arith, high, end, size))) in
          (ap size_of none, ap bits_of_held none, ap most_of none)
    ]
