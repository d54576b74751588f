-- Boundaries that go out of use: each was lost before, or a member of it failed.
use Rattle.std.proofs.Common.{◌≡◌, ◌⊎◌, ◌∙◌, ◌+◌, ◌*◌, ◌/◌, ◌<◌, ℕ, suc, zero, Bool, true, false, List, [], ◌∷◌, ap, arith, get_or, inl, inr, length, map, not, refl, subst, sym}
use Rattle.std.specs.Prelude.{◌==◌, ◌&&◌, filter, if◌then◌else◌, slice_index}
use Rattle.std.specs.List.{range_with_len}
use Rattle.std.proofs.lemmas.Bool.{cases_lt, false≢true}
use Rattle.std.proofs.lemmas.Bool.Decides.{nat_tests}
use Rattle.std.proofs.lemmas.List.{get_or-map, length-map}
use Rattle.std.proofs.lemmas.List.FromFn.{get_or-range_with_len, length-range_with_len}
use Rattle.std.proofs.lemmas.List.Sums.{fails_before_first}
use Rattle.dg_model.proofs.RegroupLaws.{place_at}
use Rattle.dg_model.specs.Causes.{Rose}
use Rattle.dg_model.specs.Lives.{boundary_at, left_of, place_in}
use Rattle.dg_model.specs.Members.{MembersFall, is_filling, is_good, is_lost}
use Rattle.dg_model.specs.declared.members.MemberState.{MemberState}
use Rattle.dg_model.specs.declared.members.MemberState.TheVariants.{Filling, Good, Out}
use Rattle.dg_model.specs.declared.shapes.Shape.{Shape}

-- Each boundary in use before that isn't in use now was lost, or the count of faults of a member of it rose. The members are those before, by their places;
-- the counts are by the numbers of the first line.
abbrev pub WentLost : (ℕ → ℕ) → (ℕ → ℕ) → (ℕ → MemberState) → List ℕ → List ℕ → Type 0
WentLost before now members old new = (s : ℕ) → place_in old s < length old → (place_in new s < length new → ⊥)
    → (is_lost members (place_in old s) ≡ true) ⊎ ((q : ℕ) × (q / 2 ≡ s) × Rose (before q) (now q))

-- none went out of use
pub none_went : (before now : ℕ → ℕ) (members : ℕ → MemberState) (old new : List ℕ) → new ≡ old → WentLost before now members old new
none_went before now members old new same s was gone = absurd (gone (subst (λ (l : List ℕ). place_in l s < length l) (sym same) was))

-- ---- places

-- a number that stands in a list has a place there
pub place_low : (live : List ℕ) (s k : ℕ) → k < length live → get_or live k 0 ≡ s → place_in live s < length live
place_low live s k low at = elim (cases_lt (place_in live s) (length live)) [
  | inl less ↦ less
  | inr past ↦ absurd (let fails = fails_before_first (λ t. t == s) live k 0 (omega (arith, low, past)) in grind (arith, nat_tests))
]

-- a number of a list that passes a test is one of those that pass it
passing : (test : ℕ → Bool) (xs : List ℕ) (k : ℕ) → k < length xs → test (slice_index xs k) ≡ true
    → (i : ℕ) × (i < length (filter test xs)) × (slice_index (filter test xs) i ≡ slice_index xs k)
passing test [] k low passes = absurd (omega (arith, low))
passing test (x ∷ xs) zero low passes = here (test x) passes where
  here : (b : Bool) → b ≡ true → (i : ℕ) × (i < length (if b then x ∷ filter test xs else filter test xs)) × (slice_index (if b then x ∷ filter test xs else filter test xs) i ≡ x)
  here true is = (zero, omega arith, refl)
  here false is = absurd (false≢true is)
passing test (x ∷ xs) (suc k) low passes = later (test x) (passing test xs k (omega (arith, low)) passes) where
  later : (b : Bool) → (i : ℕ) × (i < length (filter test xs)) × (slice_index (filter test xs) i ≡ slice_index xs k)
      → (i : ℕ) × (i < length (if b then x ∷ filter test xs else filter test xs)) × (slice_index (if b then x ∷ filter test xs else filter test xs) i ≡ slice_index xs k)
  later true found = (suc found.0, omega (arith, found.1), found.2)
  later false found = found

-- a boundary in use that isn't lost stays in use
pub left_there : (shape : Shape) (members : ℕ → MemberState) (live : List ℕ) (s : ℕ) → length live ≡ shape.b → place_in live s < length live → is_lost members (place_in live s) ≡ false
    → place_in (map (boundary_at live) (left_of shape members)) s < length (map (boundary_at live) (left_of shape members))
left_there shape members live s number low stands =
    let test : ℕ → Bool = λ x. not (is_lost members x) in
    let place : ℕ = place_in live s in
    let within : place < shape.b = omega (arith, low, number) in
    let at = get_or-range_with_len 0 shape.b place 0 within in
    let here : slice_index (range_with_len 0 shape.b) place ≡ place = omega (arith, at) in
    let found = passing test (range_with_len 0 shape.b) place (omega (arith, within, length-range_with_len 0 shape.b)) (ap test here ∙ ap not stands) in
    place_low (map (boundary_at live) (left_of shape members)) s found.0 (omega (arith, found.1, length-map (left_of shape members) (boundary_at live)))
    (get_or-map (boundary_at live) (left_of shape members) found.0 0 0 found.1 ∙ ap (boundary_at live) (found.2 ∙ here) ∙ place_at live s low)

-- ---- members

not_filling : (member : MemberState) → is_good member ≡ true → is_filling member ≡ true → ⊥
not_filling Good good filling = false≢true filling
not_filling (Filling have) good filling = false≢true good
not_filling Out good filling = false≢true good

some_good : (a b : Bool) → (not a && not b) ≡ false → (a ≡ true) ⊎ (b ≡ true)
some_good true b is = inl refl
some_good false true is = inr refl
some_good false false is = absurd (false≢true (sym is))

none_good : (a b : Bool) → (not a && not b) ≡ true → (a ≡ false) × (b ≡ false)
none_good true b is = absurd (false≢true is)
none_good false true is = absurd (false≢true is)
none_good false false is = (refl, refl)

module _ (before now : ℕ → ℕ) (old new : ℕ → MemberState) (falls : MembersFall before now old new) where
  -- a good member goes out by a fault of its own alone
  good_failed : (q : ℕ) → is_good (old q) ≡ true → is_good (new q) ≡ false → Rose (before q) (now q)
  good_failed q good gone = elim (falls q) [
    | inl same ↦ absurd (false≢true (sym gone ∙ ap is_good same ∙ good))
    | inr fell ↦ elim fell.caused [ inl rose ↦ rose | inr filling ↦ absurd (not_filling (old q) good filling.0) ]
  ]

  -- so where a boundary is lost by such falls, one of its members failed
  pub lost_failed : (x : ℕ) → is_lost old x ≡ false → is_lost new x ≡ true → (q : ℕ) × (q / 2 ≡ x) × Rose (before q) (now q)
  lost_failed x stood lost =
      let gone = none_good (is_good (new (2 * x))) (is_good (new (2 * x + 1))) lost in
      elim (some_good (is_good (old (2 * x))) (is_good (old (2 * x + 1))) stood) [
        | inl first ↦ (2 * x, omega arith, good_failed (2 * x) first gone.0)
        | inr second ↦ (2 * x + 1, omega arith, good_failed (2 * x + 1) second gone.1)
      ]
