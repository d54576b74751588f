-- The places that boundaries get.
use Rattle.std.proofs.Common.{◌≡◌, ◌∙◌, ◌+◌, ◌<◌, ◌≤◌, ◌==◌, inl, inr, ℕ, zero, suc, Bool, true, false, List, [], ◌∷◌, ◌++◌, Option, None, Some, get_or, length, replicate, slice_index_or, slice_set, nat_lt, if◌then◌else◌, refl, sym, ap, subst, arith, add-one, length-append}
use Rattle.std.specs.Int.{bit_at}
use Rattle.std.specs.List.{range_with_len}
use Rattle.std.proofs.lemmas.Bool.{cases_Bool, cases_lt, false≢true}
use Rattle.std.proofs.lemmas.Bool.Decides.{nat_tests}
use Rattle.std.proofs.lemmas.List.{append-nil, get_or-set_other, get_or-set_same, length-set}
use Rattle.std.proofs.Math.ListN.{get_or-append}
use Rattle.std.proofs.Math.Seq.{get_or-append_seam}
use Rattle.std.proofs.lemmas.List.Elements.{filter_passes}
use Rattle.std.proofs.lemmas.Nat.Bits.{bit_at-lt}
use Rattle.dg_io.specs.Reduced.{places_left}
use Rattle.dg_model.proofs.RegroupLaws.{place_at, place_of_at}
use Rattle.dg_model.specs.Lives.{place_in}
use Rattle.dg_model.specs.Regroups.{is_left}
use Rattle.dg_regroup.proofs.LeftLemmas.{left_more, places_ascend, places_low}
use Rattle.dg_regroup.specs.Cuts.{new_place}

-- ---- where a boundary stands

-- boundary t stands behind those of the lower ones that are left
record StandsAt (lost t b : ℕ) : Type 0 where
  pub low : length (places_left lost t) < length (places_left lost b)
  pub at : get_or (places_left lost b) (length (places_left lost t)) 0 ≡ t

left_suc : (lost c : ℕ) → places_left lost (suc c) ≡ places_left lost c ++ (if bit_at lost c == 0 then c ∷ [] else [])
left_suc lost c = ap (λ n. places_left lost n) (sym (add-one c)) ∙ left_more lost c

further : (lost t c : ℕ) → StandsAt lost t c → StandsAt lost t (suc c)
further lost t c h =
    let more : List ℕ = if bit_at lost c == 0 then c ∷ [] else [] in
    let e : places_left lost (suc c) ≡ places_left lost c ++ more = left_suc lost c in
    let low = h.low in record {
      low = rw e (let long = length-append (places_left lost c) more in omega (arith, low, long));
      at = rw e (get_or-append (places_left lost c) more 0 (length (places_left lost t)) low ∙ h.at);
    }

last : (lost c : ℕ) → (bit_at lost c == 0) ≡ true → StandsAt lost c (suc c)
last lost c is =
    let e : places_left lost (suc c) ≡ places_left lost c ++ c ∷ [] = left_suc lost c ∙ ap (λ (b : Bool). places_left lost c ++ (if b then c ∷ [] else [])) is in record {
      low = rw e (let long = length-append (places_left lost c) (c ∷ []) in omega (arith, long));
      at = rw e (get_or-append_seam (places_left lost c) c [] 0);
    }

stands : (lost t b : ℕ) → t < b → (bit_at lost t == 0) ≡ true → StandsAt lost t b
stands lost t zero low is = absurd (omega (arith, low))
stands lost t (suc c) low is = elim (cases_lt t c) [
  | inl less ↦ further lost t c (stands lost t c less is)
  | inr same ↦ let e : t ≡ c = omega (arith, low, same) in subst (λ (n : ℕ). StandsAt lost n (suc c)) (sym e) (last lost c (subst (λ (n : ℕ). (bit_at lost n == 0) ≡ true) e is))
]

pub place_is : (lost t b : ℕ) → t < b → (bit_at lost t == 0) ≡ true → new_place (places_left lost b) t ≡ Some (length (places_left lost t))
place_is lost t b low is =
    let h = stands lost t b low is in
    let place : place_in (places_left lost b) t ≡ length (places_left lost t) =
    ap (place_in (places_left lost b)) (sym h.at) ∙ place_of_at (places_left lost b) (places_ascend lost b) (length (places_left lost t)) h.low in
    let within = h.low in
    let less : nat_lt (length (places_left lost t)) (length (places_left lost b)) ≡ true = grind (arith, nat_tests, within) in
    rw (place, less) refl

-- a boundary that is left is below b, and its bit isn't set
pub was_left : (lost t b : ℕ) → place_in (places_left lost b) t < length (places_left lost b) → (t < b) × ((bit_at lost t == 0) ≡ true)
was_left lost t b within =
    let left = places_left lost b in
    let at = place_at left t within in (
      (let low = places_low lost b (place_in left t) 0 within in omega (arith, low, at)),
      ap (λ (n : ℕ). bit_at lost n == 0) (sym at) ∙ filter_passes (λ s. bit_at lost s == 0) (range_with_len 0 b) (place_in left t) 0 within,
    )

pub no_place : (lost t b : ℕ) → ((t < b) × ((bit_at lost t == 0) ≡ true) → ⊥) → new_place (places_left lost b) t ≡ None
no_place lost t b out = elim (cases_lt (place_in (places_left lost b) t) (length (places_left lost b))) [
  | inl within ↦ absurd (out (was_left lost t b within))
  | inr high ↦ let gone : is_left (places_left lost b) t ≡ false = grind (arith, nat_tests, high) in rw gone refl
]

-- ---- the table

-- it tells the places of the boundaries below s, and no other ones
pub record IsTold (lost s count : ℕ) (places : List (Option ℕ)) : Type 0 where
  pub count_is : count ≡ length (places_left lost s)
  pub most : count ≤ s
  pub size : length places ≡ 16
  pub stay : (t : ℕ) → t < s → (bit_at lost t == 0) ≡ true → slice_index_or places t None ≡ Some (length (places_left lost t))
  pub gone : (t : ℕ) → t < s → (bit_at lost t == 0) ≡ false → slice_index_or places t None ≡ None
  pub behind : (t : ℕ) → s ≤ t → slice_index_or places t None ≡ None

none_at : (n t : ℕ) → get_or {A = Option ℕ} (replicate n None) t None ≡ None
none_at zero t = refl
none_at (suc n) zero = refl
none_at (suc n) (suc t) = none_at n t

pub told_none : (lost : ℕ) → IsTold lost 0 0 (replicate 16 None)
told_none lost = record {
  count_is = refl;
  most = omega arith;
  size = refl;
  stay = λ t low is. absurd (omega arith);
  gone = λ t low is. absurd (omega arith);
  behind = λ t high. none_at 16 t;
}

is_zero : (lost x : ℕ) → (bit_at lost x == 1) ≡ false → (bit_at lost x == 0) ≡ true
is_zero lost x is = let low = bit_at-lt lost x in grind (arith, nat_tests, low)

is_one : (lost x : ℕ) → (bit_at lost x == 1) ≡ true → (bit_at lost x == 0) ≡ false
is_one lost x is = grind (arith, nat_tests)

pub told_more : (lost s count : ℕ) (places : List (Option ℕ)) → IsTold lost s count places → s < 16 → (bit_at lost s == 1) ≡ false → IsTold lost (s + 1) (count + 1) (slice_set places s (Some count))
told_more lost s count places h low is =
    let zero_bit = is_zero lost s is in
    let e : places_left lost (s + 1) ≡ places_left lost s ++ s ∷ [] = left_more lost s ∙ ap (λ (b : Bool). places_left lost s ++ (if b then s ∷ [] else [])) zero_bit in
    let size = h.size in
    let count_is = h.count_is in record {
      count_is = rw e (let long = length-append (places_left lost s) (s ∷ []) in omega (arith, long, count_is));
      most = let most = h.most in omega (arith, most);
      size = length-set places s (Some count) ∙ h.size;
      stay = λ t less is. elim (cases_lt t s) [
        | inl lower ↦ get_or-set_other places s t (Some count) None (λ e. omega (arith, e, lower)) ∙ h.stay t lower is
        | inr same ↦
            let e : t ≡ s = omega (arith, less, same) in
            subst (λ (n : ℕ). slice_index_or (slice_set places s (Some count)) n None ≡ Some (length (places_left lost n))) (sym e)
            (get_or-set_same places s (Some count) None (omega (arith, low, size)) ∙ ap Some count_is)
      ];
      gone = λ t less out. elim (cases_lt t s) [
        | inl lower ↦ get_or-set_other places s t (Some count) None (λ e. omega (arith, e, lower)) ∙ h.gone t lower out
        | inr same ↦ let e : t ≡ s = omega (arith, less, same) in absurd (false≢true (sym out ∙ subst (λ (n : ℕ). (bit_at lost n == 0) ≡ true) (sym e) zero_bit))
      ];
      behind = λ t high. get_or-set_other places s t (Some count) None (λ e. omega (arith, e, high)) ∙ h.behind t (omega (arith, high));
    }

pub told_on : (lost s count : ℕ) (places : List (Option ℕ)) → IsTold lost s count places → (bit_at lost s == 1) ≡ true → IsTold lost (s + 1) count places
told_on lost s count places h is =
    let one_bit = is_one lost s is in
    let e : places_left lost (s + 1) ≡ places_left lost s = left_more lost s ∙ ap (λ (b : Bool). places_left lost s ++ (if b then s ∷ [] else [])) one_bit ∙ append-nil (places_left lost s) in
    record {
      count_is = h.count_is ∙ ap length (sym e);
      most = let most = h.most in omega (arith, most);
      size = h.size;
      stay = λ t less is. elim (cases_lt t s) [
        | inl lower ↦ h.stay t lower is
        | inr same ↦ let e : t ≡ s = omega (arith, less, same) in absurd (false≢true (sym one_bit ∙ subst (λ (n : ℕ). (bit_at lost n == 0) ≡ true) e is))
      ];
      gone = λ t less out. elim (cases_lt t s) [
        | inl lower ↦ h.gone t lower out
        | inr same ↦ h.behind t same
      ];
      behind = λ t high. h.behind t (omega (arith, high));
    }

pub told_all : (lost b count : ℕ) (places : List (Option ℕ)) → IsTold lost b count places → (s : ℕ) → slice_index_or places s None ≡ new_place (places_left lost b) s
told_all lost b count places h s = elim (cases_lt s b) [
  | inl low ↦ elim (cases_Bool (bit_at lost s == 0)) [
    | inl is ↦ h.stay s low is ∙ sym (place_is lost s b low is)
    | inr out ↦ h.gone s low out ∙ sym (no_place lost s b (λ was. false≢true (sym out ∙ was.1)))
  ]
  | inr high ↦ h.behind s high ∙ sym (no_place lost s b (λ was. (let low = was.0 in omega (arith, low, high))))
]

-- whether it is left tells its bit
pub left_is : (lost b t : ℕ) → t < b → is_left (places_left lost b) t ≡ (bit_at lost t == 0)
left_is lost b t low = elim (cases_Bool (bit_at lost t == 0)) [
  | inl is ↦
      let h = stands lost t b low is in
      let within = h.low in
      let place : place_in (places_left lost b) t ≡ length (places_left lost t) =
      ap (place_in (places_left lost b)) (sym h.at) ∙ place_of_at (places_left lost b) (places_ascend lost b) (length (places_left lost t)) h.low in
      let less : nat_lt (length (places_left lost t)) (length (places_left lost b)) ≡ true = grind (arith, nat_tests, within) in
      rw (place, less) (sym is)
  | inr out ↦ elim (cases_lt (place_in (places_left lost b) t) (length (places_left lost b))) [
    | inl within ↦ absurd (false≢true (sym out ∙ (was_left lost t b within).1))
    | inr high ↦ let gone : is_left (places_left lost b) t ≡ false = grind (arith, nat_tests, high) in gone ∙ sym out
  ]
]
