-- The bits of the members of the boundaries that are left, one boundary after another.
use Rattle.std.proofs.Common.{◌≡◌, ◌≢◌, ◌∙◌, ◌≤◌, ◌<◌, ◌+◌, ◌*◌, ◌/◌, ◌%◌, ◌==◌, ◌++◌, ◌∷◌, ℕ, Bool, true, false, List, [], inl, inr, length, length-append, refl, sym, ap, arith, add-one, zero-add}
use Rattle.std.specs.Prelude.{◌||◌, Some, if◌then◌else◌, slice_index}
use Rattle.std.specs.Int.{bit_at}
use Rattle.std.specs.List.{filter, range_with_len}
use Rattle.std.proofs.Math.Seq.{get_or-append_seam}
use Rattle.std.proofs.lemmas.Bool.{cases_eq}
use Rattle.std.proofs.lemmas.List.{append-nil, get_or_append_left}
use Rattle.std.proofs.lemmas.List.Elements.{filter-append}
use Rattle.dg_io.specs.Commits.{is_marked}
use Rattle.dg_io.specs.Reduced.{member_before, places_left}
use Rattle.dg_label.specs.Lefts.{KeepsLeft}
use Rattle.dg_label.specs.declared.labels.KeptLabel.{KeptLabel}
use Rattle.dg_model.proofs.ActionLists.{range_last}

one_more : (p : ℕ → Bool) (x y : ℕ) → y ≡ x → filter p (y ∷ []) ≡ (if p x then x ∷ [] else [])
one_more p x y e = ap (λ (s : ℕ). if p s then s ∷ [] else []) e

-- one boundary more
left_more : (lost n : ℕ) → places_left lost (n + 1) ≡ places_left lost n ++ (if bit_at lost n == 0 then n ∷ [] else [])
left_more lost n =
    let p : ℕ → Bool = λ s. bit_at lost s == 0 in
    ap (λ k. filter p (range_with_len 0 k)) (add-one n)
    ∙ ap (filter p) (range_last 0 n)
    ∙ filter-append p (range_with_len 0 n) ((0 + n) ∷ [])
    ∙ ap (λ (xs : List ℕ). filter p (range_with_len 0 n) ++ xs) (one_more p n (0 + n) (zero-add n))

-- it isn't left
pub left_same : (lost n : ℕ) → (bit_at lost n == 0) ≡ false → places_left lost (n + 1) ≡ places_left lost n
left_same lost n is = left_more lost n ∙ ap (λ (b : Bool). places_left lost n ++ (if b then n ∷ [] else [])) is ∙ append-nil (places_left lost n)

-- it is
pub left_one : (lost n : ℕ) → (bit_at lost n == 0) ≡ true → places_left lost (n + 1) ≡ places_left lost n ++ n ∷ []
left_one lost n is = left_more lost n ∙ ap (λ (b : Bool). places_left lost n ++ (if b then n ∷ [] else [])) is

-- so far, these bits are those of the members of the first boundaries that are left
pub record AreBitsLeft (bits : ℕ) (left : List ℕ) (kept : ℕ) : Type 0 where
  pub set : (q : ℕ) → q / 2 < length left → is_marked kept q ≡ is_marked bits (member_before left q)
  pub clear : (q : ℕ) → length left ≤ q / 2 → is_marked kept q ≡ false

pub bits_one : (bits kept next n : ℕ) (left : List ℕ) → AreBitsLeft bits left kept
    → is_marked next (2 * length left) ≡ is_marked bits (2 * n) → is_marked next (2 * length left + 1) ≡ is_marked bits (2 * n + 1)
    → ((q : ℕ) → q / 2 ≢ length left → is_marked next q ≡ is_marked kept q)
    → AreBitsLeft bits (left ++ n ∷ []) next
bits_one bits kept next n left are first second others = record {
  set = λ q low. elim (cases_eq (q / 2) (length left)) [
    | inl here ↦ last q here
    | inr other ↦
        let long = length-append left (n ∷ []) in
        let early : q / 2 < length left = omega (arith, low, long, other) in
        others q other ∙ are.set q early
        ∙ ap (λ (s : ℕ). is_marked bits (2 * s + q % 2)) (sym (get_or_append_left left (n ∷ []) 0 (q / 2) early))
  ];
  clear = λ q past.
      let long = length-append left (n ∷ []) in
      others q (λ e. omega (arith, e, past, long)) ∙ are.clear q (omega (arith, past, long));
}
  where
    at : (q : ℕ) → q / 2 ≡ length left → member_before (left ++ n ∷ []) q ≡ 2 * n + q % 2
    at q here = ap (λ (s : ℕ). 2 * s + q % 2) (ap (λ (k : ℕ). slice_index (left ++ n ∷ []) k) here ∙ get_or-append_seam left n [] 0)

    last : (q : ℕ) → q / 2 ≡ length left → is_marked next q ≡ is_marked bits (member_before (left ++ n ∷ []) q)
    last q here = elim (cases_eq (q % 2) 0) [
      | inl even ↦
          let old : q ≡ 2 * length left = omega (arith, here, even) in
          let new : 2 * n ≡ 2 * n + q % 2 = omega (arith, even) in
          ap (is_marked next) old ∙ first ∙ ap (is_marked bits) (new ∙ sym (at q here))
      | inr odd ↦
          let old : q ≡ 2 * length left + 1 = omega (arith, here, odd) in
          let new : 2 * n + 1 ≡ 2 * n + q % 2 = omega (arith, odd) in
          ap (is_marked next) old ∙ second ∙ ap (is_marked bits) (new ∙ sym (at q here))
    ]

-- a label with these bits
pub keeps_bits : (left : List ℕ) (kept : KeptLabel) (bits : ℕ) → ((q : ℕ) → q / 2 < length left → is_marked bits q ≡ is_marked kept.long (member_before left q))
    → KeepsLeft left (Some kept) (Some (record kept { long = bits }))
keeps_bits left kept bits same = record {
  long = λ q low. ap (λ (b : Bool). (kept.format == 2) || b) (same q low);
  numbers = refl;
}
