-- Parts of chunks: which disks are in, and the parity of a piece.
use Rattle.std.proofs.Common.{◌≡◌, ◌≢◌, ℕ, zero, suc, ◌+◌, ◌-◌, ◌<◌, ◌≤◌, inl, inr, Bool, true, false, List, [], ◌∷◌, length, get_or, set, refl, sym, ap, subst, ◌∙◌, arith, cond, eq-eqb, bit_xor}
use Rattle.std.specs.Prelude.{slice_index, nat_le, ◌==◌, if◌then◌else◌, count_by}
use Rattle.std.proofs.lemmas.Bool.{cases_eq, cases_Bool, false≢true}
use Rattle.std.proofs.lemmas.Bool.Decides.{nat_tests}
use Rattle.std.proofs.lemmas.Nat.{xor_comm}
use Rattle.std.proofs.lemmas.List.Sums.{sum_by-set}
use Rattle.std.specs.Int.Bits.{xor_zero_l, xor_zero_r}
use lib.Bits.{xor_assoc}
use Rattle.dg_parity.specs.Exclusive.{xor_upto, with_at}
use Rattle.dg_parity.specs.Stripes.{put, written, next_parity, IsEven, IsParity}
use Rattle.dg_parity.specs.Groups.{is_out, is_lost}
use Rattle.dg_parity.specs.declared.groups.Group.{Group}
use Rattle.dg_parity.specs.declared.stripes.Spot.{Spot}
use Rattle.dg_parity.proofs.BytesLemmas.{is_inside, place_is, Before, Inside, Behind, inside-true, inside-before, inside-behind}
use Rattle.dg_parity.proofs.ExclusiveLemmas.{xor-same, xor-others, xor-parity, xor-written, with-same, with-other}
use Rattle.dg_parity.proofs.MarkLemmas.{count-step, one-of}
use Rattle.dg_parity.proofs.HoldLemmas.{put-other, put-inside, put-outside}
use Rattle.dg_parity.proofs.MemberLemmas.{written-outside, written-beside, written-inside}

-- ---- marks

one-mark : (xs : List Bool) (i : ℕ) → get_or xs i false ≡ true → 1 ≤ count_by (λ x. x) xs
one-mark [] i h = absurd (false≢true h)
one-mark (x ∷ xs) zero h = omega (arith, count-step x xs, one-of x h)
one-mark (x ∷ xs) (suc i) h = omega (arith, count-step x xs, one-mark xs i h)

two-marks : (xs : List Bool) (i j : ℕ) → i ≢ j → get_or xs i false ≡ true → get_or xs j false ≡ true → 2 ≤ count_by (λ x. x) xs
two-marks [] i j ne a b = absurd (false≢true a)
two-marks (x ∷ xs) zero zero ne a b = absurd (ne refl)
two-marks (x ∷ xs) zero (suc j) ne a b = omega (arith, count-step x xs, one-of x a, one-mark xs j b)
two-marks (x ∷ xs) (suc i) zero ne a b = omega (arith, count-step x xs, one-of x b, one-mark xs i a)
two-marks (x ∷ xs) (suc i) (suc j) ne a b = omega (arith, count-step x xs, two-marks xs i j (λ e. ne (ap suc e)) a b)

pub two-out : (group : Group) (i j : ℕ) → i ≢ j → is_out group i ≡ true → is_out group j ≡ true → is_lost group ≡ true
two-out group i j ne a b = let two = two-marks group.out i j ne a b in grind (arith, nat_tests)

one-most : (x : Bool) → cond {A = ℕ} x 1 0 ≤ 1
one-most true = omega arith
one-most false = omega arith

-- one mark more takes no mark away
pub lost-set : (xs : List Bool) (j : ℕ) → j < length xs → nat_le 2 (count_by (λ x. x) xs) ≡ true → nat_le 2 (count_by (λ x. x) (set xs j true)) ≡ true
lost-set xs j lt h =
    let step = sum_by-set (λ (y : Bool). cond {A = ℕ} y 1 0) xs j true false lt in
    let most = one-most (get_or xs j false) in
    let more : count_by (λ x. x) xs ≤ count_by (λ x. x) (set xs j true) = omega (arith, step, most) in
    grind (arith, nat_tests)

pub others-in : (group : Group) (a j : ℕ) → is_lost group ≡ false → is_out group a ≡ true → j ≢ a → is_out group j ≡ false
others-in group a j alive out ne = elim (cases_Bool (is_out group j)) [ inr in0 ↦ in0 | inl in1 ↦ absurd (false≢true (sym alive ∙ two-out group j a ne in1 out)) ]

-- of two groups that aren't lost one of the first three disks is in, in both
pub both-in : (a b : Group) → is_lost a ≡ false → is_lost b ≡ false → (p : ℕ) × (p < 3) × (is_out a p ≡ false) × (is_out b p ≡ false)
both-in a b alive alive2 = elim (cases_Bool (is_out a 0)) [
  | inl out ↦ elim (cases_Bool (is_out b 1)) [
    | inr in1 ↦ (1, omega arith, others-in a 0 1 alive out (λ e. absurd (omega (arith, e))), in1)
    | inl out1 ↦ (2, omega arith, others-in a 0 2 alive out (λ e. absurd (omega (arith, e))), others-in b 1 2 alive2 out1 (λ e. absurd (omega (arith, e))))
  ]
  | inr in0 ↦ elim (cases_Bool (is_out b 0)) [
    | inr in1 ↦ (0, omega arith, in0, in1)
    | inl out ↦ elim (cases_Bool (is_out a 1)) [
      | inr in1 ↦ (1, omega arith, in1, others-in b 0 1 alive2 out (λ e. absurd (omega (arith, e))))
      | inl out1 ↦ (2, omega arith, others-in a 1 2 alive out1 (λ e. absurd (omega (arith, e))), others-in b 0 2 alive2 out (λ e. absurd (omega (arith, e))))
    ]
  ]
]

-- ---- the parity of a piece

pub parity-changed : (v fa fp : ℕ) → bit_xor (bit_xor v fa) fp ≡ bit_xor fp (bit_xor fa v)
parity-changed v fa fp = xor_comm (bit_xor v fa) fp ∙ ap (bit_xor fp) (xor_comm v fa)

pub parity-made : (f : ℕ → ℕ) (a p v n : ℕ) → a < n → p < n → a ≢ p → xor_upto f n ≡ 0
    → bit_xor v (xor_upto (with_at (with_at f a 0) p 0) n) ≡ bit_xor (f p) (bit_xor (f a) v)
parity-made f a p v n ha hp ne e =
    ap (bit_xor v) (xor-parity f a p 0 n ha hp (λ s. ne (sym s)) e ∙ ap (bit_xor (f p)) (xor_zero_r (f a)))
    ∙ xor_comm v (bit_xor (f p) (f a)) ∙ xor_assoc (f p) (f a) v

twice : (f : ℕ → ℕ) (a j : ℕ) → with_at (with_at f a 0) a 0 j ≡ with_at f a 0 j
twice f a j = elim (cases_eq j a) [
  | inl e ↦ subst (λ (i : ℕ). with_at (with_at f a 0) a 0 i ≡ with_at f a 0 i) (sym e) (with-same (with_at f a 0) a 0 ∙ sym (with-same f a 0))
  | inr ne ↦ with-other (with_at f a 0) a 0 j ne
]

-- where a disk is out, what it has is what the others have together
pub made-up : (f : ℕ → ℕ) (a n : ℕ) → a < n → xor_upto f n ≡ 0 → bit_xor 0 (xor_upto (with_at (with_at f a 0) a 0) n) ≡ f a
made-up f a n ha e =
    xor_zero_l (xor_upto (with_at (with_at f a 0) a 0) n)
    ∙ xor-same (with_at (with_at f a 0) a 0) (with_at f a 0) n (λ j lt. twice f a j)
    ∙ xor-others f a n ha e

-- ---- what is written

eqb-not : (i a : ℕ) → i ≢ a → (i == a) ≡ false
eqb-not i a ne = grind (arith, nat_tests)

written-parity : (has : ℕ → ℕ → ℕ) (a p place k : ℕ) (piece : List ℕ) → a ≢ p → k < length piece
    → written has a p place piece p (place + k) ≡ next_parity has a p (place + k) (slice_index piece k)
written-parity has a p place k piece ne lt =
    ap (λ (b : Bool). if b then (if p == a then slice_index piece (place + k - place) else if p == p then next_parity has a p (place + k) (slice_index piece (place + k - place)) else has p (place + k)) else has p (place + k)) (inside-true place (length piece) (place + k) (omega arith) (omega arith))
    ∙ ap (λ (b : Bool). if b then slice_index piece (place + k - place) else if p == p then next_parity has a p (place + k) (slice_index piece (place + k - place)) else has p (place + k)) (eqb-not p a (λ e. ne (sym e)))
    ∙ ap (λ (b : Bool). if b then next_parity has a p (place + k) (slice_index piece (place + k - place)) else has p (place + k)) (eq-eqb p p refl)
    ∙ ap (λ (i : ℕ). next_parity has a p (place + k) (slice_index piece i)) (omega arith)

both-outside : (has : ℕ → ℕ → ℕ) (spot : Spot) (piece row : List ℕ) (i x : ℕ)
    → is_inside spot.place (length piece) x ≡ false → is_inside spot.place (length row) x ≡ false
    → put (put has spot.disk spot.place piece) spot.parity spot.place row i x ≡ written has spot.disk spot.parity spot.place piece i x
both-outside has spot piece row i x e f =
    put-outside (put has spot.disk spot.place piece) spot.parity spot.place i x row f
    ∙ put-outside has spot.disk spot.place i x piece e
    ∙ sym (written-outside has spot.disk spot.parity spot.place i x piece e)

both-inside : (has : ℕ → ℕ → ℕ) (spot : Spot) (piece row : List ℕ) (i x : ℕ) → spot.disk ≢ spot.parity → length row ≡ length piece
    → (i ≡ spot.parity → IsParity has spot piece row) → spot.place ≤ x → x < spot.place + length piece
    → put (put has spot.disk spot.place piece) spot.parity spot.place row i x ≡ written has spot.disk spot.parity spot.place piece i x
both-inside has spot piece row i x apart size right low high =
    let k = x - spot.place in
    let is : x ≡ spot.place + k = omega arith in
    let within : k < length piece = omega arith in
    elim (cases_eq i spot.parity) [
      | inl e ↦
          subst (λ (j : ℕ). put (put has spot.disk spot.place piece) spot.parity spot.place row j x ≡ written has spot.disk spot.parity spot.place piece j x) (sym e)
          (put-inside (put has spot.disk spot.place piece) spot.parity spot.place x row low (omega arith)
          ∙ right e k within
          ∙ sym (written-parity has spot.disk spot.parity spot.place k piece apart within)
          ∙ ap (written has spot.disk spot.parity spot.place piece spot.parity) (sym is))
      | inr np ↦ put-other (put has spot.disk spot.place piece) spot.parity spot.place i x row np ∙ elim (cases_eq i spot.disk) [
        | inl e ↦
            subst (λ (j : ℕ). put has spot.disk spot.place piece j x ≡ written has spot.disk spot.parity spot.place piece j x) (sym e)
            (put-inside has spot.disk spot.place x piece low high
            ∙ sym (written-inside has spot.disk spot.parity spot.place k piece within)
            ∙ ap (written has spot.disk spot.parity spot.place piece spot.disk) (sym is))
        | inr na ↦ put-other has spot.disk spot.place i x piece na ∙ sym (written-beside has spot.disk spot.parity spot.place i x piece na np)
      ]
    ]

-- the piece, and then the parity
pub put-both : (has : ℕ → ℕ → ℕ) (spot : Spot) (piece row : List ℕ) (i x : ℕ) → spot.disk ≢ spot.parity → length row ≡ length piece
    → (i ≡ spot.parity → IsParity has spot piece row)
    → put (put has spot.disk spot.place piece) spot.parity spot.place row i x ≡ written has spot.disk spot.parity spot.place piece i x
put-both has spot piece row i x apart size right = elim (place_is spot.place (length piece) x) [
  | Before low ↦ both-outside has spot piece row i x (inside-before spot.place (length piece) x low) (inside-before spot.place (length row) x low)
  | Behind high ↦ both-outside has spot piece row i x (inside-behind spot.place (length piece) x high) (inside-behind spot.place (length row) x (omega arith))
  | Inside low high ↦ both-inside has spot piece row i x apart size right low high
]

-- what the disks have at a place inside the piece
inside-is : (has : ℕ → ℕ → ℕ) (a p place x j : ℕ) (piece : List ℕ) → is_inside place (length piece) x ≡ true
    → written has a p place piece j x ≡ with_at (with_at (λ i. has i x) p (next_parity has a p x (slice_index piece (x - place)))) a (slice_index piece (x - place)) j
inside-is has a p place x j piece e =
    ap (λ (b : Bool). if b then (if j == a then slice_index piece (x - place) else if j == p then next_parity has a p x (slice_index piece (x - place)) else has j x) else has j x) e

-- the exclusive or over all disks stays zero
pub even-written : (n size : ℕ) (has : ℕ → ℕ → ℕ) (a p place : ℕ) (piece : List ℕ) → a < n → p < n → a ≢ p → IsEven n size has → IsEven n size (written has a p place piece)
even-written n size has a p place piece ha hp ne even x range = elim (cases_Bool (is_inside place (length piece) x)) [
  | inr out0 ↦ xor-same (λ j. written has a p place piece j x) (λ j. has j x) n (λ j lt. written-outside has a p place j x piece out0) ∙ even x range
  | inl out1 ↦
      xor-same (λ j. written has a p place piece j x) (with_at (with_at (λ i. has i x) p (next_parity has a p x (slice_index piece (x - place)))) a (slice_index piece (x - place))) n
      (λ j lt. inside-is has a p place x j piece out1)
      ∙ xor-written (λ i. has i x) a p (slice_index piece (x - place)) n ha hp ne (even x range)
]

-- another disk than those two
pub added-unless : (f : ℕ → ℕ) (a b j v r : ℕ) → j ≢ a → j ≢ b → r ≡ bit_xor v (f j) → r ≡ bit_xor v (with_at (with_at f a 0) b 0 j)
added-unless f a b j v r na nb e = e ∙ ap (bit_xor v) (sym (with-other (with_at f a 0) b 0 j nb ∙ with-other f a 0 j na))
