-- Blocks of a volume, and their bytes without the zeros at the end.
use Rattle.std.proofs.Common.{◌≡◌, ◌<◌, ◌≤◌, ◌+◌, ◌-◌, ◌*◌, ◌==◌, ℕ, zero, suc, Bool, true, false, List, [], ◌∷◌, ◌++◌, length, drop, refl, sym, ◌∙◌, ap, inl, inr, arith, length-drop}
use Rattle.std.specs.Prelude.{◌||◌, not, replicate}
use Rattle.std.specs.List.{list_any}
use Rattle.std.proofs.lemmas.Bool.{cases_eq, ne_eqb}
use Rattle.std.proofs.lemmas.List.{length-take-le}
use Rattle.std.proofs.lemmas.List.Elements.{All-cons, All-head, All-nil, All-tail}
use Rattle.std.proofs.Math.Nat.{mul-le-mul_right}
use Rattle.dg_model.specs.Blocks.{in_front, padded, stripped, zeros}
use Rattle.dg_text.specs.Lines.{AreBytes}
use Rattle.ufs_build.specs.Traces.{block_in, is_written}

-- ---- without the zeros at the end

front_short : (x n : ℕ) (s : List ℕ) → length s ≤ n → length (in_front x s) ≤ suc n
front_short zero n [] low = omega arith
front_short (suc x) n [] low = omega arith
front_short zero n (y ∷ ys) low = omega (arith, low)
front_short (suc x) n (y ∷ ys) low = omega (arith, low)

pub stripped_short : (xs : List ℕ) → length (stripped xs) ≤ length xs
stripped_short [] = omega arith
stripped_short (x ∷ xs) = front_short x (length xs) (stripped xs) (stripped_short xs)

front_padded : (x n : ℕ) (s : List ℕ) → length s ≤ n → padded (suc n) (in_front x s) ≡ x ∷ padded n s
front_padded zero n [] low =
    let a : suc n - 0 ≡ suc (n - 0) = omega arith in
    ap (λ (k : ℕ). replicate k 0) a
front_padded (suc x) n [] low =
    let a : suc n - 1 ≡ n - 0 = omega arith in
    ap (λ (k : ℕ). suc x ∷ replicate k 0) a
front_padded zero n (y ∷ ys) low =
    let a : suc n - length (zero ∷ y ∷ ys) ≡ n - length (y ∷ ys) = omega arith in
    ap (λ (k : ℕ). zero ∷ y ∷ (ys ++ replicate k 0)) a
front_padded (suc x) n (y ∷ ys) low =
    let a : suc n - length (suc x ∷ y ∷ ys) ≡ n - length (y ∷ ys) = omega arith in
    ap (λ (k : ℕ). suc x ∷ y ∷ (ys ++ replicate k 0)) a

-- with zeros for the missing end they are the bytes again
pub padded_stripped : (xs : List ℕ) → padded (length xs) (stripped xs) ≡ xs
padded_stripped [] = refl
padded_stripped (x ∷ xs) = front_padded x (length xs) (stripped xs) (stripped_short xs) ∙ ap (λ (l : List ℕ). x ∷ l) (padded_stripped xs)

front_bytes : (x : ℕ) (s : List ℕ) → x < 256 → AreBytes s → AreBytes (in_front x s)
front_bytes zero [] low all = All-nil (λ (y : ℕ). y < 256)
front_bytes (suc x) [] low all = All-cons (λ (y : ℕ). y < 256) (suc x) [] low all
front_bytes zero (y ∷ ys) low all = All-cons (λ (y : ℕ). y < 256) zero (y ∷ ys) low all
front_bytes (suc x) (y ∷ ys) low all = All-cons (λ (y : ℕ). y < 256) (suc x) (y ∷ ys) low all

pub stripped_bytes : (xs : List ℕ) → AreBytes xs → AreBytes (stripped xs)
stripped_bytes [] all = all
stripped_bytes (x ∷ xs) all =
    front_bytes x (stripped xs) (All-head (λ (y : ℕ). y < 256) x xs all) (stripped_bytes xs (All-tail (λ (y : ℕ). y < 256) x xs all))

-- ---- blocks

-- a block of the volume has l bytes
pub block_size : (l n b : ℕ) (volume : List ℕ) → length volume ≡ n * l → b < n → length (block_in l volume b) ≡ l
block_size l n b volume size low =
    let more : (b + 1) * l ≤ n * l = mul-le-mul_right l (omega (arith, low)) in
    let split : (b + 1) * l ≡ b * l + l = grind arith in
    let rest : length (drop (b * l) volume) ≡ length volume - b * l = length-drop (b * l) volume in
    length-take-le l (drop (b * l) volume) (omega (arith, more, split, rest, size))

either : (a b : Bool) → (a || b) ≡ false → (a ≡ false) × (b ≡ false)
either true b e = cc
either false b e = (refl, e)

zero_byte : (x : ℕ) → not (x == 0) ≡ false → x ≡ 0
zero_byte x e = elim (cases_eq x 0) [
  | inl same ↦ same
  | inr other ↦ absurd (let ne = ne_eqb x 0 other in cc)
]

-- bytes of which none isn't zero
all_zero : (xs : List ℕ) → list_any (λ byte. not (byte == 0)) xs ≡ false → xs ≡ zeros (length xs)
all_zero [] none = refl
all_zero (x ∷ xs) none =
    let parts = either (not (x == 0)) (list_any (λ byte. not (byte == 0)) xs) none in
    let first = zero_byte x parts.0 in
    ap (λ (y : ℕ). y ∷ xs) first ∙ ap (λ (l : List ℕ). 0 ∷ l) (all_zero xs parts.1)

-- a block that isn't written is zeros
pub unwritten_zeros : (l n b : ℕ) (volume : List ℕ) → length volume ≡ n * l → b < n → is_written l volume b ≡ false → zeros l ≡ block_in l volume b
unfolding is_written
unwritten_zeros l n b volume size low none =
    ap zeros (sym (block_size l n b volume size low)) ∙ sym (all_zero (block_in l volume b) none)

-- a block as it is written
pub written_block : (l n b : ℕ) (volume : List ℕ) → length volume ≡ n * l → b < n → padded l (stripped (block_in l volume b)) ≡ block_in l volume b
written_block l n b volume size low =
    let block = block_in l volume b in
    ap (λ (k : ℕ). padded k (stripped (block_in l volume b))) (sym (block_size l n b volume size low)) ∙ padded_stripped (block_in l volume b)
