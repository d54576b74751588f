-- The numbers by which a file block is found through indirect blocks.
use Rattle.std.proofs.Common.{◌≡◌, ◌∙◌, ℕ, ◌+◌, ◌-◌, ◌*◌, ◌/◌, ◌%◌, ◌^◌, ◌<◌, ◌≤◌, sym, ap, arith}
use Rattle.std.specs.Int.{div_ceil}
use native.Mathlib.Numerals.{unary_clauses}
use Rattle.std.proofs.Math.Nat.{div-add-mod', div-div-eq-div-mul, div-lt_iff_lt-mul, lt_of_mul-lt-mul_right, mul-le-mul, one-mul, pow-suc}
use Rattle.std.proofs.lemmas.Grind.{div_ceil_times}
use Rattle.std.proofs.lemmas.Nat.{div-mul-add, mod_below}

pub two_powers : (n : ℕ) → n ^ 2 ≡ n * n
two_powers n =
    let none : n ^ 0 ≡ 1 = simp unary_clauses in
    let one : n ^ 1 ≡ n = pow-suc n 0 ∙ ap (λ k. k * n) none ∙ one-mul n in
    pow-suc n 1 ∙ ap (λ k. k * n) one

-- a file of less than 2^32 bytes has at most 2^20 file blocks
pub count_few : (s b : ℕ) → 4096 ≤ b → s < 2 ^ 32 → div_ceil s b ≤ 2 ^ 20
count_few s b large small =
    let bound = (div_ceil_times s b (omega arith)).1 in
    let less : div_ceil s b * b < (2 ^ 20 + 1) * b = omega arith in
    let below = lt_of_mul-lt-mul_right b less in omega arith

-- a quotient by its remainder
pub quotient_is : (m w q r : ℕ) → m ≡ q * w + r → r < w → m / w ≡ q
quotient_is m w q r e low = ap (λ (x : ℕ). x / w) e ∙ div-mul-add q w r low

-- ---- through one block

pub one_place : (w m : ℕ) → m < w → m / w ≡ 0
one_place w m low = quotient_is m w 0 m (let e : m ≡ 0 * w + m = omega arith in e) low

-- ---- through two

pub two_index : (w m : ℕ) → 0 < w → w ≤ m → m / w ≡ 1 + 0 * w + (m - w) / w
two_index w m some low =
    let split = div-add-mod' (m - w) w in
    let sum : (1 + 0 * w + (m - w) / w) * w ≡ w + (m - w) / w * w = grind arith in
    quotient_is m w (1 + 0 * w + (m - w) / w) ((m - w) % w) (omega arith) (mod_below (m - w) w some)

pub two_place : (w m : ℕ) → w ≤ m → (1 + 0 * w + (m - w) / w) * w + (m - w) % w ≡ m
two_place w m low =
    let split = div-add-mod' (m - w) w in
    let sum : (1 + 0 * w + (m - w) / w) * w ≡ w + (m - w) / w * w = grind arith in
    omega arith

-- ---- through three

-- the parts of a number of a block below three
pub record AreThree (w y : ℕ) : Type 0 where
  pub quotient : y / w ^ 2 ≡ y / w / w
  pub top : y / w ^ 2 < w
  pub upper : y / w / w * w + y / w % w ≡ y / w
  pub lower : y / w * w + y % w ≡ y
  pub square : w ^ 2 ≡ w * w
  pub none : y / (w * w * w) ≡ 0

pub three_parts : (w y : ℕ) → 1024 ≤ w → y < 2 ^ 30 → AreThree w y
three_parts w y large small =
    let square = two_powers w in
    let many : 1024 * 1024 ≤ w * w = mul-le-mul {n₁ = 1024} {m₁ = 1024} large large in
    let most : 1024 * (1024 * 1024) ≤ w * (w * w) = mul-le-mul {n₁ = 1024} {m₁ = 1024 * 1024} large many in
    let turn : w * w * w ≡ w * (w * w) = grind arith in
    record {
      quotient = ap (λ (x : ℕ). y / x) square ∙ sym (div-div-eq-div-mul y w w);
      top = rw square ((div-lt_iff_lt-mul {k = w * w} {x = y} {y = w} (omega arith)).1 (omega arith));
      upper = div-add-mod' (y / w) w;
      lower = div-add-mod' y w;
      square = square;
      none = one_place (w * w * w) y (omega arith);
    }

-- what stands at the two lower levels, for y = m - w - w ^ 2
pub three_first : (w y : ℕ) → AreThree w y → 1 + (1 + 0 * w + y / w ^ 2) * w + y / w % w ≡ 1 + w + y / w
three_first w y is =
    let e = is.quotient in
    let upper = is.upper in
    let sum : (1 + 0 * w + y / w / w) * w ≡ w + y / w / w * w = grind arith in
    ap (λ (q : ℕ). 1 + (1 + 0 * w + q) * w + y / w % w) e ∙ omega arith

pub three_one : (w m y : ℕ) → 0 < w → AreThree w y → m ≡ w + w * w + y → m / w ≡ 1 + w + y / w
three_one w m y some is e =
    let lower = is.lower in
    let sum : (1 + w + y / w) * w ≡ w + w * w + y / w * w = grind arith in
    quotient_is m w (1 + w + y / w) (y % w) (omega arith) (mod_below y w some)

pub three_two : (w m y : ℕ) → 0 < w * w → AreThree w y → m ≡ w + w * w + y → (m - w) / (w * w) ≡ 1 + 0 * w + y / w ^ 2
three_two w m y some is e =
    let split = div-add-mod' y (w * w) in
    let square = is.square in
    let sum : (1 + 0 * w + y / (w * w)) * (w * w) ≡ w * w + y / (w * w) * (w * w) = grind arith in
    quotient_is (m - w) (w * w) (1 + 0 * w + y / (w * w)) (y % (w * w)) (omega arith) (mod_below y (w * w) some)
    ∙ ap (λ (x : ℕ). 1 + 0 * w + y / x) (sym square)

pub three_place : (w m y : ℕ) → AreThree w y → m ≡ w + w * w + y → (1 + w + y / w) * w + y % w ≡ m
three_place w m y is e =
    let lower = is.lower in
    let sum : (1 + w + y / w) * w ≡ w + w * w + y / w * w = grind arith in
    omega arith
