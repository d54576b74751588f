-- Bits that were put into bytes are read.
use Rattle.std.proofs.Common.{◌≡◌, ◌∙◌, ℕ, zero, suc, ◌+◌, ◌-◌, ◌*◌, ◌/◌, ◌%◌, ◌^◌, ◌<◌, ◌≤◌, ◌==◌, not, Bool, true, false, List, length, take, drop, get_or, sym, ap, arith, inl, inr}
use Rattle.std.specs.Prelude.{if◌then◌else◌, slice_index, slice_index_or}
use Rattle.std.specs.Int.{bit_at, div_ceil}
use Rattle.std.proofs.Math.Nat.{div-add-mod', mul-le-mul_right, pow-suc}
use Rattle.std.proofs.lemmas.Bool.{cases_lt}
use Rattle.std.proofs.lemmas.Bool.Decides.{nat_tests}
use Rattle.std.proofs.lemmas.Grind.{div_ceil_times}
use Rattle.std.proofs.lemmas.List.{get_or-drop, get_or-take}
use Rattle.std.proofs.lemmas.List.FromFn.{get_or-map-range_with_len}
use Rattle.std.proofs.lemmas.Nat.{div_below, mod_below, pow_pos}
use Rattle.std.proofs.lemmas.Nat.Bits.{and_pow, bit_at_cat_high, bit_at_cat_low, bit_at_lowest}
use Rattle.ufs_model.specs.GroupMaps.{is_set}
use Rattle.ufs_build.specs.Images.{bit_sum, map_bytes}
use Rattle.ufs_image_laws.specs.Reads.{Stands}

-- 1 where a bit is set
abbrev pub digit : Bool → ℕ
digit true = 1
digit false = 0

digit_pow : (b : Bool) (i : ℕ) → (if b then 2 ^ i else 0) ≡ digit b * 2 ^ i
digit_pow true i = omega arith
digit_pow false i = omega arith

sum_more : (bits : List Bool) (start i : ℕ) → bit_sum bits start (suc i) ≡ digit (slice_index_or bits (start + i) false) * 2 ^ i + bit_sum bits start i
sum_more bits start i = let e = digit_pow (slice_index_or bits (start + i) false) i in omega (arith, e)

digit_small : (b : Bool) → digit b < 2
digit_small true = omega arith
digit_small false = omega arith

sum_small : (bits : List Bool) (start i : ℕ) → bit_sum bits start i < 2 ^ i
sum_small bits start zero = omega arith
sum_small bits start (suc i) =
    let rest = sum_small bits start i in
    let more = sum_more bits start i in
    let most : digit (slice_index_or bits (start + i) false) * 2 ^ i ≤ 1 * 2 ^ i =
    mul-le-mul_right (2 ^ i) (let d = digit_small (slice_index_or bits (start + i) false) in let h : digit (slice_index_or bits (start + i) false) ≤ 1 = omega arith in h) in
    let next : 2 ^ suc i ≡ 2 ^ i * 2 = pow-suc 2 i in
    omega (arith, rest, more, most, next)

digit_bit : (b : Bool) → bit_at (digit b) 0 ≡ digit b
digit_bit true = bit_at_lowest 1
digit_bit false = bit_at_lowest 0

sum_bit : (bits : List Bool) (start n j : ℕ) → j < n → bit_at (bit_sum bits start n) j ≡ digit (slice_index_or bits (start + j) false)
sum_bit bits start zero j low = absurd (omega arith)
sum_bit bits start (suc i) j low =
    ap (λ (x : ℕ). bit_at x j) (sum_more bits start i)
    ∙ elim (cases_lt j i) as (λ _. bit_at (digit (slice_index_or bits (start + i) false) * 2 ^ i + bit_sum bits start i) j ≡ digit (slice_index_or bits (start + j) false)) [
      | inl less ↦ bit_at_cat_low (digit (slice_index_or bits (start + i) false)) i (bit_sum bits start i) j less ∙ sum_bit bits start i j less
      | inr most ↦
          let same : j ≡ i = omega arith in
          bit_at_cat_high (digit (slice_index_or bits (start + i) false)) i (bit_sum bits start i) j (sum_small bits start i) most
          ∙ ap (bit_at (digit (slice_index_or bits (start + i) false))) (let e : j - i ≡ 0 = omega arith in e)
          ∙ digit_bit (slice_index_or bits (start + i) false) ∙ ap (λ (k : ℕ). digit (slice_index_or bits (start + k) false)) (sym same)
    ]

test_of : (b : Bool) (k : ℕ) → not (digit b * 2 ^ k == 0) ≡ b
test_of true k = let some = pow_pos k in grind (arith, nat_tests)
test_of false k = grind (arith, nat_tests)

pub set_is : (bytes : List ℕ) (start i : ℕ) (b : Bool) → bit_at (slice_index bytes (start + i / 8)) (i % 8) ≡ digit b → is_set bytes start i ≡ b
unfolding is_set
set_is bytes start i b e =
    ap (λ (x : ℕ). not (x == 0)) (and_pow (slice_index bytes (start + i / 8)) (i % 8) ∙ ap (λ (x : ℕ). x * 2 ^ (i % 8)) e) ∙ test_of b (i % 8)

-- a byte of what stands at a place
pub stands_at : (image : List ℕ) (at : ℕ) (bytes : List ℕ) (j : ℕ) → Stands image at bytes → j < length bytes → get_or image (at + j) 0 ≡ get_or bytes j 0
stands_at image at bytes j is low =
    sym (get_or-drop at image j 0) ∙ sym (get_or-take (length bytes) (drop at image) j 0 low) ∙ ap (λ (xs : List ℕ). get_or xs j 0) is.are

byte_of_map : (bits : List Bool) (q : ℕ) → q < div_ceil (length bits) 8 → get_or (map_bytes bits) q 0 ≡ bit_sum bits (8 * q) 8
unfolding map_bytes
byte_of_map bits q low = get_or-map-range_with_len (λ j. bit_sum bits (8 * j) 8) 0 (div_ceil (length bits) 8) q q 0 low (omega arith)

-- bit i of a map that stands in some bytes of an image
pub map_read : (image : List ℕ) (base n start : ℕ) (bits : List Bool) (i : ℕ) → length (map_bytes bits) ≡ div_ceil (length bits) 8 → start + length (map_bytes bits) ≤ n
    → Stands image (base + start) (map_bytes bits) → i < length bits → is_set (take n (drop base image)) start i ≡ get_or bits i false
map_read image base n start bits i size fits is low =
    let round = div_ceil_times (length bits) 8 (omega arith) in
    let most = round.0 in
    let byte : i / 8 < div_ceil (length bits) 8 = div_below i 8 (div_ceil (length bits) 8) (omega arith) (omega arith) in
    let place : base + (start + i / 8) ≡ base + start + i / 8 = omega arith in
    let here : slice_index (take n (drop base image)) (start + i / 8) ≡ bit_sum bits (8 * (i / 8)) 8 =
    get_or-take n (drop base image) (start + i / 8) 0 (omega arith) ∙ get_or-drop base image (start + i / 8) 0
    ∙ ap (λ (k : ℕ). get_or image k 0) place ∙ stands_at image (base + start) (map_bytes bits) (i / 8) is (rw size byte) ∙ byte_of_map bits (i / 8) byte in
    let split = div-add-mod' i 8 in
    let turn : 8 * (i / 8) + i % 8 ≡ i = omega (arith, split) in
    set_is (take n (drop base image)) start i (get_or bits i false)
    (ap (λ (x : ℕ). bit_at x (i % 8)) here ∙ sum_bit bits (8 * (i / 8)) 8 (i % 8) (mod_below i 8 (omega arith))
    ∙ ap (λ (k : ℕ). digit (slice_index_or bits k false)) turn)
