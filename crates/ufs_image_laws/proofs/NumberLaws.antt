-- Numbers that are read of bytes at a place.
use Rattle.std.proofs.Common.{◌≡◌, ◌∙◌, ℕ, ◌+◌, ◌-◌, ◌^◌, ◌%◌, ◌<◌, ◌≤◌, List, [], length, take, drop, sym, ap, arith}
use Rattle.std.proofs.Math.Nat.{div-one, mod-eq_of_lt}
use Rattle.std.proofs.lemmas.List.{append-nil, drop-drop, drop-take}
use Rattle.byteorder.specs.Endian.{big_bytes, big_number, little_bytes, little_number}
use Rattle.byteorder.specs.Numbers.{big_from-bytes, big_from-take, length-bytes_high_first, length-bytes_low_first, little_from-bytes, little_from-take}
use Rattle.ufs_build.specs.Parts.{number_bytes}
use Rattle.ufs_model.specs.Numbers.{number_at}
use Rattle.ufs_model.specs.declared.numbers.Endian.{Endian}
use Rattle.ufs_model.specs.declared.numbers.Endian.TheVariants.{Little, Big}
use Rattle.ufs_image_laws.specs.Reads.{Stands}

pub number_length : (endian : Endian) (count x : ℕ) → length (number_bytes endian count x) ≡ count
unfolding number_bytes
number_length Little count x = length-bytes_low_first 0 count x
number_length Big count x = length-bytes_high_first count x

little_back : (count x : ℕ) → little_number count (little_bytes count x) ≡ x % 256 ^ count
little_back count x =
    ap (little_number count) (sym (append-nil (little_bytes count x))) ∙ little_from-bytes count 0 x []
    ∙ ap (λ (y : ℕ). y % 256 ^ count) (div-one x)

big_back : (count x : ℕ) → big_number count (big_bytes count x) ≡ x % 256 ^ count
big_back count x = ap (big_number count) (sym (append-nil (big_bytes count x))) ∙ big_from-bytes count x []

-- the number of the first bytes
pub number_of_front : (endian : Endian) (count : ℕ) (bytes : List ℕ) (at n : ℕ) → at + count ≤ n → number_at endian count (take n bytes) at ≡ number_at endian count bytes at
unfolding number_at
number_of_front Little count bytes at n fits =
    let e : n ≡ at + (n - at) = omega arith in
    ap (λ (m : ℕ). little_number count (drop at (take m bytes))) e ∙ ap (little_number count) (drop-take at (n - at) bytes)
    ∙ little_from-take 0 count (n - at) (drop at bytes) (omega arith)
number_of_front Big count bytes at n fits =
    let e : n ≡ at + (n - at) = omega arith in
    ap (λ (m : ℕ). big_number count (drop at (take m bytes))) e ∙ ap (big_number count) (drop-take at (n - at) bytes)
    ∙ big_from-take 0 count (n - at) (drop at bytes) (omega arith)

-- the number behind some bytes
pub number_behind : (endian : Endian) (count : ℕ) (bytes : List ℕ) (base at : ℕ) → number_at endian count (drop base bytes) at ≡ number_at endian count bytes (base + at)
unfolding number_at
number_behind Little count bytes base at = ap (little_number count) (drop-drop at base bytes)
number_behind Big count bytes base at = ap (big_number count) (drop-drop at base bytes)

-- the number in some bytes of an image
pub number_in_area : (endian : Endian) (count : ℕ) (image : List ℕ) (base at n : ℕ) → at + count ≤ n
    → number_at endian count (take n (drop base image)) at ≡ number_at endian count image (base + at)
number_in_area endian count image base at n fits = number_of_front endian count (drop base image) at n fits ∙ number_behind endian count image base at

-- a number that was put somewhere is read there
pub number_read : (endian : Endian) (count x : ℕ) (image : List ℕ) (at : ℕ) → Stands image at (number_bytes endian count x) → number_at endian count image at ≡ x % 256 ^ count
unfolding number_bytes number_at
number_read Little count x image at is =
    let size = length-bytes_low_first 0 count x in
    sym (little_from-take 0 count count (drop at image) (omega arith)) ∙ ap (λ (n : ℕ). little_number count (take n (drop at image))) (sym size)
    ∙ ap (little_number count) is.are ∙ little_back count x
number_read Big count x image at is =
    let size = length-bytes_high_first count x in
    sym (big_from-take 0 count count (drop at image) (omega arith)) ∙ ap (λ (n : ℕ). big_number count (take n (drop at image))) (sym size)
    ∙ ap (big_number count) is.are ∙ big_back count x

-- a number of so many bytes as is
pub number_back : (endian : Endian) (count x : ℕ) (image : List ℕ) (at : ℕ) → x < 256 ^ count → Stands image at (number_bytes endian count x) → number_at endian count image at ≡ x
number_back endian count x image at low is = number_read endian count x image at is ∙ mod-eq_of_lt low
