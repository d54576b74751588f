-- What stands beside the saved state of a volume: its form, and the room that it takes.
use Rattle.std.proofs.Common.{◌≡◌, ◌<◌, ◌≤◌, ◌+◌, ◌*◌, ◌^◌, ℕ, Bool, List, [], ◌∷◌, length, ap, refl, arith}
use Rattle.std.specs.Prelude.{IfSome, None, Option, Some}
use Rattle.std.specs.List.{flat_map, range_with_len}
use Rattle.byteorder.specs.Endian.{little_bytes}
use Rattle.std.proofs.lemmas.List.{length-append}
use Rattle.std.proofs.lemmas.List.Concat.{flat_map-cons}
use Rattle.std.proofs.lemmas.List.Elements.{All-filter}
use Rattle.std.proofs.lemmas.List.FromFn.{get_or-range_with_len, length-range_with_len}
use Rattle.std.proofs.lemmas.List.Kept.{IsStrictlyIncreasing-filter}
use Rattle.std.proofs.lemmas.List.Sums.{count_by-le-length, length-filter}
use Rattle.dg_model.specs.Lives.{AreLive}
use Rattle.dg_model.specs.Marks.{is_marked, marked}
use Rattle.dg_regroup.specs.Extras.{IsExtra, extra_bytes, front_bytes, numbers_bytes}
use Rattle.dg_volume.proofs.OrderLaws.{range_ascends}

-- no more blocks are marked than there are
few_marked : (marks : List Bool) → length (marked marks) ≤ length marks
few_marked marks =
    let numbers = range_with_len 0 (length marks) in
    omega (arith, length-filter (λ b. is_marked marks b) numbers, count_by-le-length (λ b. is_marked marks b) numbers, length-range_with_len 0 (length marks))

pub is_extra : (size boundaries : ℕ) (live : List ℕ) (marks : List Bool) → size < 2 ^ 64 → boundaries ≤ 16 → AreLive boundaries live → length marks < 2 ^ 32
    → IsExtra (record { length = size; boundaries = boundaries; live = live; cut = marked marks })
is_extra size boundaries live marks fits most are few =
    let numbers = range_with_len 0 (length marks) in
    record {
      size = fits;
      boundaries = record { most = most; are = are };
      few = omega (arith, few_marked marks, few);
      blocks = All-filter (λ b. is_marked marks b) (λ b. b < 2 ^ 32) numbers (λ k d low.
          let below : k < length marks = omega (arith, low, length-range_with_len 0 (length marks)) in
          omega (arith, get_or-range_with_len 0 (length marks) k d below, below, few));
      ascend = IsStrictlyIncreasing-filter (λ b. is_marked marks b) numbers (range_ascends (length marks));
    }

-- each number takes four bytes
numbers_length : (numbers : List ℕ) → length (flat_map (little_bytes 4) numbers) ≡ 4 * length numbers
numbers_length [] = omega arith
numbers_length (x ∷ xs) =
    let four : length (little_bytes 4 x) ≡ 4 = refl in
    omega (arith, ap length (flat_map-cons (little_bytes 4) x xs), length-append (little_bytes 4 x) (flat_map (little_bytes 4) xs), four, numbers_length xs)

pub extra_long : (size boundaries : ℕ) (live : List ℕ) (marks : List Bool) (n : ℕ) → length live ≤ 16 → length marks ≡ n
    → length (extra_bytes (record { length = size; boundaries = boundaries; live = live; cut = marked marks })) ≤ 30 + 4 * n
extra_long size boundaries live marks n few all =
    let cut = marked marks in
    let eight : length (little_bytes 8 size) ≡ 8 = refl in
    let four : length (little_bytes 4 (length cut)) ≡ 4 = refl in
    omega (
      arith,
      length-append (front_bytes size boundaries live) (numbers_bytes cut),
      length-append (little_bytes 8 size) (boundaries ∷ length live ∷ live),
      length-append (little_bytes 4 (length cut)) (flat_map (little_bytes 4) cut),
      eight,
      four,
      numbers_length cut,
      few_marked marks,
      few,
      all,
    )

-- they have room where there is that much
pub extra_fits : (room : Option ℕ) (most size : ℕ) → size ≤ most → IfSome room (λ n. most ≤ n) → IfSome room (λ n. size ≤ n)
extra_fits None most size less fits = tt
extra_fits (Some n) most size less fits = omega (arith, less, fits)
