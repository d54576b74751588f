-- The places of boundaries among those in use.
use Rattle.std.proofs.Common.{◌≡◌, ◌∙◌, ◌<◌, ℕ, false, List, get_or, length, ap, arith}
use Rattle.std.specs.Prelude.{◌==◌}
use Rattle.std.specs.List.Sorted.{IsStrictlyIncreasing}
use Rattle.std.proofs.lemmas.Bool.Decides.{nat_tests}
use Rattle.std.proofs.lemmas.List.Kept.{AllPairs-from_increasing}
use Rattle.std.proofs.lemmas.List.Sums.{position_or_len_is}
use Rattle.dg_model.specs.Lives.{boundary_at, place_in}

-- the boundary at a place has this place
place_at : (live : List ℕ) (x : ℕ) → IsStrictlyIncreasing live → x < length live → place_in live (boundary_at live x) ≡ x
place_at live x rise within = position_or_len_is (λ t. t == boundary_at live x) live x 0 (omega (arith, within)) before (λ low. grind (arith, nat_tests))
  where
    before : (k : ℕ) → k < x → (get_or live k 0 == boundary_at live x) ≡ false
    before k less = let low : get_or live k 0 < get_or live x 0 = AllPairs-from_increasing live rise k x 0 less within in grind (arith, nat_tests)

-- the same of one that is read of the same list
pub place_of : (live read : List ℕ) (x : ℕ) → read ≡ live → IsStrictlyIncreasing live → x < length live → place_in live (boundary_at read x) ≡ x
place_of live read x same rise within = ap (λ (xs : List ℕ). place_in live (boundary_at xs x)) same ∙ place_at live x rise within

pub place_below : (live read : List ℕ) (x : ℕ) → read ≡ live → IsStrictlyIncreasing live → x < length live → place_in live (boundary_at read x) < length live
place_below live read x same rise within = let place = place_of live read x same rise within in omega (arith, place, within)
