-- Where all boundaries are in use and no block was cut: places are numbers, and what is gone is gone by its sites. A library for the crates
-- above.
use Rattle.std.proofs.Common.{◌≡◌, ◌+◌, ◌<◌, ◌≤◌, ◌==◌, ℕ, Bool, true, false, refl, sym, subst, arith, ◌||◌, replicate}
use Rattle.std.specs.List.{range_with_len}
use Rattle.std.specs.Prelude.{nat_lt, slice_set}
use Rattle.std.proofs.lemmas.Bool.{ltb-false, ltb-true}
use Rattle.std.proofs.lemmas.Bool.Decides.{nat_tests}
use Rattle.std.proofs.lemmas.List.{get_or-replicate, get_or_past, length-replicate, set-get_or}
use Rattle.std.proofs.lemmas.List.FromFn.{get_or-range_with_len, length-range_with_len}
use Rattle.std.proofs.lemmas.List.Sums.{position_or_len_is}
use Rattle.dg_model.specs.Lives.{all_live, place_in}
use Rattle.dg_model.specs.Marks.{is_marked}

apart_below : (k s : ℕ) → k < s → (k == s) ≡ false
apart_below k s less = grind (arith, nat_tests)

same_at : (x s : ℕ) → x ≡ s → (x == s) ≡ true
same_at x s e = grind (arith, nat_tests)

-- the place of a boundary is its number
pub place_whole : (b s : ℕ) → s < b → place_in (all_live b) s ≡ s
place_whole b s less =
    position_or_len_is (λ t. t == s) (range_with_len 0 b) s 0 (omega (arith, less, length-range_with_len 0 b))
    (λ k low. rw (get_or-range_with_len 0 b k 0 (omega (arith, low, less))) (apart_below (0 + k) s (omega (arith, low))))
    (λ within. rw (get_or-range_with_len 0 b s 0 less) (same_at (0 + s) s (omega arith)))

-- what is no boundary has the place behind the last
pub place_beyond : (b s : ℕ) → b ≤ s → place_in (all_live b) s ≡ b
place_beyond b s beyond =
    position_or_len_is (λ t. t == s) (range_with_len 0 b) b 0 (omega (arith, length-range_with_len 0 b))
    (λ k low. rw (get_or-range_with_len 0 b k 0 low) (apart_below (0 + k) s (omega (arith, low, beyond))))
    (λ within. absurd (omega (arith, within, length-range_with_len 0 b)))

-- ---- no block was cut

marked_by : (n b : ℕ) (low : Bool) → nat_lt b n ≡ low → is_marked (replicate n false) b ≡ false
marked_by n b true e = get_or-replicate n b false false (ltb-true b n e)
marked_by n b false e = get_or_past (replicate n false) b false (omega (arith, ltb-false b n e, length-replicate n false))

-- no block is marked
pub none_marked : (n b : ℕ) → is_marked (replicate n false) b ≡ false
none_marked n b = marked_by n b (nat_lt b n) refl

-- and none when one is unmarked
pub none_unmarked : (n b : ℕ) → slice_set (replicate n false) b false ≡ replicate n false
none_unmarked n b = subst (λ (x : Bool). slice_set (replicate n false) b x ≡ replicate n false) (none_marked n b) (set-get_or (replicate n false) b false)

-- what is gone is gone by its sites
pub gone_by_sites : (gone : Bool) (n b : ℕ) → (gone || is_marked (replicate n false) b) ≡ gone
gone_by_sites gone n b = subst (λ (x : Bool). (gone || x) ≡ gone) (sym (none_marked n b)) (or_false gone)
  where
    or_false : (x : Bool) → (x || false) ≡ x
    or_false true = refl
    or_false false = refl
