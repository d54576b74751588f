-- Numbers of a range that pass a test.
use Rattle.std.proofs.Common.{◌≡◌, ℕ, ◌+◌, ◌∷◌, [], ◌++◌, Bool, if◌then◌else◌, arith}
use Rattle.std.specs.List.{range_with_len}
use Rattle.std.proofs.lemmas.List.{map-id}
use Rattle.std.proofs.lemmas.List.FromFn.{filter_of_map_range_with_len_more, map-range_with_len_more}
use Rattle.ufs_build.specs.Traces.{numbers_where}

-- one number more
pub where_more : (test : ℕ → Bool) (n : ℕ) → numbers_where test (n + 1) ≡ numbers_where test n ++ (if test n then n ∷ [] else [])
where_more test n = simp map-id at (filter_of_map_range_with_len_more test (λ (x : ℕ). x) 0 n n (omega arith))

pub range_more : (n : ℕ) → range_with_len 0 (n + 1) ≡ range_with_len 0 n ++ n ∷ []
range_more n = simp map-id at (map-range_with_len_more (λ (x : ℕ). x) 0 n n (omega arith))
