-- The numbers of which something holds, one after the other.
use Rattle.std.specs.Option.{is_none}
use Rattle.std.specs.Prelude.{ℕ, ◌<◌, ◌↔◌, ◌++◌, Bool, List, [], ◌∷◌, Contains, AllPairs, Option, MatchOption, slice_get, if◌then◌else◌}

-- the numbers, and this one where it holds of this one too
abbrev pub noted : List ℕ → ℕ → Bool → List ℕ
noted numbers n holds = numbers ++ (if holds then n ∷ [] else [])

-- all of those below a bound, each once, ascending
pub record AreAllBelow (holds : ℕ → Type 0) (bound : ℕ) (numbers : List ℕ) : Type 0 where
  pub each : (n : ℕ) → Contains numbers n ↔ ((n < bound) × holds n)
  pub ascend : AllPairs ◌<◌ numbers

-- the first of some numbers
abbrev pub first_in : List ℕ → Option ℕ
first_in numbers = slice_get numbers 0

-- there are none
abbrev pub has_none : List ℕ → Bool
has_none numbers = is_none (first_in numbers)

-- the least number of which something holds, or none
abbrev pub IsLeast : (ℕ → Type 0) → Option ℕ → Type 0
IsLeast holds r = MatchOption r ((m : ℕ) → holds m → ⊥) (λ n. holds n × ((m : ℕ) → m < n → holds m → ⊥))
