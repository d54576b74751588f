-- The numbers of each kind, kind after kind.
use Rattle.std.specs.Prelude.{ℕ, List, [], ◌∷◌, ◌++◌, map}
use Rattle.ufs_model.specs.declared.malformations.BadKind.{BadKind}

-- a kind with each of its numbers
abbrev pub pairs_of : BadKind → List ℕ → List (BadKind × ℕ)
pairs_of kind numbers = map (λ n. (kind, n)) numbers

-- some kinds with all their numbers
abbrev pub listed : (BadKind → List ℕ) → List BadKind → List (BadKind × ℕ)
listed numbers [] = []
listed numbers (kind ∷ kinds) = pairs_of kind (numbers kind) ++ listed numbers kinds
