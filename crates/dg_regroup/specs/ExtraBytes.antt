-- Bytes that say what stands beside a saved state, or don't.
use Rattle.std.specs.Prelude.{◌≡◌, ◌<◌, ◌^◌, ◌++◌, ℕ, List, length}
use Rattle.std.specs.List.{All}
use Rattle.dg_regroup.specs.Extras.{IsExtra, extra_bytes, front_bytes, numbers_bytes}
use Rattle.dg_regroup.specs.declared.extras.Extra.{Extra}

-- they are those of none
abbrev pub HasNoExtra : List ℕ → Type 0
HasNoExtra bytes = (extra : Extra) → IsExtra extra → bytes ≡ extra_bytes extra → ⊥

-- they begin with such a front
pub record SaysFront (bytes : List ℕ) (size boundaries : ℕ) (live rest : List ℕ) : Type 0 where
  pub fits : size < 2 ^ 64
  pub short : length live < 256
  pub says : bytes ≡ front_bytes size boundaries live ++ rest

abbrev pub HasNoFront : List ℕ → Type 0
HasNoFront bytes = (size boundaries : ℕ) (live rest : List ℕ) → SaysFront bytes size boundaries live rest → ⊥

-- they are these numbers
pub record SaysNumbers (bytes numbers : List ℕ) : Type 0 where
  pub short : length numbers < 2 ^ 32
  pub fit : All (λ b. b < 2 ^ 32) numbers
  pub says : bytes ≡ numbers_bytes numbers

abbrev pub HasNoNumbers : List ℕ → Type 0
HasNoNumbers bytes = (numbers : List ℕ) → SaysNumbers bytes numbers → ⊥
