-- What stands beside the saved state of an array that keeps what was saved last, as bytes. They are this project's own.
use Rattle.std.specs.Prelude.{◌≤◌, ◌<◌, ◌^◌, ◌++◌, ℕ, List, ◌∷◌, length, flat_map}
use Rattle.std.specs.List.{All}
use Rattle.std.specs.List.Sorted.{IsStrictlyIncreasing}
use Rattle.byteorder.specs.Endian.{little_bytes}
use Rattle.dg_model.specs.Lives.{AreLive}
use Rattle.dg_regroup.specs.declared.extras.Extra.{Extra}

-- these boundaries may be in use of an array with so many
pub record MayBeLive (boundaries : ℕ) (live : List ℕ) : Type 0 where
  pub most : boundaries ≤ 16
  pub are : AreLive boundaries live

-- the form that it has: boundaries and blocks ascend, and each number fits its bytes
pub record IsExtra (extra : Extra) : Type 0 where
  pub size : extra.length < 2 ^ 64
  pub boundaries : MayBeLive extra.boundaries extra.live
  pub few : length extra.cut < 2 ^ 32
  pub blocks : All (λ b. b < 2 ^ 32) extra.cut
  pub ascend : IsStrictlyIncreasing extra.cut

-- ---- the bytes

-- the members' length, how many boundaries there are, how many are in use, and these
abbrev pub front_bytes : ℕ → ℕ → List ℕ → List ℕ
front_bytes size boundaries live = little_bytes 8 size ++ boundaries ∷ length live ∷ live

-- how many numbers there are, and these
abbrev pub numbers_bytes : List ℕ → List ℕ
numbers_bytes numbers = little_bytes 4 (length numbers) ++ flat_map (little_bytes 4) numbers

abbrev pub extra_bytes : Extra → List ℕ
extra_bytes extra = front_bytes extra.length extra.boundaries extra.live ++ numbers_bytes extra.cut
