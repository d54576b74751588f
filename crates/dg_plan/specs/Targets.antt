-- Where blocks are to stand, as a number for each.
use Rattle.std.specs.Prelude.{◌≡◌, ◌<◌, ◌==◌, ◌^◌, ℕ, Bool, List, length, slice_index}
use Rattle.std.specs.Int.{bit_at}
use Rattle.dg_model.specs.declared.homes.Home.{Home}
use Rattle.dg_plan.specs.declared.target_lists.Targets.{Targets}

-- how many blocks have a number
abbrev pub blocks_in : Targets → ℕ
blocks_in targets = length targets.of

-- whether block b is to stand on boundary s: bit s of its number
abbrev pub wants_of : Targets → ℕ → ℕ → Bool
wants_of targets b s = bit_at (slice_index targets.of b) s == 1

-- the homes of files
abbrev pub homes_of : Targets → List Home
homes_of targets = targets.homes

-- there is a number for each of n blocks, with a bit for each of 16 boundaries and no other
pub record FitsTargets (n : ℕ) (targets : Targets) : Type 0 where
  pub size : blocks_in targets ≡ n
  pub bits : (b : ℕ) → slice_index targets.of b < 2 ^ 16
