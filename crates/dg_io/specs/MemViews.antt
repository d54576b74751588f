-- What a view in memory means.
use Rattle.std.specs.Prelude.{◌≡◌, ◌+◌, ◌*◌, ◌<◌, ◌==◌, nat_le, ◌&&◌, ℕ, Bool, List, length, replicate, slice_index_or, slice_range}
use Rattle.std.specs.List.{list_any}
use Rattle.dg_io.specs.declared.memory_views.Loss.{Loss}

-- the image has these blocks, end to end
pub record IsImage (image : List ℕ) (count size : ℕ) (blocks : List (List ℕ)) : Type 0 where
  pub number : length blocks ≡ count
  pub each : (b : ℕ) → b < count → slice_index_or blocks b (replicate size 0) ≡ slice_range image (b * size) (b * size + size)

-- a block is gone where it became so at one of the fetches
abbrev pub gone_in : List Loss → ℕ → ℕ → Bool
gone_in losses fetches b = list_any (λ loss. (loss.block == b) && nat_le loss.fetch fetches) losses
