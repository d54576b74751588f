-- The volumes that a view stands for, where one block of them is at hand and isn't read.
use Rattle.std.specs.Prelude.{◌≡◌, ◌<◌, ℕ, List, length, slice_set}
use Rattle.dg_io.specs.declared.views.View.{Ghosts}
use Rattle.ufs_model.specs.Blocks.{Volume, block_at}

-- a view stands for a volume, whose block has these bytes
abbrev pub StandsWith : {S : Type 0} → Ghosts S → S → ℕ → List ℕ → Volume → Type 0
StandsWith view old block bytes v = view.stands_for old v × (bytes ≡ block_at (view.size old) v block)

-- this holds of each volume that a view stood for, whose block has these bytes, where the view tells its blocks in the end
abbrev pub OnVolumes : {S : Type 0} → Ghosts S → S → S → ℕ → List ℕ → (Volume → Type 0) → Type 0
OnVolumes view old new block bytes P = view.tells new → (v : Volume) → view.stands_for old v → bytes ≡ block_at (view.size old) v block → P v

-- this holds of each volume and of what a write of the block makes of it, which the view stood for, where it tells its blocks in the end
abbrev pub OnWrites : {S : Type 0} → Ghosts S → S → S → ℕ → List ℕ → (Volume → Volume → Type 0) → Type 0
OnWrites view old new block bytes P =
    view.tells new → (v : Volume) → block < length v → view.stands_for old (slice_set v block bytes) → P v (slice_set v block bytes)

-- A volume is what a write of the block made of one of which something holds.
pub record IsWriteOf (block : ℕ) (bytes : List ℕ) (Was : Volume → Type 0) (w : Volume) : Type 0 where
  pub before : Volume
  pub inside : block < length before
  pub written : w ≡ slice_set before block bytes
  pub was : Was before
