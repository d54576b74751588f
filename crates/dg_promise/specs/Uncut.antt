-- Volumes of which some blocks were cut. The rules are this project's own.
use Rattle.std.specs.Prelude.{◌≡◌, ℕ, Bool, false, List, Contains}
use Rattle.ufs_model.specs.Blocks.{Consulted, Volume, block_at}
use Rattle.dg_model.specs.Marks.{is_marked}

-- w has each block of v that isn't cut
abbrev pub KeepsUncut : ℕ → List Bool → Volume → Volume → Type 0
KeepsUncut l cut v w = (b : ℕ) → is_marked cut b ≡ false → block_at l w b ≡ block_at l v b

-- no block that was consulted is cut
abbrev pub NeedsNone : {A : Type 0} → List Bool → Consulted A → Type 0
NeedsNone cut read = (b : ℕ) → Contains read.needs b → is_marked cut b ≡ false
