-- The least missing placement of each boundary, and the next one to be met.
use Rattle.std.specs.Prelude.{◌≡◌, ◌<◌, ◌≤◌, ℕ, Bool, true, false, List, slice_index}
use Rattle.dg_model.specs.Moves.{is_missing}
use Rattle.dg_model.specs.Tables.{Table, used_in}

-- block b is the least one from `from` on whose placement on boundary s is missing, or the number of blocks where none is
pub record IsFrom (targets : ℕ → ℕ → Bool) (table : Table) (s from b : ℕ) : Type 0 where
  pub after : from ≤ b
  pub most : b ≤ table.shape.n
  pub none : (c : ℕ) → from ≤ c → c < b → is_missing targets table c s ≡ false
  pub there : b < table.shape.n → is_missing targets table b s ≡ true

-- such a block for each boundary
abbrev pub AreCursors : (ℕ → ℕ → Bool) → Table → List ℕ → Type 0
AreCursors targets table next = (s : ℕ) → s < table.shape.b → IsFrom targets table s 0 (slice_index next s)

-- each boundary with a missing placement has more than K used slots
abbrev pub AllFull : Table → List ℕ → Type 0
AllFull table next = (s : ℕ) → s < table.shape.b → used_in table s ≤ table.shape.k → table.shape.n ≤ slice_index next s

-- of the boundaries that have at most K used slots, s has the least block, and is the lowest among equals
pub record IsLeastCursor (table : Table) (next : List ℕ) (s : ℕ) : Type 0 where
  pub within : s < table.shape.b
  pub block : slice_index next s < table.shape.n
  pub room : used_in table s ≤ table.shape.k
  pub least : (t : ℕ) → t < table.shape.b → used_in table t ≤ table.shape.k → slice_index next s ≤ slice_index next t
  pub lowest : (t : ℕ) → t < s → used_in table t ≤ table.shape.k → slice_index next s < slice_index next t

-- Of the first boundaries that have at most K used slots, `least` has the least block, and is the lowest among equals. The
-- block is the number of blocks where there is none.
pub record IsLeastBelow (table : Table) (next : List ℕ) (count least block : ℕ) : Type 0 where
  pub most : block ≤ table.shape.n
  pub none : (s : ℕ) → s < count → used_in table s ≤ table.shape.k → block ≤ slice_index next s
  pub lowest : (s : ℕ) → s < count → s < least → used_in table s ≤ table.shape.k → block < slice_index next s
  pub within : least ≤ count
  pub is : block < table.shape.n → (least < count) × (slice_index next least ≡ block) × (used_in table least ≤ table.shape.k)
