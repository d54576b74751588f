-- Which block gives up a site first where room is wanted: the least one with more than one site. The rule is this project's own.
use Rattle.std.specs.Prelude.{◌<◌, ◌≤◌, ℕ, length}
use Rattle.dg_model.specs.Tables.{Table, sites_in}

-- no block has more than one site
abbrev pub HasNoSpread : Table → Type 0
HasNoSpread table = (b : ℕ) → length (sites_in table b) ≤ 1

-- the block has more than one site, and no lower one has
pub record IsLeastSpread (table : Table) (block : ℕ) : Type 0 where
  pub spread : 1 < length (sites_in table block)
  pub least : (b : ℕ) → 1 < length (sites_in table b) → block ≤ b
