-- Blocks that are copied to a boundary, and copies that are given up again.
use Rattle.std.specs.Prelude.{◌≡◌, ◌<◌, ℕ, true, List, [], ◌∷◌, length, map}
use Rattle.std.specs.List.{Contains}
use Rattle.dg_model.specs.Moves.{Action, copy_to, give_up}
use Rattle.dg_model.specs.Sites.{has_site}
use Rattle.dg_model.specs.Tables.{Table, count_on, sites_in}

-- each of these blocks is copied to boundary s
abbrev pub copies_to : ℕ → List ℕ → List Action
copies_to s blocks = map (λ b. copy_to b s) blocks

-- each of them gives up its site on boundary s
abbrev pub give_ups_on : ℕ → List ℕ → List Action
give_ups_on s blocks = map (λ b. give_up b s) blocks

-- no block stands twice
abbrev pub AreApart : List ℕ → Type 0
AreApart [] = Unit {0}
AreApart (b ∷ more) = (Contains more b → ⊥) × AreApart more

-- each of these blocks is written, and has no site on boundary s
pub record CanCopy (table : Table) (s : ℕ) (blocks : List ℕ) : Type 0 where
  pub within : (b : ℕ) → Contains blocks b → b < table.shape.n
  pub written : (b : ℕ) → Contains blocks b → has_site (sites_in table b) ≡ true
  pub none : (b : ℕ) → Contains blocks b → count_on s (sites_in table b) ≡ 0

-- each of these blocks has a site on boundary s, and another one
pub record CanGiveUp (table : Table) (s : ℕ) (blocks : List ℕ) : Type 0 where
  pub within : (b : ℕ) → Contains blocks b → b < table.shape.n
  pub one : (b : ℕ) → Contains blocks b → 0 < count_on s (sites_in table b)
  pub other : (b : ℕ) → Contains blocks b → 1 < length (sites_in table b)
