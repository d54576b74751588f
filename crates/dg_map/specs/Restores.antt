-- Lists of sites that were kept elsewhere, and the map that is made of them.
use Rattle.std.specs.Prelude.{◌≡◌, ◌<◌, ◌≤◌, ℕ, List, [], length, map, slice_set}
use Rattle.std.specs.Global.{Vec}
use Rattle.std.specs.List.{All}
use Rattle.dg_model.specs.Shapes.{IsShape}
use Rattle.dg_model.specs.Tables.{IsFree, StandsIn, Table, count_on, sites_in}
use Rattle.dg_model.specs.declared.shapes.Shape.{Shape}
use Rattle.dg_model.specs.declared.sites.Site.{Site}

-- the table of this shape in which each block has the sites of its list
abbrev pub table_with : Shape → List (Vec Site) → Table
table_with shape lists = record { shape = shape; rows = map (λ (v : Vec Site). v.items) lists }

-- each block has a list; boundaries are below B and slots at most K, no slot stands under two blocks, and no block has two
-- sites on one boundary. The bound on used slots that a table keeps follows
pub record AreSites (table : Table) : Type 0 where
  pub shape : IsShape table.shape
  pub size : length table.rows ≡ table.shape.n
  pub boundaries : (b s slot : ℕ) → StandsIn table b s slot → s < table.shape.b
  pub slots : (b s slot : ℕ) → StandsIn table b s slot → slot ≤ table.shape.k
  pub one_block : (a b s slot : ℕ) → StandsIn table a s slot → StandsIn table b s slot → a ≡ b
  pub one_site : (b s : ℕ) → count_on s (sites_in table b) ≤ 1

-- the site is one of the array, and no block stands in it
pub record IsOpen (table : Table) (site : Site) : Type 0 where
  pub boundary : site.boundary < table.shape.b
  pub slot : site.slot ≤ table.shape.k
  pub free : IsFree table site.boundary site.slot

-- a block without sites can be given these
pub record CanHave (table : Table) (block : ℕ) (sites : List Site) : Type 0 where
  pub within : block < table.shape.n
  pub none : sites_in table block ≡ []
  pub open_sites : All (IsOpen table) sites
  pub one_site : (s : ℕ) → count_on s sites ≤ 1

-- the table once the block has these sites
abbrev pub set_sites : Table → ℕ → List Site → Table
set_sites table block sites = record table { rows = slice_set table.rows block sites }

-- the blocks below a number have their sites, and no other block has one
pub record IsRestoredBelow (whole now : Table) (count : ℕ) : Type 0 where
  pub shape : now.shape ≡ whole.shape
  pub before : (b : ℕ) → b < count → sites_in now b ≡ sites_in whole b
  pub after : (b : ℕ) → count ≤ b → sites_in now b ≡ []
