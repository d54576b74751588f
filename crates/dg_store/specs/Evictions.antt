-- Sites that were given up to make room, and how they are taken back.
use Rattle.std.specs.Prelude.{◌≡◌, ◌<◌, ◌++◌, ℕ, List, [], ◌∷◌, length}
use Rattle.dg_model.specs.Sites.{IsLeastSpread, has_site}
use Rattle.dg_model.specs.Tables.{Table, put_site, sites_in, without_site}
use Rattle.dg_model.specs.declared.sites.Site.{Site}
use Rattle.dg_store.specs.declared.sites.GivenUp.{GivenUp}

-- a site that was the last of its block's list, behind others
pub record IsLastSite (table : Table) (given : GivenUp) : Type 0 where
  pub within : given.block < table.shape.n
  pub others : List Site
  pub some : 0 < length others
  pub list : sites_in table given.block ≡ others ++ given.site ∷ []

-- the blocks gave up these sites, one after another
abbrev pub GaveUp : List GivenUp → Table → Table → Type 0
GaveUp [] old new = new ≡ old
GaveUp (given ∷ more) old new = IsLastSite old given × GaveUp more (without_site old given.block given.site.boundary) new

-- each block has a front of its sites, and at least one where it had one
pub record IsThinned (old new : Table) : Type 0 where
  pub shape : new.shape ≡ old.shape
  pub front : (b : ℕ) → (rest : List Site) × (sites_in old b ≡ sites_in new b ++ rest)
  pub written : (b : ℕ) → has_site (sites_in new b) ≡ has_site (sites_in old b)

-- the table before these sites were given up
abbrev pub table_before : List GivenUp → Table → Table
table_before [] now = now
table_before (given ∷ more) now = put_site (table_before more now) given.block given.site

-- the least block with more than one site gave up its last one, which joined the list
pub record IsEvicted (old new : Table) (before after : List GivenUp) : Type 0 where
  pub given : GivenUp
  pub least : IsLeastSpread old given.block
  pub last : IsLastSite old given
  pub left : new ≡ without_site old given.block given.site.boundary
  pub listed : after ≡ before ++ given ∷ []
