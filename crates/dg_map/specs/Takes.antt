-- What a call that gives a block one more site leaves.
use Rattle.std.specs.Prelude.{◌≡◌, ◌++◌, ℕ, List, [], ◌∷◌}
use Rattle.dg_model.specs.declared.sites.Site.{Site}
use Rattle.dg_model.specs.Tables.{IsLowestFree, IsTable, Table, put_site, sites_in, without_site}

-- the site is the lowest free slot of the boundary, and the block has it as the last of its list now
pub record TakesLowest (old : Table) (block boundary : ℕ) (site : Site) (new : Table) : Type 0 where
  pub on : site.boundary ≡ boundary
  pub lowest : IsLowestFree old boundary site.slot
  pub taken : new ≡ put_site old block site

-- where the block had given up this site, the last of its list, the table is the one before that
abbrev pub Undoes : Table → ℕ → Site → Table → Type 0
Undoes old block site new =
    (before : Table) (others : List Site) → IsTable before → sites_in before block ≡ others ++ site ∷ []
    → old ≡ without_site before block site.boundary → new ≡ before
