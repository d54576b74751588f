-- Sites that a block can do without, one after another.
use Rattle.std.specs.Prelude.{◌≡◌, ◌<◌, ℕ, List, [], ◌∷◌, MatchOption, Option}
use Rattle.std.specs.List.{All}
use Rattle.dg_model.specs.declared.sites.Site.{Site}

-- the sites are on boundaries that an array may have
abbrev pub AreWithin : List Site → Type 0
AreWithin sites = All (λ site. site.boundary < 16) sites

-- the boundary of the first of the sites, or none where there is none
abbrev pub IsFirstOf : Option ℕ → List Site → Type 0
IsFirstOf found sites = MatchOption found (sites ≡ []) (λ s. (site : Site) × (rest : List Site) × (sites ≡ site ∷ rest) × (site.boundary ≡ s))
