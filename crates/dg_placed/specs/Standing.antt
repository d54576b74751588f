-- On which boundaries the sites of a block are.
use Rattle.std.specs.Prelude.{◌≡◌, ◌==◌, ℕ, List, Option, Some, None}
use Rattle.std.specs.List.{list_any}
use Rattle.dg_model.specs.Placed.{StandsOnJust, boundaries_with}
use Rattle.dg_model.specs.Plans.{places_of}
use Rattle.dg_model.specs.Tables.{Table, stands_on}
use Rattle.dg_model.specs.declared.homes.Home.{Home}
use Rattle.dg_model.specs.declared.sites.Site.{Site}
use Rattle.dg_model.specs.declared.wants.Want.{Want}
use Rattle.dg_model.specs.declared.wants.Want.TheVariants.{Kept, File, Stray}

-- one of the sites is on each of these boundaries, and none is on any other
abbrev pub StandOnJust : List Site → List ℕ → Type 0
StandOnJust sites boundaries = (s : ℕ) → stands_on s sites ≡ list_any (λ t. t == s) boundaries

-- block b is in its place, by what it is to the plan
abbrev pub IsInItsPlace : Table → List Home → List Home → ℕ → Option Want → Type 0
IsInItsPlace table homes copies b None = Unit {0}
IsInItsPlace table homes copies b (Some Kept) = StandsOnJust table b (places_of table.shape b)
IsInItsPlace table homes copies b (Some (File i)) = StandsOnJust table b (boundaries_with homes copies i)
IsInItsPlace table homes copies b (Some Stray) = Unit {0}
