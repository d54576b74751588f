-- The sites of one block under new numbers.
use Rattle.std.proofs.Common.{◌≡◌, ◌∙◌, ◌<◌, ◌++◌, ℕ, List, [], Option, length, sym, ap}
use Rattle.std.proofs.lemmas.List.{get_or-map}
use Rattle.dg_model.specs.Tables.{Table, sites_in}
use Rattle.dg_model.specs.declared.shapes.Shape.{Shape}
use Rattle.dg_model.specs.declared.sites.Site.{Site}
use Rattle.dg_map.specs.Renumbers.{renumbered, renumbered_sites}

pub renumbered_row : (shape : Shape) (numbers : List (Option ℕ)) (table : Table) (b : ℕ) (none sites row : List Site) → b < length table.rows
    → none ≡ [] → sites ≡ sites_in table b → row ≡ none ++ renumbered_sites numbers sites → row ≡ sites_in (renumbered shape numbers table) b
renumbered_row shape numbers table b none sites row inside empty here is =
    let f : List Site → List Site = renumbered_sites numbers in
    is ∙ ap (λ (xs : List Site). xs ++ f sites) empty ∙ ap f here ∙ sym (get_or-map f table.rows b [] [] inside)
