-- Sites under new numbers of their boundaries: `numbers` has that of each old one, if it gets one. The rules are this project's own.
use Rattle.std.specs.Prelude.{ℕ, List, Option, None, flat_map, map, option_to_list, slice_index_or}
use Rattle.std.specs.Option.{option_map}
use Rattle.dg_model.specs.Tables.{Table}
use Rattle.dg_model.specs.declared.shapes.Shape.{Shape}
use Rattle.dg_model.specs.declared.sites.Site.{Site}

-- a site under the new number of its boundary, if that has one
abbrev pub renumbered_site : List (Option ℕ) → Site → Option Site
renumbered_site numbers site = option_map (λ s. record site { boundary = s }) (slice_index_or numbers site.boundary None)

-- the sites whose boundaries have new numbers, in their order
abbrev pub renumbered_sites : List (Option ℕ) → List Site → List Site
renumbered_sites numbers sites = flat_map (λ site. option_to_list (renumbered_site numbers site)) sites

-- the table of this shape in which each block has these sites
abbrev pub renumbered : Shape → List (Option ℕ) → Table → Table
renumbered shape numbers table = record { shape = shape; rows = map (renumbered_sites numbers) table.rows }
