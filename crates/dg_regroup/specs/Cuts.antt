-- What is left of an array without its lost boundaries. `left` has the places of the others, ascending. The rules are this project's own.
use Rattle.std.specs.Prelude.{◌≡◌, ◌⊎◌, ◌<◌, ◌*◌, ◌==◌, ◌&&◌, not, ℕ, Bool, List, Option, Some, None, length, filter, if◌then◌else◌}
use Rattle.std.specs.Int.{bit_at}
use Rattle.std.specs.List.{range_with_len}
use Rattle.dg_model.specs.Lives.{place_in}
use Rattle.dg_model.specs.Members.{is_lost}
use Rattle.dg_model.specs.Regroups.{homes_left, is_left, shape_left, sites_left, table_left}
use Rattle.dg_model.specs.Sites.{has_site}
use Rattle.dg_model.specs.Tables.{IsTable, Table, sites_in}
use Rattle.dg_model.specs.declared.homes.Home.{Home}
use Rattle.dg_model.specs.declared.members.MemberState.{MemberState}
use Rattle.dg_model.specs.declared.shapes.Shape.{Shape}
use Rattle.dg_model.specs.declared.sites.Site.{Site}
use Rattle.dg_regroup.specs.declared.cut_overs.CutOver.{CutOver}

-- the place that a boundary gets, if it is left
abbrev pub new_place : List ℕ → ℕ → Option ℕ
new_place left s = if is_left left s then Some (place_in left s) else None

-- those that are left are fewer than m, fewer than 2, or have fewer than N counted slots
abbrev pub IsTooFew : List ℕ → Shape → Type 0
IsTooFew left shape = (length left < shape.m) ⊎ (length left < 2) ⊎ (length left * shape.k < shape.n)

-- whether these sites are some, none of which is left
abbrev pub falls_out : List ℕ → List Site → Bool
falls_out left sites = has_site sites && not (has_site (sites_left left sites))

-- the blocks that fall out, ascending
abbrev pub cut_off : List ℕ → Table → List ℕ
cut_off left table = filter (λ b. falls_out left (sites_in table b)) (range_with_len 0 table.shape.n)

-- whether a block has sites in the one table and none in the other
abbrev pub loses_sites : Table → Table → ℕ → Bool
loses_sites old new b = has_site (sites_in old b) && not (has_site (sites_in new b))

-- the blocks that have sites in the one table alone, ascending
abbrev pub cut_between : Table → Table → List ℕ
cut_between old new = filter (loses_sites old new) (range_with_len 0 old.shape.n)

-- The numbers, sites and homes that are left, under the new places, and the blocks that fall out.
pub record IsCutOver (left : List ℕ) (table : Table) (homes copies : List Home) (over : CutOver) : Type 0 where
  pub shape_is : over.shape ≡ shape_left left table.shape
  pub map_is : over.map ≡ table_left left table
  pub is_table : IsTable over.map
  pub homes_are : over.homes ≡ homes_left left copies homes
  pub cut_are : over.cut.items ≡ cut_off left table

-- bit s is set just for each lost boundary s
abbrev pub AreMarkedLost : ℕ → Shape → (ℕ → MemberState) → Type 0
AreMarkedLost lost shape members = (s : ℕ) → s < shape.b → is_lost members s ≡ (bit_at lost s == 1)
