-- What moves, first sites and copies keep of a table: the array's numbers, and that each block has a row. A library for the crates above.
use Rattle.std.proofs.Common.{◌≡◌, ◌+◌, ◌-◌, ◌++◌, ◌∙◌, ap, refl, ℕ, zero, suc, Bool, true, false, List, [], ◌∷◌, length, set}
use Rattle.std.specs.Prelude.{Option, Some, None, cond, map, nat_le, take}
use Rattle.std.proofs.lemmas.List.{length-set}
use Rattle.dg_model.specs.Copies.{Spread, copied_to, emptiest, fitted, spread_by, spread_over}
use Rattle.dg_model.specs.Homes.{home_of}
use Rattle.dg_model.specs.Moves.{Action, all_done, copy_to, done, give_up}
use Rattle.dg_model.specs.Plans.{blocks_of}
use Rattle.dg_model.specs.Sites.{Evicts, IsGivenFirst, IsSited, has_site, without_last}
use Rattle.dg_model.specs.Tables.{Table, lowest_free, put_site, sites_in, sites_off, used_in}
use Rattle.dg_model.specs.declared.homes.Home.{Home}
use Rattle.dg_model.specs.declared.sites.Site.{Site}
use Rattle.dg_model.specs.declared.wants.Want.{Want}

-- the array's numbers and the number of rows are the same
pub record IsSized (old new : Table) : Type 0 where
  pub shape : new.shape ≡ old.shape
  pub rows : length new.rows ≡ length old.rows

pub sized_same : (old new : Table) → new ≡ old → IsSized old new
sized_same old new e = record { shape = ap (λ t. t.shape) e; rows = ap (λ t. length t.rows) e }

pub sized_both : (old mid new : Table) → IsSized old mid → IsSized mid new → IsSized old new
sized_both old mid new one other = record { shape = other.shape ∙ one.shape; rows = other.rows ∙ one.rows }

-- a row was written anew
pub row_sized : (table : Table) (b : ℕ) (sites : List Site) → IsSized table (record table { rows = set table.rows b sites })
row_sized table b sites = record { shape = refl; rows = length-set table.rows b sites }

-- ---- moves

pub done_sized : (table : Table) (action : Action) → IsSized table (done table action)
done_sized table (copy_to b s) = row_sized table b (sites_in table b ++ record { boundary = s; slot = lowest_free table s } ∷ [])
done_sized table (give_up b s) = row_sized table b (sites_off s (sites_in table b))

pub all_done_sized : (actions : List Action) (table : Table) → IsSized table (all_done table actions)
all_done_sized [] table = sized_same table table refl
all_done_sized (action ∷ more) table =
    sized_both table (done table action) (all_done (done table action) more) (done_sized table action) (all_done_sized more (done table action))

-- ---- first sites

evicts_sized : (count : ℕ) (old new : Table) → Evicts count old new → IsSized old new
evicts_sized zero old new h = sized_same old new h.1
evicts_sized (suc count) old new h =
    sized_both old (without_last old h.1.0) new
    (row_sized old h.1.0 (take (length (sites_in old h.1.0) - 1) (sites_in old h.1.0)))
    (evicts_sized count (without_last old h.1.0) new h.1.2)

given_sized : (old : Table) (b : ℕ) (new : Table) → IsGivenFirst old b new → IsSized old new
given_sized old b new h =
    sized_both old (put_site h.middle b h.site) new
    (sized_both old h.middle (put_site h.middle b h.site) (evicts_sized h.evictions old h.middle h.evicted) (row_sized h.middle b (sites_in h.middle b ++ h.site ∷ [])))
    (sized_same (put_site h.middle b h.site) new h.given)

sited_by : (old : Table) (b : ℕ) (new : Table) (written : Bool) → has_site (sites_in old b) ≡ written → IsSited old b new → IsSized old new
sited_by old b new true e h = sized_same old new (h.kept e)
sited_by old b new false e h = given_sized old b new (h.first e)

pub sited_sized : (old : Table) (b : ℕ) (new : Table) → IsSited old b new → IsSized old new
sited_sized old b new h = sited_by old b new (has_site (sites_in old b)) refl h

-- ---- copies

chosen_sized : (i s : ℕ) (blocks : List ℕ) (spread : Spread) (fits : Bool) → IsSized spread.table (cond fits (copied_to i s blocks spread) spread).table
chosen_sized i s blocks spread true = all_done_sized (map (λ b. copy_to b s) blocks) spread.table
chosen_sized i s blocks spread false = sized_same spread.table spread.table refl

fitted_sized : (i : ℕ) (found : Option ℕ) (blocks : List ℕ) (spread : Spread) → IsSized spread.table (fitted i found blocks spread).table
fitted_sized i None blocks spread = sized_same spread.table spread.table refl
fitted_sized i (Some s) blocks spread = chosen_sized i s blocks spread (nat_le (used_in spread.table s + length blocks) spread.table.shape.k)

spread_by_sized : (wants : List (Option Want)) (i : ℕ) (home there : Option ℕ) (spread : Spread) → IsSized spread.table (spread_by wants i home there spread).table
spread_by_sized wants i None there spread = sized_same spread.table spread.table refl
spread_by_sized wants i (Some home) (Some s) spread = sized_same spread.table spread.table refl
spread_by_sized wants i (Some home) None spread = fitted_sized i (emptiest spread.table home) (blocks_of wants i) spread

pub spread_over_sized : (wants : List (Option Want)) (homes : List Home) (recent : List ℕ) (spread : Spread) → IsSized spread.table (spread_over wants homes recent spread).table
unfolding spread_over
spread_over_sized wants homes [] spread = sized_same spread.table spread.table refl
spread_over_sized wants homes (i ∷ more) spread =
    let next = spread_by wants i (home_of homes i) (home_of spread.copies i) spread in
    sized_both spread.table next.table (spread_over wants homes more next).table
    (spread_by_sized wants i (home_of homes i) (home_of spread.copies i) spread)
    (spread_over_sized wants homes more next)
