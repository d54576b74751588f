-- The runs of fragments that sources claim.
use Rattle.std.specs.Prelude.{ℕ, Bool, false, List, [], ◌∷◌, Option, Some, None, IsSome, ◌==◌, ◌&&◌}
use Rattle.std.specs.BTreeMap.{is_at}
use Rattle.std.specs.BTreeMap.Range.{IsLeBy}
use Rattle.std.specs.Map.{lookup}
use Rattle.ufs_model.specs.Claims.{fragments_from}
use Rattle.ufs_model.specs.declared.claims.ClaimSource.{ClaimSource}
use Rattle.ufs_model.specs.declared.claims.ClaimSource.TheVariants.{Slot, Pointer}
use Rattle.dg_claims.specs.Places.{source_of}
use Rattle.dg_claims.specs.contracts.places.PlaceOrd.TheImpl as order
use Rattle.dg_claims.specs.declared.places.Place.{Place}
use Rattle.dg_claims.specs.declared.runs.Run.{Run}

-- the fragments of a run
abbrev pub run_fragments : Option Run → List ℕ
run_fragments None = []
run_fragments (Some run) = fragments_from run.first run.count

-- whether two sources are one
abbrev pub is_same_source : ClaimSource → ClaimSource → Bool
is_same_source (Slot inode slot) (Slot i s) = (inode == i) && (slot == s)
is_same_source (Slot inode slot) (Pointer f l a) = false
is_same_source (Pointer fragment level at) (Slot i s) = false
is_same_source (Pointer fragment level at) (Pointer f l a) = (fragment == f) && ((level == l) && (at == a))

-- the run of a source, among pairs of a source and its run
unfoldable pub run_of : List (ClaimSource × Run) → ClaimSource → Option Run
run_of runs source = lookup (is_same_source source) runs

-- the run at a place
abbrev pub run_at : List (ClaimSource × Run) → Place → Option Run
run_at runs place = run_of runs (source_of place)

-- one source isn't after the other, in the order of sources
abbrev pub IsUpTo : Place → Place → Type 0
IsUpTo one other = IsLeBy order.cmp-value.it one other

-- a source from the first to the last of these claims something
abbrev pub HasAny : List (ClaimSource × Run) → Place → Place → Type 0
HasAny runs first last = (place : Place) × IsUpTo first place × IsUpTo place last × IsSome (run_at runs place)

-- the same among pairs of a place and its run
abbrev pub entry_at : List (Place × Run) → Place → Option Run
entry_at entries place = lookup (is_at (order.cmp-value.it place)) entries

abbrev pub HasAnyEntry : List (Place × Run) → Place → Place → Type 0
HasAnyEntry entries first last = (place : Place) × IsUpTo first place × IsUpTo place last × IsSome (entry_at entries place)

-- the pairs with the sources that are kept so
abbrev pub by_source : List (Place × Run) → List (ClaimSource × Run)
by_source [] = []
by_source (entry ∷ entries) = (source_of entry.0, entry.1) ∷ by_source entries
