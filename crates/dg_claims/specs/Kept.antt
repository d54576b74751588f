-- How a table of claims is kept.
use Rattle.std.specs.Prelude.{◌≡◌, ◌↔◌, ℕ, ◌+◌, ◌^◌, ◌<◌, ◌≤◌, List, Option, Some, None, length, IfSome}
use Rattle.std.specs.List.{Contains}
use Rattle.ufs_model.specs.Geometries.{IsGeometry}
use Rattle.ufs_model.specs.declared.claims.ClaimSource.{ClaimSource}
use Rattle.ufs_model.specs.declared.geometries.Geometry.{Geometry}
use Rattle.dg_claims.specs.Marks.{IsMarks, marked_on}
use Rattle.dg_claims.specs.Places.{source_of}
use Rattle.dg_claims.specs.Runs.{run_at, run_fragments, run_of}
use Rattle.dg_claims.specs.Tables.{ClaimTable, IsSource}
use Rattle.dg_claims.specs.declared.claims.Claims.TheInside.{Inside}
use Rattle.dg_claims.specs.declared.places.Place.{Place}
use Rattle.dg_claims.specs.declared.runs.Run.{Run}

-- a table as it is kept: the geometry, and the run of each source that claims anything
pub record KeptClaims : Type 0 where
  pub geometry : Option Geometry
  pub runs : List (ClaimSource × Run)

abbrev pub kept_of : Inside → KeptClaims
kept_of inside = record { geometry = inside.geometry; runs = inside.runs }

-- the fragments that a source claims, by the runs that are kept
unfoldable pub claimed_by : List (ClaimSource × Run) → ClaimSource → List ℕ
claimed_by runs source = run_fragments (run_of runs source)

-- the table that is kept so
abbrev pub table_of : KeptClaims → ClaimTable
table_of kept = record { geometry = kept.geometry; claimed = claimed_by kept.runs }

-- the fragments of the volume; none without a geometry
abbrev pub size_in : Option Geometry → ℕ
size_in None = 0
size_in (Some g) = g.size

-- a place of a source of the volume
abbrev pub IsPlace : Option Geometry → Place → Type 0
IsPlace geometry place = IsSource geometry (source_of place)

-- the run of a source: some fragments of the volume, at most those of a file block
pub record IsRun (size : ℕ) (run : Run) : Type 0 where
  pub some : 1 ≤ run.count
  pub few : run.count ≤ 8
  pub inside : run.first + run.count ≤ size
  pub fits : run.first + run.count < 2 ^ 32

-- what a kept table keeps
pub record IsKept (inside : Inside) : Type 0 where
  pub geometry : IfSome inside.geometry IsGeometry
  pub fits : size_in inside.geometry < 2 ^ 32
  pub room : length inside.marks.first.items ≡ size_in inside.geometry
  pub marks : IsMarks inside.marks
  pub runs : (place : Place) → IfSome (run_at inside.runs place) (λ run. IsPlace inside.geometry place × IsRun (size_in inside.geometry) run)
  pub marked : (fragment : ℕ) (place : Place) → Contains (marked_on inside.marks fragment) place ↔ Contains (run_fragments (run_at inside.runs place)) fragment

-- The runs of the first n of some places are the right ones now, and each other place has the run that it had.
pub record SetsFirst (old new : List (ClaimSource × Run)) (place_at : ℕ → Place) (IsRight : ℕ → Option Run → Type 0) (n : ℕ) : Type 0 where
  pub done : (k : ℕ) → k < n → IsRight k (run_at new (place_at k))
  pub others : (place : Place) → ((k : ℕ) → k < n → place ≡ place_at k → ⊥) → run_at new place ≡ run_at old place

-- each of some places claims these fragments
abbrev pub HasFragments : (ℕ → List ℕ) → ℕ → Option Run → Type 0
HasFragments fragments k run = run_fragments run ≡ fragments k

-- each of some places claims nothing
abbrev pub HasNone : ℕ → Option Run → Type 0
HasNone k run = run ≡ None

-- each source that claims anything is one of the volume
abbrev pub HasSources : KeptClaims → Type 0
HasSources kept = (place : Place) → IfSome (run_at kept.runs place) (λ run. IsPlace kept.geometry place)
