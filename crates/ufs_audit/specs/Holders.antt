-- Marks of numbers, and which fragments directories claim, by marks of these.
use Rattle.std.specs.Prelude.{◌≡◌, ◌<◌, ℕ, Bool, true, List, length}
use Rattle.std.specs.Bool.{Decides}
use Rattle.dg_claims.specs.Tables.{ClaimTable, TableClaims}
use Rattle.dg_model.specs.Marks.{is_marked}
use Rattle.ufs_audit.specs.Holds.{IsHeld}
use Rattle.ufs_model.specs.Claims.{level_of}
use Rattle.ufs_model.specs.declared.claims.ClaimSource.{ClaimSource}
use Rattle.ufs_model.specs.declared.claims.ClaimSource.TheVariants.{Slot, Pointer}

-- a mark for each number below a bound, of which something holds
pub record AreMarks (holds : ℕ → Type 0) (bound : ℕ) (marks : List Bool) : Type 0 where
  pub number : length marks ≡ bound
  pub each : (n : ℕ) → n < bound → Decides (is_marked marks n) (holds n)

-- a source leads to a marked inode, or stands in a marked fragment
abbrev pub leads_by : List Bool → List Bool → ClaimSource → Bool
leads_by inodes above (Slot i slot) = is_marked inodes i
leads_by inodes above (Pointer upper height at) = is_marked above upper

-- such a source claims a fragment at a level
pub record HasMarkedHolder (table : ClaimTable) (inodes above : List Bool) (level f : ℕ) : Type 0 where
  pub source : ClaimSource
  pub claim : TableClaims table f source
  pub is : level_of source ≡ level
  pub leads : leads_by inodes above source ≡ true

-- a fragment belongs to a marked inode at a level
abbrev pub AreHeld : ClaimTable → List Bool → ℕ → ℕ → Type 0
AreHeld table inodes level f = IsHeld (TableClaims table) (λ i. is_marked inodes i ≡ true) level f
