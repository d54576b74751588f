-- What an inference means: that it stands for a volume. The structures are those of `fs.h` and `dinode.h`.
use Rattle.std.specs.Prelude.{◌≡◌, nat_lt, ◌&&◌, ℕ, Bool, true, false, List, length, Option, Some, None, if◌then◌else◌}
use Rattle.std.specs.Ordering.{nat_cmp}
use Rattle.std.specs.BTreeMap.{is_at}
use Rattle.std.specs.Map.{lookup}
use Rattle.ufs_model.specs.Blocks.{Volume}
use Rattle.ufs_model.specs.Claims.{IsClaim, source_fragments}
use Rattle.ufs_model.specs.GroupMaps.{is_marked_free}
use Rattle.ufs_model.specs.Inodes.{has_pointers, inode_of, is_inode_number, kind_of}
use Rattle.ufs_model.specs.declared.claims.ClaimSource.{ClaimSource}
use Rattle.ufs_model.specs.declared.geometries.Geometry.{Geometry}
use Rattle.ufs_model.specs.declared.inodes.Inode.{Inode}
use Rattle.ufs_model.specs.declared.inodes.Kind.{Kind}
use Rattle.dg_model.specs.Marks.{IsKnown, is_marked}
use Rattle.dg_model.specs.Volumes.{geometry_on}
use Rattle.dg_claims.specs.Kept.{KeptClaims, table_of}
use Rattle.dg_claims.specs.Tables.{ClaimTable, HasClaims, IsTableOf, accepted}

-- ---- of a volume

-- the kind of an inode that has pointers
abbrev pub pointing_kind : Geometry → Option Inode → Option Kind
pointing_kind g None = None
pointing_kind g (Some inode) = if has_pointers g inode then Some (kind_of inode.mode) else None

-- the same of inode i of a volume, from 2 to the last
unfoldable pub kind_by : Geometry → Volume → ℕ → Option Kind
kind_by g v i = if is_inode_number g i then pointing_kind g ((inode_of g i v).value) else None

-- a block of a volume is marked free by its group
unfoldable pub free_by : Geometry → Volume → ℕ → Bool
free_by g v b = nat_lt b g.size && (is_marked_free g b v).value

-- without a geometry no inode has pointers, no block is marked free, and nothing is claimed
abbrev pub kind_on : Volume → Option Geometry → ℕ → Option Kind
kind_on v None i = None
kind_on v (Some g) i = kind_by g v i

abbrev pub free_on : Volume → Option Geometry → ℕ → Bool
free_on v None b = false
free_on v (Some g) b = free_by g v b

abbrev pub ClaimsOn : Volume → Option Geometry → ℕ → ClaimSource → Type 0
ClaimsOn v None fragment source = ⊥
ClaimsOn v (Some g) fragment source = IsClaim (source_fragments g v) fragment source

-- ---- of what is kept

-- the kind that is kept of an inode, among pairs of an inode and its kind
abbrev pub kind_at : List (ℕ × Kind) → ℕ → Option Kind
kind_at kinds i = lookup (is_at (nat_cmp i)) kinds

-- What is kept: the bytes and the number of blocks, the geometry, the claims, the kind of each inode that has pointers, and for each
-- block whether it is pending and whether it is marked free.
pub record KeptInference : Type 0 where
  pub l : ℕ
  pub n : ℕ
  pub geometry : Option Geometry
  pub claims : KeptClaims
  pub kinds : List (ℕ × Kind)
  pub pending : List Bool
  pub free : List Bool

-- It is what the volume has, and no pending block is known by the volume.
pub record StandsFor (kept : KeptInference) (v : Volume) : Type 0 where
  pub number : length v ≡ kept.n
  pub geometry : kept.geometry ≡ accepted (geometry_on kept.l kept.n v)
  pub claims : IsTableOf kept.l kept.n v (table_of kept.claims)
  pub kinds : (i : ℕ) → kind_at kept.kinds i ≡ kind_on v kept.geometry i
  pub free : (b : ℕ) → is_marked kept.free b ≡ free_on v kept.geometry b
  pub pending : (b : ℕ) → is_marked kept.pending b ≡ true → IsKnown kept.l kept.n v b → ⊥

-- What is read anew of a volume with this geometry, or with none.
pub record AreParts (v : Volume) (g : Option Geometry) (table : ClaimTable) (kept : List (ℕ × Kind)) (marks : List Bool) : Type 0 where
  pub claims : HasClaims table (ClaimsOn v g)
  pub kinds : (i : ℕ) → kind_at kept i ≡ kind_on v g i
  pub free : (b : ℕ) → is_marked marks b ≡ free_on v g b
