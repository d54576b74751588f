-- Volumes that agree on some of their blocks, and what is then the same of them. The words are this project's own.
use Rattle.std.specs.Prelude.{◌≡◌, ◌≢◌, ◌↔◌, ◌<◌, ◌^◌, ℕ, true, List, Some, Ok, length, Contains}
use Rattle.ufs_model.specs.Blocks.{Volume, Reading, block_at}
use Rattle.ufs_model.specs.Claims.{IsClaim, VolumeClaims, level_of, source_fragments}
use Rattle.ufs_model.specs.Geometries.{IsGeometry}
use Rattle.ufs_model.specs.Inodes.{block_count, has_pointers}
use Rattle.ufs_model.specs.Malformations.{HasWild, HasWildIn, IsFirstMalformation, IsMalformed, inode_at}
use Rattle.ufs_model.specs.Metadata.{IsMetadata, IsStructure}
use Rattle.ufs_model.specs.Owners.{BelongsTo, IsSharedOn}
use Rattle.ufs_model.specs.Listings.{ls_of}
use Rattle.ufs_model.specs.Paths.{cat_of, look_of}
use Rattle.ufs_model.specs.Pointers.{file_block_of}
use Rattle.ufs_model.specs.Roles.{is_system, role}
use Rattle.ufs_model.specs.Superblocks.{geometry_of}
use Rattle.ufs_model.specs.Trees.{file_of, tree_of}
use Rattle.ufs_model.specs.declared.claims.ClaimSource.{ClaimSource}
use Rattle.ufs_model.specs.declared.geometries.Geometry.{Geometry}
use Rattle.ufs_model.specs.declared.inodes.Inode.{Inode}
use Rattle.ufs_model.specs.declared.malformations.BadKind.{BadKind}
use Rattle.ufs_model.specs.declared.pointers.Address.TheVariants.{Wild}

-- w has the same block as v wherever its number is of a kind
abbrev pub AgreeOn : ℕ → (ℕ → Type 0) → Volume → Volume → Type 0
AgreeOn l kind v w = (b : ℕ) → kind b → block_at l w b ≡ block_at l v b

-- A reading is local: a volume that has the same blocks as v, as far as the reading needs them of v, gives the same value by the
-- same blocks.
pub record IsLocal {A : Type 0} (l : ℕ) (d : Reading A) : Type 0 where
  pub same : (v w : Volume) → AgreeOn l (Contains ((d v).needs)) v w → d w ≡ d v

-- each fragment of an indirect block has all its bytes
abbrev pub HasWholeIndirects : ℕ → ℕ → Volume → Type 0
HasWholeIndirects l n v = (b : ℕ) (source : ClaimSource) → VolumeClaims l n v b source → 0 < level_of source → length (block_at l v b) ≡ l

-- the same of the claims by a geometry
abbrev pub HasWholeUppers : Geometry → Volume → Type 0
HasWholeUppers g v = (f : ℕ) (source : ClaimSource) → IsClaim (source_fragments g v) f source → 0 < level_of source → length (block_at g.fsize v f) ≡ g.fsize

-- a volume by a geometry that is one, with such indirect blocks
pub record IsWhole (g : Geometry) (v : Volume) : Type 0 where
  pub geometry : IsGeometry g
  pub uppers : HasWholeUppers g v

-- inode i has pointers
pub record IsFile (g : Geometry) (v : Volume) (i : ℕ) (inode : Inode) : Type 0 where
  pub there : inode_at g v i ≡ Some inode
  pub pointers : has_pointers g inode ≡ true

-- no slot of the inode is wild, and no pointer of an indirect block
pub record IsTame (g : Geometry) (v : Volume) (inode : Inode) : Type 0 where
  pub slots : HasWild g v inode → ⊥
  pub pointers : (f : ℕ) → HasWildIn g v f → ⊥

-- where that is so, no file block is wild
abbrev pub FilesAreTame : Type 0
FilesAreTame = (g : Geometry) (v : Volume) (i n : ℕ) (inode : Inode) → IsWhole g v → IsFile g v i inode → inode.size < 2 ^ 32 → n < block_count g inode
    → IsTame g v inode → (file_block_of g inode n v).value ≢ Wild

-- The claims of two volumes are the same, and so is whatever is told by them.
pub record HaveSameClaims (l n : ℕ) (v w : Volume) : Type 0 where
  pub geometry : geometry_of l n w ≡ geometry_of l n v
  pub claims : (b : ℕ) (source : ClaimSource) → VolumeClaims l n w b source ↔ VolumeClaims l n v b source
  pub owners : (b i level : ℕ) → BelongsTo l n w b i level ↔ BelongsTo l n v b i level
  pub shared : (b count : ℕ) → IsSharedOn l n w b count ↔ IsSharedOn l n v b count
  pub metadata : (b : ℕ) → IsMetadata l n w b ↔ IsMetadata l n v b

-- The structure of two volumes is the same.
pub record HaveSameStructure (l n : ℕ) (v w : Volume) : Type 0 where
  pub claims : HaveSameClaims l n v w
  pub malformations : (kind : BadKind) (number : ℕ) → IsMalformed l n w kind number ↔ IsMalformed l n v kind number
  pub first : (kind : BadKind) (number : ℕ) → IsFirstMalformation l n w kind number ↔ IsFirstMalformation l n v kind number
  pub structure : (b : ℕ) → IsStructure l n w b ↔ IsStructure l n v b

-- A block of the file system itself, or a claimed one.
pub data IsUsed (l n : ℕ) (v : Volume) (b : ℕ) : Type 0 where
  of_system : (g : Geometry) → (geometry_of l n v).value ≡ Ok g → is_system (role g b) ≡ true → IsUsed l n v b
  of_claim : (source : ClaimSource) → VolumeClaims l n v b source → IsUsed l n v b

-- a block that is neither, on a volume with a geometry
pub record IsLoose (l n : ℕ) (v : Volume) (b : ℕ) : Type 0 where
  pub geometry : Geometry
  pub accepted : (geometry_of l n v).value ≡ Ok geometry
  pub unused : IsUsed l n v b → ⊥

-- Whatever is read of two volumes by a path is the same, by the same blocks.
pub record ReadTheSame (l n : ℕ) (v w : Volume) : Type 0 where
  pub look : (path : List ℕ) → look_of l n path w ≡ look_of l n path v
  pub cat : (path : List ℕ) → cat_of l n path w ≡ cat_of l n path v
  pub ls : (path : List ℕ) → ls_of l n path w ≡ ls_of l n path v
  pub file : (path : List ℕ) → file_of l n path w ≡ file_of l n path v
  pub tree : tree_of l n w ≡ tree_of l n v

-- Two volumes are the same but for blocks that are loose on both.
pub record DifferLoosely (l n : ℕ) (v w : Volume) : Type 0 where
  pub structure : HaveSameStructure l n v w
  pub reads : ReadTheSame l n v w
  pub whole : HasWholeIndirects l n w
  pub loose : (b : ℕ) → IsLoose l n w b ↔ IsLoose l n v b
