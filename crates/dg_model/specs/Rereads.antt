-- What a write of a block gives reason to read of the volume, so that what blocks belong to is known after it. The rules are this
-- project's own; the structures are those of `fs.h` and `dinode.h`.
use Rattle.std.specs.Prelude.{◌≡◌, ◌≢◌, ◌⊎◌, ◌+◌, ◌*◌, ◌<◌, ℕ, List, IsOkAnd, length}
use Rattle.std.specs.List.{All, AllPairs, Contains}
use Rattle.ufs_model.specs.Blocks.{Volume}
use Rattle.ufs_model.specs.Claims.{IsClaimedAt, VolumeClaims}
use Rattle.ufs_model.specs.GroupMaps.{group_bytes}
use Rattle.ufs_model.specs.Inodes.{inode_block}
use Rattle.ufs_model.specs.Superblocks.{geometry_of, superblock_of}
use Rattle.ufs_model.specs.declared.geometries.Geometry.{Geometry}

-- A fragment, and a level at which it may be claimed.
pub record ClaimPlace : Type 0 where
  pub fragment : ℕ
  pub level : ℕ

-- The fragment is claimed at the level by the new volume, whose geometry is another one: that ends every claim of the old volume and
-- begins every claim of the new one.
pub record IsRenewedAt (l n : ℕ) (old new : Volume) (place : ClaimPlace) : Type 0 where
  pub geometry : (geometry_of l n old).value ≢ (geometry_of l n new).value
  pub claimed : IsClaimedAt (VolumeClaims l n new) place.level place.fragment

-- The claims on a fragment at a level above 0 ended, began, or were made anew between two volumes of n blocks of l bytes.
pub record IsChangedAt (l n : ℕ) (old new : Volume) (place : ClaimPlace) : Type 0 where
  pub above : 0 < place.level
  pub changed :
      (IsClaimedAt (VolumeClaims l n old) place.level place.fragment × (IsClaimedAt (VolumeClaims l n new) place.level place.fragment → ⊥))
      ⊎ (IsClaimedAt (VolumeClaims l n new) place.level place.fragment × (IsClaimedAt (VolumeClaims l n old) place.level place.fragment → ⊥))
      ⊎ IsRenewedAt l n old new place

-- two blocks of one group block
pub record AreOfGroup (g : Geometry) (v : Volume) (b f : ℕ) : Type 0 where
  pub group : ℕ
  pub within : group < g.ncg
  pub one : Contains (group_bytes g group v).needs b
  pub other : Contains (group_bytes g group v).needs f

-- a block of a group block, or with inodes
pub data IsAreaOf (g : Geometry) (v : Volume) : ℕ → Type 0 where
  of_group : {f : ℕ} (c : ℕ) → c < g.ncg → Contains (group_bytes g c v).needs f → IsAreaOf g v f
  of_inodes : {f : ℕ} (i : ℕ) → i < g.ncg * g.ipg → f ≡ inode_block g i → IsAreaOf g v f

-- Block f is read again after a write of block b: another of the superblock; another of the same group block; or, where the geometry
-- changed, one of the group blocks and the inodes of either volume.
pub data IsBeside (l n : ℕ) (old new : Volume) (b : ℕ) : ℕ → Type 0 where
  of_superblock : {f : ℕ} → Contains (superblock_of l n new).needs b → Contains (superblock_of l n new).needs f → IsBeside l n old new b f
  of_group_block : {f : ℕ} → IsOkAnd ((geometry_of l n new).value) (λ g. AreOfGroup g new b f) → IsBeside l n old new b f
  of_areas : {f : ℕ} → (geometry_of l n old).value ≢ (geometry_of l n new).value
      → IsOkAnd ((geometry_of l n old).value) (λ g. IsAreaOf g old f) ⊎ IsOkAnd ((geometry_of l n new).value) (λ g. IsAreaOf g new f)
      → IsBeside l n old new b f

-- What is read after a write of block b, each once: indirect blocks whose claims began or ended, and what stands beside the block, which is
-- none of it. The volume is known where its bytes are told.
pub record Rereads (Known : Type 0) (l n : ℕ) (old new : Volume) (b : ℕ) : Type 0 where
  pub indirect : List ClaimPlace
  pub indirect_once : AllPairs (λ one other. one ≢ other) indirect
  pub changed : Known → All (IsChangedAt l n old new) indirect
  pub beside : List ℕ
  pub beside_once : AllPairs (λ one other. one ≢ other) beside
  pub are_beside : Known → All (IsBeside l n old new b) beside
  pub others : Known → All (λ f. f ≢ b) beside

-- how many blocks these are
abbrev pub count_read : {Known : Type 0} {l n b : ℕ} {old new : Volume} → Rereads Known l n old new b → ℕ
count_read rereads = length rereads.indirect + length rereads.beside
