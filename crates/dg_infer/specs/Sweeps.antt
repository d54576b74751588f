-- How far a sweep over the blocks of a volume has come, which reads the blocks with inodes and the group blocks.
use Rattle.std.specs.Prelude.{◌≡◌, ◌+◌, ◌-◌, ◌*◌, ◌/◌, ◌<◌, ◌≤◌, ℕ, Bool, false, List, [], None, length}
use Rattle.ufs_model.specs.Blocks.{Volume, area_of}
use Rattle.ufs_model.specs.Claims.{source_fragments}
use Rattle.ufs_model.specs.Geometries.{cgstart}
use Rattle.ufs_model.specs.GroupMaps.{is_marked_free}
use Rattle.ufs_model.specs.Inodes.{inode_block}
use Rattle.ufs_model.specs.declared.claims.ClaimSource.{ClaimSource}
use Rattle.ufs_model.specs.declared.claims.ClaimSource.TheVariants.{Slot, Pointer}
use Rattle.ufs_model.specs.declared.geometries.Geometry.{Geometry}
use Rattle.ufs_model.specs.declared.inodes.Kind.{Kind}
use Rattle.dg_model.specs.Marks.{is_marked}
use Rattle.dg_infer.specs.Meanings.{kind_at, kind_by}

-- an inode from 2 to the last stands in a block before this one
abbrev pub StandsBefore : Geometry → ℕ → ℕ → Type 0
StandsBefore g inode place = (2 ≤ inode) × (inode < g.ncg * g.ipg) × (inode_block g inode < place)

-- the first block of the group block of group c
abbrev pub group_start : Geometry → ℕ → ℕ
group_start g c = cgstart g c + g.cblkno

-- The group block of group c begins before a block and ends after it.
pub record IsAmidGroup (g : Geometry) (place c : ℕ) : Type 0 where
  pub group : c < g.ncg
  pub begun : group_start g c < place
  pub ends : place < group_start g c + g.frag

-- the group block of a fragment of the volume ends up to this block
abbrev pub IsPastGroup : Geometry → ℕ → ℕ → Type 0
IsPastGroup g place f = (f < g.size) × (group_start g (f / g.fpg) + g.frag ≤ place)

-- the blocks before this one of the group block that it stands in have so many bytes
abbrev pub HasGathered : Geometry → ℕ → List ℕ → Type 0
HasGathered g place group = (c : ℕ) → IsAmidGroup g place c → length group ≡ (place - group_start g c) * g.fsize

-- The slots of inodes before a block claim what they do on the volume, and nothing else is claimed.
pub record AreSlotsBefore (g : Geometry) (v : Volume) (place : ℕ) (claimed : ClaimSource → List ℕ) : Type 0 where
  pub here : (inode slot : ℕ) → StandsBefore g inode place → claimed (Slot inode slot) ≡ source_fragments g v (Slot inode slot)
  pub later : (inode slot : ℕ) → (StandsBefore g inode place → ⊥) → claimed (Slot inode slot) ≡ []
  pub pointers : (fragment level at : ℕ) → claimed (Pointer fragment level at) ≡ []

-- The kinds of inodes before a block are those of the volume, and there are no others.
pub record AreKindsBefore (g : Geometry) (v : Volume) (place : ℕ) (kinds : List (ℕ × Kind)) : Type 0 where
  pub here : (inode : ℕ) → StandsBefore g inode place → kind_at kinds inode ≡ kind_by g v inode
  pub later : (inode : ℕ) → (StandsBefore g inode place → ⊥) → kind_at kinds inode ≡ None

-- The marks of groups whose blocks end up to a block are those of the volume, and there are no others. The blocks before it of the group
-- block that it stands in are at hand.
pub record AreMarksBefore (g : Geometry) (v : Volume) (place : ℕ) (free : List Bool) (group : List ℕ) : Type 0 where
  pub here : (f : ℕ) → IsPastGroup g place f → is_marked free f ≡ (is_marked_free g f v).value
  pub later : (f : ℕ) → (IsPastGroup g place f → ⊥) → is_marked free f ≡ false
  pub amid : (c : ℕ) → IsAmidGroup g place c → group ≡ (area_of g.fsize (group_start g c) (place - group_start g c) v).value
