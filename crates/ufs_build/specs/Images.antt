-- The bytes of a volume (`fs.h`, `dinode.h`).
use Rattle.std.specs.Prelude.{ℕ, zero, suc, ◌+◌, ◌-◌, ◌*◌, ◌^◌, ◌==◌, ◌&&◌, nat_lt, not, Bool, false, List, [], ◌∷◌, ◌++◌, if◌then◌else◌, length, map, replicate, slice_index_or}
use Rattle.std.specs.Int.{div_ceil}
use Rattle.std.specs.List.{flat_map, range_with_len}
use Rattle.ufs_model.specs.Geometries.{cgbase, cgstart}
use Rattle.ufs_model.specs.Inodes.{inode_block, inode_byte}
use Rattle.ufs_model.specs.Roles.{is_data_of, role}
use Rattle.ufs_model.specs.declared.geometries.Geometry.{Geometry}
use Rattle.ufs_build.specs.Nodes.{Node}
use Rattle.ufs_build.specs.Parts.{Part, field_parts, number_part, put_parts}
use Rattle.ufs_build.specs.Placements.{Addresses, AllPlaced, address_at, addresses_at, block_bytes, blocks_of, is_used}
use Rattle.ufs_build.specs.Volumes.{freeoff_of, iusedoff, superblock_fields}
use Rattle.ufs_build.specs.declared.parts.Field.{Field}

-- ---- maps

-- the number that so many bits make from a place on, the lowest first
abbrev pub bit_sum : List Bool → ℕ → ℕ → ℕ
bit_sum bits start zero = 0
bit_sum bits start (suc i) = bit_sum bits start i + (if slice_index_or bits (start + i) false then 2 ^ i else 0)

-- bits in bytes, eight in each (`setbit` in `param.h`)
unfoldable pub map_bytes : List Bool → List ℕ
map_bytes bits = map (λ j. bit_sum bits (8 * j) 8) (range_with_len 0 (div_ceil (length bits) 8))

-- ---- group blocks

-- the inodes of group c that are used, where all below a number are
unfoldable pub inode_bits : Geometry → ℕ → ℕ → List Bool
inode_bits g c inodes = map (λ i. nat_lt (c * g.ipg + i) inodes) (range_with_len 0 g.ipg)

-- the fragments of group c that are free: data that no block has
unfoldable pub fragment_bits : Geometry → ℕ → List Bool → List Bool
fragment_bits g c used =
    map (λ i. is_data_of c (role g (cgbase g c + i)) && not (is_used used (cgbase g c + i))) (range_with_len 0 g.fpg)

-- `cg_magic`, `cg_cgx`, `cg_ndblk`, `cg_iusedoff`, `cg_freeoff`
unfoldable pub group_fields : Geometry → ℕ → List Field
group_fields g c =
    record { at = 4; value = 0x00090255 } ∷ record { at = 12; value = c } ∷ record { at = 20; value = g.fpg }
    ∷ record { at = 92; value = iusedoff } ∷ record { at = 96; value = freeoff_of g.ipg } ∷ []

-- the first byte of group c's block
abbrev pub group_place : Geometry → ℕ → ℕ
group_place g c = (cgstart g c + g.cblkno) * g.fsize

unfoldable pub group_parts : Geometry → ℕ → List Bool → ℕ → List Part
group_parts g inodes used c =
    field_parts g.endian (group_place g c) (group_fields g c)
    ++ record { at = group_place g c + iusedoff; bytes = map_bytes (inode_bits g c inodes) }
    ∷ record { at = group_place g c + freeoff_of g.ipg; bytes = map_bytes (fragment_bits g c used) } ∷ []

-- ---- inodes

-- the first byte of an inode
unfoldable pub inode_place : Geometry → ℕ → ℕ
inode_place g inode = inode_block g inode * g.fsize + inode_byte g inode

-- what stands in a slot: the address of a block, or of the first indirect block of a level
abbrev pub slot_address : Addresses → ℕ → ℕ
slot_address addresses slot = if nat_lt slot 12 then address_at addresses 0 slot else address_at addresses (slot - 11) 0

abbrev pub slot_parts : Geometry → ℕ → Addresses → ℕ → List Part
slot_parts g at addresses slot = number_part g.endian 4 (at + 40 + 4 * slot) (slot_address addresses slot) ∷ []

-- `di_mode`, `di_nlink`, `di_size`, and the slots, or the bytes in their place
unfoldable pub inode_parts : Geometry → ℕ → Node → Addresses → List Part
inode_parts g at node addresses =
    number_part g.endian 2 at node.mode ∷ number_part g.endian 2 (at + 2) 1 ∷ number_part g.endian 8 (at + 8) (length node.bytes)
    ∷ (if node.inside then record { at = at + 40; bytes = node.bytes } ∷ [] else flat_map (slot_parts g at addresses) (range_with_len 0 15))

-- ---- blocks of files

-- the bytes of file block n, where it isn't a hole
abbrev pub data_parts : Geometry → Node → Addresses → ℕ → List Part
data_parts g node addresses n =
    if address_at addresses 0 n == 0 then []
    else record { at = address_at addresses 0 n * g.fsize; bytes = block_bytes g node.bytes n } ∷ []

-- the number, at the level below, of the block of pointer 0 of the first indirect block of a level
abbrev pub first_below : ℕ → ℕ
first_below level = if level == 1 then 12 else 1

-- pointer i of an indirect block
abbrev pub pointer_parts : Geometry → Addresses → ℕ → ℕ → ℕ → List Part
pointer_parts g addresses level index i =
    number_part g.endian 4 (address_at addresses level index * g.fsize + 4 * i) (address_at addresses (level - 1) (first_below level + index * g.nindir + i)) ∷ []

-- the pointers of an indirect block, if there is one
abbrev pub indirect_parts : Geometry → Addresses → ℕ → ℕ → List Part
indirect_parts g addresses level index =
    if address_at addresses level index == 0 then [] else flat_map (pointer_parts g addresses level index) (range_with_len 0 g.nindir)

abbrev pub level_parts : Geometry → Addresses → ℕ → List Part
level_parts g addresses level = flat_map (indirect_parts g addresses level) (range_with_len 0 (length (addresses_at addresses level)))

unfoldable pub block_parts : Geometry → Node → Addresses → List Part
block_parts g node addresses =
    flat_map (data_parts g node addresses) (range_with_len 0 (blocks_of g node))
    ++ level_parts g addresses 1 ++ level_parts g addresses 2 ++ level_parts g addresses 3

-- ---- the volume

-- the inodes of files from one on, and their blocks
abbrev pub file_parts : Geometry → ℕ → List Node → List Addresses → List Part
file_parts g inode [] files = []
file_parts g inode (node ∷ nodes) [] = []
file_parts g inode (node ∷ nodes) (addresses ∷ files) =
    inode_parts g (inode_place g inode) node addresses ++ block_parts g node addresses ++ file_parts g (suc inode) nodes files

-- the superblock, which begins at byte 8192 (`SBOFF`), the group blocks, and the files with their inodes from the root's on
unfoldable pub volume_parts : Geometry → List Node → AllPlaced → List Part
volume_parts g nodes all =
    field_parts g.endian 8192 (superblock_fields g) ++ flat_map (group_parts g (length nodes + 2) all.used) (range_with_len 0 g.ncg)
    ++ file_parts g 2 nodes all.files

-- All bytes of the volume: zeros, but for its parts.
unfoldable pub volume_bytes : Geometry → List Node → AllPlaced → List ℕ
volume_bytes g nodes all = put_parts (volume_parts g nodes all) (replicate (g.size * g.fsize) 0)
