-- Inodes, marks and file blocks are read locally.
use Rattle.std.proofs.Common.{ℕ, ◌+◌, ◌/◌, ◌%◌, Some, None, Ok, Err, not}
use Rattle.std.specs.Option.{ok_or}
use Rattle.ufs_model.specs.Blocks.{area_of, consult, known}
use Rattle.ufs_model.specs.Geometries.{cgstart}
use Rattle.ufs_model.specs.GroupMaps.{by_maps, group_bytes, group_in, is_free, is_marked_free, is_marked_unused, is_used}
use Rattle.ufs_model.specs.Inodes.{inode_block, inode_bytes, inode_in, inode_of}
use Rattle.ufs_model.specs.Paths.{block_of, bytes_at, bytes_in_block, chunks_in, chunks_of}
use Rattle.ufs_model.specs.Pointers.{address, chain_address, file_block_of, locate_of, pointer_in, slot_address, through}
use Rattle.ufs_model.specs.declared.geometries.Geometry.{Geometry}
use Rattle.ufs_model.specs.declared.inodes.Inode.{Inode}
use Rattle.ufs_model.specs.declared.pointers.Address.{Address}
use Rattle.ufs_model.specs.declared.pointers.Address.TheVariants.{At, Hole, Wild}
use Rattle.ufs_model.specs.declared.pointers.Chain.{Chain}
use Rattle.ufs_model.specs.declared.pointers.Chain.TheVariants.{Direct, One, Two, Three}
use Rattle.ufs_model.specs.declared.reads.BadRead.TheVariants.{Hole as BadHole, Wild as BadWild}
use Rattle.ufs_model.specs.declared.reads.PathRefusal.TheVariants.{Bad}
use Rattle.ufs_frames.specs.Frames.{IsLocal}
use Rattle.ufs_frames.proofs.LocalLaws.{local_area, local_bind, local_consult, local_known, local_then}

-- ---- inodes and groups

pub local_inode : (g : Geometry) (i : ℕ) → IsLocal g.fsize (inode_of g i)
unfolding inode_of
local_inode g i = local_bind g.fsize (consult g.fsize (inode_block g i)) _ (local_consult g.fsize (inode_block g i)) (λ block. local_known g.fsize (inode_in g.endian (inode_bytes g i block)))

pub local_group : (g : Geometry) (c : ℕ) → IsLocal g.fsize (group_bytes g c)
unfolding group_bytes
local_group g c = local_area g.fsize (cgstart g c + g.cblkno) g.frag

pub local_free : (g : Geometry) (f : ℕ) → IsLocal g.fsize (is_marked_free g f)
unfolding is_marked_free
local_free g f = local_bind g.fsize (group_bytes g (f / g.fpg)) _ (local_group g (f / g.fpg)) (λ bytes.
    local_known g.fsize (by_maps (group_in g (f / g.fpg) bytes) (λ group. is_free bytes group (f % g.fpg))))

pub local_unused : (g : Geometry) (i : ℕ) → IsLocal g.fsize (is_marked_unused g i)
unfolding is_marked_unused
local_unused g i = local_bind g.fsize (group_bytes g (i / g.ipg)) _ (local_group g (i / g.ipg)) (λ bytes.
    local_known g.fsize (by_maps (group_in g (i / g.ipg) bytes) (λ group. not (is_used bytes group (i % g.ipg)))))

-- ---- file blocks

pub local_through : (g : Geometry) (i : ℕ) (at : Address) → IsLocal g.fsize (through g i at)
unfolding through
local_through g i Hole = local_known g.fsize Hole
local_through g i Wild = local_known g.fsize Wild
local_through g i (At a k) = local_bind g.fsize (area_of g.fsize a k) _ (local_area g.fsize a k) (λ bytes. local_known g.fsize (address g (pointer_in g.endian bytes i) g.frag))

local_chain : (g : Geometry) (inode : Inode) (chain : Chain) → IsLocal g.fsize (chain_address g inode chain)
local_chain g inode (Direct slot) = local_known g.fsize (slot_address g inode slot)
local_chain g inode (One i) = local_through g i (slot_address g inode 12)
local_chain g inode (Two i j) = local_bind g.fsize (through g i (slot_address g inode 13)) _ (local_through g i (slot_address g inode 13)) (λ one. local_through g j one)
local_chain g inode (Three i j k) = local_bind g.fsize (through g i (slot_address g inode 14)) _ (local_through g i (slot_address g inode 14)) (λ two.
    local_bind g.fsize (through g j two) _ (local_through g j two) (λ one. local_through g k one))

pub local_file_block : (g : Geometry) (inode : Inode) (n : ℕ) → IsLocal g.fsize (file_block_of g inode n)
unfolding file_block_of
local_file_block g inode n = local_chain g inode (locate_of g n)

pub local_bytes : (g : Geometry) (at : Address) → IsLocal g.fsize (bytes_at g at)
unfolding bytes_at
local_bytes g Hole = local_known g.fsize (Ok None)
local_bytes g Wild = local_known g.fsize (Err (Bad BadWild))
local_bytes g (At a k) = local_bind g.fsize (area_of g.fsize a k) _ (local_area g.fsize a k) (λ bytes. local_known g.fsize (Ok (Some bytes)))

pub local_block : (g : Geometry) (inode : Inode) (n : ℕ) → IsLocal g.fsize (block_of g inode n)
unfolding block_of
local_block g inode n = local_bind g.fsize (file_block_of g inode n) (bytes_at g) (local_file_block g inode n) (λ at. local_bytes g at)

pub local_chunks : (g : Geometry) (inode : Inode) (n : ℕ) → IsLocal g.fsize (chunks_of g inode n)
unfolding chunks_of
local_chunks g inode n = local_then g.fsize (block_of g inode n) _ (local_block g inode n) (λ block.
    local_then g.fsize (known (ok_or block (Bad BadHole))) _ (local_known g.fsize (ok_or block (Bad BadHole))) (λ bytes.
    local_known g.fsize (Ok (chunks_in (bytes_in_block g inode n / 512) bytes))))
