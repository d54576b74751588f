-- Directories, files and paths are read locally.
use Rattle.std.proofs.Common.{ℕ, zero, suc, ◌+◌, List, [], ◌∷◌, ◌++◌, Option, Some, None, Result, Ok, Err}
use Rattle.std.specs.Prelude.{filter}
use Rattle.std.specs.Option.{ok_or}
use Rattle.ufs_model.specs.Blocks.{Reading, known}
use Rattle.ufs_model.specs.Chunks.{DirEntry}
use Rattle.ufs_model.specs.Inodes.{block_count, inode_of, is_inode_number, kind_of}
use Rattle.ufs_model.specs.Listings.{Listed, listed_as, listed_entries, listed_entry, listing_of}
use Rattle.ufs_model.specs.Paths.{allocated, block_of, bytes_in_block, chunks_of, contents_of, directory_refusal, entries_before, entries_of, entries_through, file_refusal, find_from, find_in_block, find_of, find_through, found_else, front_in, front_of, is_directory, look_from, named_inode, or_bad_chunk, part_of, unless_refused}
use Rattle.ufs_model.specs.Trees.{branches, if_directory, is_plain, tree_below}
use Rattle.ufs_model.specs.declared.geometries.Geometry.{Geometry}
use Rattle.ufs_model.specs.declared.inodes.Inode.{Inode}
use Rattle.ufs_model.specs.declared.reads.BadRead.TheVariants.{Entry}
use Rattle.ufs_model.specs.declared.reads.PathRefusal.{PathRefusal}
use Rattle.ufs_model.specs.declared.reads.PathRefusal.TheVariants.{Bad, NotFound}
use Rattle.ufs_frames.specs.Frames.{IsLocal}
use Rattle.ufs_frames.proofs.BlockLaws.{local_block, local_chunks, local_inode}
use Rattle.ufs_frames.proofs.LocalLaws.{local_bind, local_if, local_known, local_then}

local_unless : {A : Type 0} (l : ℕ) (refusal : Option PathRefusal) (d : Reading (Result A PathRefusal)) → IsLocal l d → IsLocal l (unless_refused refusal d)
local_unless l None d local = local
local_unless l (Some refusal) d local = local_known l (Err refusal)

-- ---- directories

local_before : (g : Geometry) (inode : Inode) (k : ℕ) → IsLocal g.fsize (entries_before g inode k)
unfolding entries_before
local_before g inode zero = local_known g.fsize (Ok [])
local_before g inode (suc k) = local_then g.fsize (entries_before g inode k) _ (local_before g inode k) (λ front.
    local_then g.fsize (chunks_of g inode k) _ (local_chunks g inode k) (λ chunks.
    local_then g.fsize (known (entries_through g.endian chunks)) _ (local_known g.fsize (entries_through g.endian chunks)) (λ entries.
    local_known g.fsize (Ok (front ++ entries)))))

pub local_entries : (g : Geometry) (inode : Inode) → IsLocal g.fsize (entries_of g inode)
unfolding entries_of
local_entries g inode = local_unless g.fsize (directory_refusal inode) (entries_before g inode (block_count g inode)) (local_before g inode (block_count g inode))

local_find_in_block : (g : Geometry) (inode : Inode) (name : List ℕ) (n : ℕ) → IsLocal g.fsize (find_in_block g inode name n)
unfolding find_in_block
local_find_in_block g inode name n = local_then g.fsize (chunks_of g inode n) _ (local_chunks g inode n) (λ chunks.
    local_known g.fsize (or_bad_chunk (find_through g.endian name chunks)))

local_else : (l : ℕ) (found : Option ℕ) (d : Reading (Result ℕ PathRefusal)) → IsLocal l d → IsLocal l (found_else found d)
local_else l None d local = local
local_else l (Some i) d local = local_known l (Ok i)

local_find_from : (g : Geometry) (inode : Inode) (name : List ℕ) (n count : ℕ) → IsLocal g.fsize (find_from g inode name n count)
unfolding find_from
local_find_from g inode name n zero = local_known g.fsize (Err NotFound)
local_find_from g inode name n (suc count) = local_then g.fsize (find_in_block g inode name n) _ (local_find_in_block g inode name n) (λ found.
    local_else g.fsize found (find_from g inode name (suc n) count) (local_find_from g inode name (suc n) count))

local_find : (g : Geometry) (inode : Inode) (name : List ℕ) → IsLocal g.fsize (find_of g inode name)
unfolding find_of
local_find g inode name = local_unless g.fsize (directory_refusal inode) (find_from g inode name 0 (block_count g inode)) (local_find_from g inode name 0 (block_count g inode))

-- ---- files

local_part : (g : Geometry) (inode : Inode) (n : ℕ) → IsLocal g.fsize (part_of g inode n)
unfolding part_of
local_part g inode n = local_then g.fsize (block_of g inode n) _ (local_block g inode n) (λ block.
    local_known g.fsize (Ok (front_in (bytes_in_block g inode n) block)))

local_front : (g : Geometry) (inode : Inode) (k : ℕ) → IsLocal g.fsize (front_of g inode k)
unfolding front_of
local_front g inode zero = local_known g.fsize (Ok [])
local_front g inode (suc k) = local_then g.fsize (front_of g inode k) _ (local_front g inode k) (λ front.
    local_then g.fsize (part_of g inode k) _ (local_part g inode k) (λ part. local_known g.fsize (Ok (front ++ part))))

pub local_contents : (g : Geometry) (inode : Inode) → IsLocal g.fsize (contents_of g inode)
unfolding contents_of
local_contents g inode = local_unless g.fsize (file_refusal inode) (front_of g inode (block_count g inode)) (local_front g inode (block_count g inode))

-- ---- paths

pub local_named : (g : Geometry) (i : ℕ) → IsLocal g.fsize (named_inode g i)
unfolding named_inode
local_named g i = local_if g.fsize (is_inode_number g i) (allocated g i) (known (Err (Bad Entry)))
    (local_bind g.fsize (inode_of g i) _ (local_inode g i) (λ found. local_known g.fsize (ok_or found (Bad Entry))))
    (local_known g.fsize (Err (Bad Entry)))

pub local_look : (g : Geometry) (names : List (List ℕ)) (i : ℕ) → IsLocal g.fsize (look_from g names i)
unfolding look_from
local_look g [] i = local_then g.fsize (named_inode g i) _ (local_named g i) (λ inode. local_known g.fsize (Ok (i, inode)))
local_look g (name ∷ names) i = local_then g.fsize (named_inode g i) _ (local_named g i) (λ inode.
    local_then g.fsize (find_of g inode name) _ (local_find g inode name) (λ next. local_look g names next))

-- ---- listings

local_listed : (g : Geometry) (depth : ℕ) (entry : DirEntry) → IsLocal g.fsize (listed_entry g depth entry)
unfolding listed_entry
local_listed g depth entry = local_then g.fsize (named_inode g entry.inode) _ (local_named g entry.inode) (λ inode. local_known g.fsize (Ok (listed_as depth entry inode)))

local_lines : (g : Geometry) (depth : ℕ) (entries : List DirEntry) → IsLocal g.fsize (listed_entries g depth entries)
unfolding listed_entries
local_lines g depth [] = local_known g.fsize (Ok [])
local_lines g depth (entry ∷ entries) = local_then g.fsize (listed_entry g depth entry) _ (local_listed g depth entry) (λ first.
    local_then g.fsize (listed_entries g depth entries) _ (local_lines g depth entries) (λ others. local_known g.fsize (Ok (first ∷ others))))

pub local_listing : (g : Geometry) (inode : Inode) → IsLocal g.fsize (listing_of g inode)
unfolding listing_of
local_listing g inode = local_then g.fsize (entries_of g inode) _ (local_entries g inode) (λ entries. local_lines g 1 entries)

local_branches : (g : Geometry) (below : Inode → Reading (Result (List Listed) PathRefusal)) (depth : ℕ) (entries : List DirEntry)
    → ((inode : Inode) → IsLocal g.fsize (below inode)) → IsLocal g.fsize (branches g below depth entries)
unfolding branches
local_branches g below depth [] each = local_known g.fsize (Ok [])
local_branches g below depth (entry ∷ entries) each = local_then g.fsize (named_inode g entry.inode) _ (local_named g entry.inode) (λ inode.
    local_then g.fsize (if_directory inode (below inode)) _ (local_if g.fsize (is_directory (kind_of inode.mode)) (below inode) (known (Ok [])) (each inode) (local_known g.fsize (Ok []))) (λ under.
    local_then g.fsize (branches g below depth entries) _ (local_branches g below depth entries each) (λ others.
    local_known g.fsize (Ok (listed_as depth entry inode ∷ (under ++ others))))))

pub local_tree : (g : Geometry) (levels depth : ℕ) (inode : Inode) → IsLocal g.fsize (tree_below g levels depth inode)
unfolding tree_below
local_tree g zero depth inode = local_known g.fsize (Ok [])
local_tree g (suc levels) depth inode = local_then g.fsize (entries_of g inode) _ (local_entries g inode) (λ entries.
    local_branches g (tree_below g levels (depth + 1)) depth (filter is_plain entries) (local_tree g levels (depth + 1)))
