-- The definitions, computed on small volumes. The expected values are worked out by hand from the
-- formats.
use Rattle.std.proofs.Common.{option_map, ◌≡◌, ℕ, ◌+◌, ◌<◌, ◌++◌, List, [], ◌∷◌, map, refl, replicate, take, drop, zero, suc, arith}
use Rattle.std.specs.Prelude.{◌≤◌, Some, None, Ok, Err, true, false}
use Rattle.byteorder.specs.Endian.{big_bytes, little_bytes}
use Rattle.ufs_model.specs.Numbers.{number_at}
use Rattle.ufs_model.specs.Blocks.{Volume, bind, area_of, area_within}
use Rattle.ufs_model.specs.Geometries.{cgbase, cgstart, end_of, is_block_size, is_fragment_count, IsGeometry}
use Rattle.ufs_model.specs.Superblocks.{endian_of, geometry_by, geometry_in, geometry_of, superblock_of, fields, format_holds, frag_holds, groups_hold, inodes_hold, group_fits, layout_holds, summary_holds}
use Rattle.ufs_model.specs.Roles.{role, role_in}
use Rattle.ufs_model.specs.Inodes.{inode_in, inode_of, kind_of, inode_block, inode_byte, span}
use Rattle.ufs_model.specs.GroupMaps.{group_in, group_fields, group_magic_holds, maps_hold, is_set, is_free, is_used}
use Rattle.ufs_model.specs.Chunks.{chunk_in, entries_in, fault_in, fault_at, reclen_holds, is_name, entry_in, find_in}
use Rattle.ufs_model.specs.Pointers.{locate_of, is_data_run, address, through, file_block_of}
use Rattle.ufs_model.specs.Readings.{and_then}
use Rattle.ufs_model.specs.Paths.{block_of, bytes_at, cat_of, chunks_of, contents_of, entries_before, entries_of, find_from, find_in_block, find_of, find_through, front_of, directory_refusal, file_refusal, look_from, named_inode, names_of, part_of, volume_geometry}
use Rattle.ufs_model.specs.Claims.{is_earlier_claim, level_of, pointer_fragments, slot_fragments, source_fragments}
use Rattle.ufs_model.specs.Listings.{listed_entries, listed_entry, listing_of}
use Rattle.ufs_model.specs.Malformations.{first_block}
use Rattle.ufs_model.specs.declared.claims.ClaimSource.TheVariants.{Slot, Pointer}
use Rattle.ufs_model.specs.declared.numbers.Endian.{Endian}
use Rattle.ufs_model.specs.declared.numbers.Endian.TheVariants.{Little, Big}
use Rattle.ufs_model.specs.declared.geometries.Geometry.{Geometry}
use Rattle.ufs_model.specs.declared.claims.ClaimSource.{ClaimSource}
use Rattle.ufs_model.specs.declared.geometries.BadSuper.TheVariants.{Format, Magic, Fsize, Size}
use Rattle.ufs_model.specs.declared.roles.Role.TheVariants.{Outside, System, Data}
use Rattle.ufs_model.specs.declared.roles.SystemKind.TheVariants.{Super, Boot, Copy, Group, Inodes, Summary}
use Rattle.ufs_model.specs.declared.inodes.Inode.{Inode}
use Rattle.ufs_model.specs.declared.inodes.Kind.TheVariants.{Regular, Directory, Link, Pipe, Character, Block, Socket, Unknown}
use Rattle.ufs_model.specs.declared.chunks.BadEntry.TheVariants.{Cut, Reclen, Name}
use Rattle.ufs_model.specs.declared.chunks.Found.TheVariants.{Absent, Bad}
use Rattle.ufs_model.specs.declared.chunks.Found.TheVariants.{At as FoundAt}
use Rattle.ufs_model.specs.declared.reads.BadRead.TheVariants.{Super as BadSuperblock, Entry}
use Rattle.ufs_model.specs.declared.reads.PathRefusal.TheVariants.{NotFound, NotDirectory, NotRegular, Bad as PathBad}
use Rattle.ufs_model.specs.declared.pointers.Chain.TheVariants.{Direct, One, Two, Three}
use Rattle.ufs_model.specs.declared.pointers.Address.TheVariants.{Hole, Wild, At}

-- ---- one group of 128 fragments of 1024 bytes, four a file block, and 32 inodes

abbrev small : Geometry
small = record {
  sblkno = 16;
  cblkno = 24;
  iblkno = 28;
  dblkno = 32;
  cgoffset = 0;
  cgmask = 0xffffffff;
  size = 128;
  ncg = 1;
  bsize = 4096;
  fsize = 1024;
  frag = 4;
  nindir = 1024;
  inopb = 32;
  csaddr = 32;
  cssize = 16;
  cgsize = 4096;
  ipg = 32;
  fpg = 128;
  maxsymlinklen = 60;
  endian = Little;
}

small_is_a_geometry : IsGeometry small
unfolding is_block_size is_fragment_count cgstart cgbase end_of
small_is_a_geometry = record {
  format = (omega arith, omega arith);
  bsize = (refl, omega arith, omega arith);
  frag = (refl, omega arith, omega arith, refl);
  fsize = (omega arith, omega arith);
  nindir = refl;
  inopb = refl;
  size = omega arith;
  groups = (omega arith, omega arith, omega arith, omega arith);
  inodes = (omega arith, refl, omega arith);
  cgsize = (omega arith, omega arith);
  sblkno = omega arith;
  cblkno = omega arith;
  iblkno = omega arith;
  dblkno = omega arith;
  ends = λ c low. ends_in c low;
  summary = omega arith;
}
  where
    ends_in : (c : ℕ) → c < 1 → cgstart small c + 32 ≤ end_of small c
    ends_in zero low = omega arith
    ends_in (suc c) low = absurd (omega arith)

roles_of_small : map (role small) (0 ∷ 7 ∷ 8 ∷ 9 ∷ 10 ∷ 15 ∷ 16 ∷ 23 ∷ 24 ∷ 27 ∷ 28 ∷ 31 ∷ 32 ∷ 33 ∷ 127 ∷ 128 ∷ [])
    ≡ System Boot ∷ System Boot ∷ System Super ∷ System Super ∷ System Boot ∷ System Boot ∷ System Copy ∷ System Copy ∷ System Group ∷ System Group ∷ System Inodes ∷ System Inodes ∷ System Summary ∷ Data 0 ∷ Data 0 ∷ Outside ∷ []
unfolding role role_in cgstart cgbase
roles_of_small = refl

-- ---- four groups of 2048 fragments, eight a file block, that start 32 fragments later each

abbrev large : Geometry
large = record {
  sblkno = 16;
  cblkno = 24;
  iblkno = 32;
  dblkno = 64;
  cgoffset = 32;
  cgmask = 0xfffffffc;
  size = 8192;
  ncg = 4;
  bsize = 8192;
  fsize = 1024;
  frag = 8;
  nindir = 2048;
  inopb = 64;
  csaddr = 64;
  cssize = 64;
  cgsize = 8192;
  ipg = 256;
  fpg = 2048;
  maxsymlinklen = 60;
  endian = Little;
}

starts_of_large : map (cgstart large) (0 ∷ 1 ∷ 2 ∷ 3 ∷ []) ≡ 0 ∷ 2080 ∷ 4160 ∷ 6240 ∷ []
unfolding cgstart cgbase
starts_of_large = refl

-- the fragments of a group before its copy of the superblock are data
roles_of_large : map (role large) (63 ∷ 64 ∷ 65 ∷ 2047 ∷ 6144 ∷ 6255 ∷ 6256 ∷ 6264 ∷ 6272 ∷ 6303 ∷ 6304 ∷ 8191 ∷ 8192 ∷ [])
    ≡ System Inodes ∷ System Summary ∷ Data 0 ∷ Data 0 ∷ Data 3 ∷ Data 3 ∷ System Copy ∷ System Group ∷ System Inodes ∷ System Inodes ∷ Data 3 ∷ Data 3 ∷ Outside ∷ []
unfolding role role_in cgstart cgbase
roles_of_large = refl

-- inode 700 is number 188 of group 2, and number 60 of the third file block with inodes
place_of_inode_700 : (inode_block large 700 ≡ 4215) × (inode_byte large 700 ≡ 512)
unfolding inode_block inode_byte cgstart cgbase
place_of_inode_700 = (refl, refl)

-- ---- the superblock

abbrev four : Endian → ℕ → List ℕ
four Little n = little_bytes 4 n
four Big n = big_bytes 4 n

abbrev gap : ℕ → List ℕ
gap n = replicate n 0

abbrev small_superblock : Endian → List ℕ
small_superblock e =
    gap 8 ++ four e 16 ++ four e 24 ++ four e 28 ++ four e 32 ++ four e 0 ++ four e 0xffffffff
    ++ gap 4 ++ four e 128 ++ gap 4 ++ four e 1 ++ four e 4096 ++ four e 1024 ++ four e 4
    ++ gap 56 ++ four e 1024 ++ four e 32 ++ gap 28 ++ four e 32 ++ four e 16 ++ four e 4096
    ++ gap 20 ++ four e 32 ++ four e 128 ++ gap 1128 ++ four e 60 ++ four e 2 ++ gap 44 ++ four e 0x00011954

small_is_read : geometry_in (small_superblock Little) 1024 128 ≡ Ok small
unfolding geometry_in geometry_by endian_of fields number_at format_holds frag_holds is_block_size is_fragment_count groups_hold inodes_hold layout_holds group_fits cgstart cgbase end_of summary_holds
small_is_read = refl

small_is_read_in_the_other_order : geometry_in (small_superblock Big) 1024 128 ≡ Ok (record small { endian = Big })
unfolding geometry_in geometry_by endian_of fields number_at format_holds frag_holds is_block_size is_fragment_count groups_hold inodes_hold layout_holds group_fits cgstart cgbase end_of summary_holds
small_is_read_in_the_other_order = refl

small_is_refused :
    (geometry_in (small_superblock Little) 1024 127 ≡ Err Size) × (geometry_in (small_superblock Little) 512 128 ≡ Err Fsize)
    × (geometry_in (take 1372 (small_superblock Big) ++ four Little 0x00011954) 1024 128 ≡ Err Format)
    × (geometry_in (take 1372 (small_superblock Big) ++ four Big 0x00011955) 1024 128 ≡ Err Magic)
unfolding geometry_in geometry_by endian_of fields number_at format_holds frag_holds is_block_size is_fragment_count groups_hold inodes_hold layout_holds group_fits cgstart cgbase end_of summary_holds
small_is_refused = (refl, refl, refl, refl)

-- ---- inodes

abbrev small_file : Inode
small_file = record { mode = 0x81a4; size = 5; db = 34 ∷ replicate 11 0; ib = 0 ∷ 0 ∷ 0 ∷ [] }

inode_of_a_small_file :
    inode_in Little (164 ∷ 129 ∷ 1 ∷ gap 5 ++ 5 ∷ gap 31 ++ 34 ∷ gap 87) ≡ Some small_file
unfolding inode_in number_at
inode_of_a_small_file = refl

kinds : map kind_of (0x11a4 ∷ 0x2000 ∷ 0x41ed ∷ 0x6000 ∷ 0x81a4 ∷ 0xa000 ∷ 0xc000 ∷ 0x01a4 ∷ 0xe000 ∷ [])
    ≡ Pipe ∷ Character ∷ Directory ∷ Block ∷ Regular ∷ Link ∷ Socket ∷ Unknown ∷ Unknown ∷ []
unfolding kind_of
kinds = refl

-- five bytes take one fragment; a pointer past the end of the file claims a whole file block
spans_of_a_small_file : map (span small small_file) (0 ∷ 1 ∷ 11 ∷ 12 ∷ 14 ∷ []) ≡ 1 ∷ 4 ∷ 4 ∷ 4 ∷ 4 ∷ []
unfolding span
spans_of_a_small_file = refl

-- a hole, and then 1500 bytes
abbrev sparse_file : Inode
sparse_file = record { mode = 0x81a4; size = 5596; db = 0 ∷ 92 ∷ replicate 10 0; ib = 0 ∷ 0 ∷ 0 ∷ [] }

spans_of_a_sparse_file : map (span small sparse_file) (0 ∷ 1 ∷ 2 ∷ []) ≡ 4 ∷ 2 ∷ 4 ∷ []
unfolding span
spans_of_a_sparse_file = refl

-- ---- the group block

abbrev small_group : List ℕ
small_group = gap 4 ++ four Little 0x00090255 ++ gap 4 ++ four Little 0 ++ gap 4 ++ four Little 128 ++ gap 68
    ++ four Little 256 ++ four Little 260 ++ gap 156 ++ 0x0f ∷ 0x80 ∷ gap 2 ++ gap 4 ++ 0x04 ∷ []

small_group_is_read : group_in small 0 small_group ≡ Ok (record { c = 0; iusedoff = 256; freeoff = 260; count = 128 })
unfolding group_in group_fields group_magic_holds maps_hold number_at cgbase end_of
small_group_is_read = refl

marks_of_small_group :
    (map (is_used small_group (record { c = 0; iusedoff = 256; freeoff = 260; count = 128 })) (3 ∷ 4 ∷ 14 ∷ 15 ∷ []) ≡ true ∷ false ∷ false ∷ true ∷ [])
    × (map (is_free small_group (record { c = 0; iusedoff = 256; freeoff = 260; count = 128 })) (33 ∷ 34 ∷ 35 ∷ []) ≡ false ∷ true ∷ false ∷ [])
unfolding is_set
marks_of_small_group = (refl, refl)

-- ---- a chunk of a directory

-- `.` and `..`, both inode 2; the second goes to the end of the chunk
abbrev root_chunk : List ℕ
root_chunk = 2 ∷ 0 ∷ 0 ∷ 0 ∷ 12 ∷ 0 ∷ 4 ∷ 1 ∷ 46 ∷ 0 ∷ 0 ∷ 0 ∷ 2 ∷ 0 ∷ 0 ∷ 0 ∷ 244 ∷ 1 ∷ 4 ∷ 2 ∷ 46 ∷ 46 ∷ gap 490

entries_of_a_root : chunk_in Little root_chunk
    ≡ Ok (record { inode = 2; kind = 4; name = 46 ∷ [] } ∷ record { inode = 2; kind = 4; name = 46 ∷ 46 ∷ [] } ∷ [])
unfolding chunk_in fault_in entries_in fault_at entry_in reclen_holds is_name number_at
entries_of_a_root = refl

names_of_a_root : (find_in Little (46 ∷ 46 ∷ []) root_chunk ≡ FoundAt 2) × (find_in Little (97 ∷ []) root_chunk ≡ Absent)
unfolding find_in chunk_in fault_in entries_in fault_at entry_in reclen_holds is_name number_at
names_of_a_root = (refl, refl)

-- the name stands before an entry that goes past the chunk
a_chunk_is_judged_whole : find_in Little (46 ∷ []) (2 ∷ 0 ∷ 0 ∷ 0 ∷ 12 ∷ 0 ∷ 4 ∷ 1 ∷ 46 ∷ 0 ∷ 0 ∷ 0 ∷ 0 ∷ 0 ∷ 0 ∷ 0 ∷ 248 ∷ 1 ∷ gap 494) ≡ Bad Reclen
unfolding find_in chunk_in fault_in entries_in fault_at entry_in reclen_holds is_name number_at
a_chunk_is_judged_whole = refl

refused_entries :
    (fault_at Little (gap 4) ≡ Some Cut)
    × (fault_at Little (3 ∷ 0 ∷ 0 ∷ 0 ∷ 12 ∷ 0 ∷ 8 ∷ 4 ∷ 97 ∷ 97 ∷ 97 ∷ 97 ∷ gap 4) ≡ Some Reclen)
    × (fault_at Little (3 ∷ 0 ∷ 0 ∷ 0 ∷ 12 ∷ 0 ∷ 8 ∷ 2 ∷ 97 ∷ 47 ∷ gap 2) ≡ Some Name)
    × (fault_at Little (gap 4 ++ 8 ∷ gap 2 ++ 255 ∷ []) ≡ None)
unfolding fault_at reclen_holds is_name number_at
refused_entries = (refl, refl, refl, refl)

-- ---- where a file block is found

-- 1024 pointers an indirect block; 2^30 - 1 is the last file block that there may be
chains_of_small : map (locate_of small) (0 ∷ 11 ∷ 12 ∷ 1035 ∷ 1036 ∷ 1049611 ∷ 1049612 ∷ 1073741823 ∷ [])
    ≡ Direct 0 ∷ Direct 11 ∷ One 0 ∷ One 1023 ∷ Two 0 0 ∷ Two 1023 1023 ∷ Three 0 0 0 ∷ Three 1022 1022 1011 ∷ []
unfolding locate_of
chains_of_small = refl

-- a hole, four fragments of data, inodes, and a file block that would go past the end of the volume
addresses_of_small : map (λ a. address small a 4) (0 ∷ 33 ∷ 28 ∷ 124 ∷ 125 ∷ []) ≡ Hole ∷ At 33 4 ∷ Wild ∷ At 124 4 ∷ Wild ∷ []
unfolding address is_data_run role role_in cgstart cgbase
addresses_of_small = refl

-- a file of 13 file blocks, of which the last is found through the indirect block at 84
abbrev long_file : Inode
long_file = record { mode = 0x81a4; size = 53248; db = replicate 12 36; ib = 84 ∷ 0 ∷ 0 ∷ [] }

abbrev small_volume : Volume
small_volume = replicate 84 [] ++ (88 ∷ gap 1023) ∷ gap 1024 ∷ gap 1024 ∷ gap 1024 ∷ []

the_last_block_of_a_long_file : file_block_of small long_file 12 small_volume ≡ record { value = At 88 4; needs = 84 ∷ 85 ∷ 86 ∷ 87 ∷ [] }
unfolding file_block_of locate_of through address is_data_run role role_in cgstart cgbase area_of bind number_at span
the_last_block_of_a_long_file = refl

-- ---- paths

names_of_paths : map names_of ((47 ∷ []) ∷ (47 ∷ 97 ∷ []) ∷ (47 ∷ 97 ∷ 98 ∷ 47 ∷ 99 ∷ []) ∷ []) ≡ [] ∷ ((97 ∷ []) ∷ []) ∷ ((97 ∷ 98 ∷ []) ∷ (99 ∷ []) ∷ []) ∷ []
names_of_paths = refl

abbrev inode_row : ℕ → ℕ → ℕ → ℕ → List ℕ
inode_row mode size first second = little_bytes 2 mode ++ gap 6 ++ four Little size ++ gap 28 ++ four Little first ++ four Little second ++ gap 80

-- `.` and `..`, the file `a` of five bytes, the sparse file `h`, and `x`, an entry for an unallocated inode
abbrev root_block : List ℕ
root_block = 2 ∷ gap 3 ++ 12 ∷ 0 ∷ 4 ∷ 1 ∷ 46 ∷ gap 3 ++ 2 ∷ gap 3 ++ 12 ∷ 0 ∷ 4 ∷ 2 ∷ 46 ∷ 46 ∷ gap 2
    ++ 3 ∷ gap 3 ++ 12 ∷ 0 ∷ 8 ∷ 1 ∷ 97 ∷ gap 3 ++ 4 ∷ gap 3 ++ 12 ∷ 0 ∷ 8 ∷ 1 ∷ 104 ∷ gap 3
    ++ 5 ∷ gap 3 ++ 208 ∷ 1 ∷ 8 ∷ 1 ∷ 120 ∷ gap 455

-- the superblock in 8 and 9, the inodes in 28, the root in 33, the file in 34, the end of the sparse file in 36 and 37
abbrev path_volume : Volume
path_volume = replicate 8 [] ++ take 1024 (small_superblock Little) ∷ drop 1024 (small_superblock Little) ∷ []
    ++ replicate 18 [] ++ (gap 256 ++ inode_row 0x41ed 512 33 0 ++ inode_row 0x81a4 5 34 0 ++ inode_row 0x81a4 4100 0 36 ++ gap 512) ∷ []
    ++ replicate 4 [] ++ root_block ∷ (104 ∷ 101 ∷ 108 ∷ 108 ∷ 111 ∷ gap 1019) ∷ [] ∷ (replicate 1024 104) ∷ []

cat_of_a_small_file : cat_of 1024 128 (47 ∷ 97 ∷ []) path_volume
    ≡ record { value = Ok (104 ∷ 101 ∷ 108 ∷ 108 ∷ 111 ∷ []); needs = 8 ∷ 9 ∷ 28 ∷ 33 ∷ 28 ∷ 34 ∷ [] }
unfolding cat_of volume_geometry geometry_of superblock_of area_within area_of bind and_then look_from named_inode inode_of inode_in inode_block inode_byte find_of directory_refusal file_refusal kind_of find_from find_in_block chunks_of block_of bytes_at file_block_of locate_of address is_data_run role role_in span find_through find_in chunk_in fault_in entries_in fault_at entry_in reclen_holds is_name contents_of front_of part_of geometry_in geometry_by endian_of fields number_at format_holds frag_holds is_block_size is_fragment_count groups_hold inodes_hold layout_holds group_fits cgstart cgbase end_of summary_holds
cat_of_a_small_file = refl

-- the first file block is a hole; of the second every fragment is consulted that its four bytes take
cat_of_a_sparse_file : cat_of 1024 128 (47 ∷ 104 ∷ []) path_volume
    ≡ record { value = Ok (gap 4096 ++ replicate 4 104); needs = 8 ∷ 9 ∷ 28 ∷ 33 ∷ 28 ∷ 36 ∷ [] }
unfolding cat_of volume_geometry geometry_of superblock_of area_within area_of bind and_then look_from named_inode inode_of inode_in inode_block inode_byte find_of directory_refusal file_refusal kind_of find_from find_in_block chunks_of block_of bytes_at file_block_of locate_of address is_data_run role role_in span find_through find_in chunk_in fault_in entries_in fault_at entry_in reclen_holds is_name contents_of front_of part_of geometry_in geometry_by endian_of fields number_at format_holds frag_holds is_block_size is_fragment_count groups_hold inodes_hold layout_holds group_fits cgstart cgbase end_of summary_holds
cat_of_a_sparse_file = refl

-- no such name; a name below a file; the root itself; an entry for an unallocated inode; and a volume of zeros, or of one block
refused_paths : map (λ path. cat_of 1024 128 path path_volume) ((47 ∷ 122 ∷ []) ∷ (47 ∷ 97 ∷ 47 ∷ 98 ∷ []) ∷ (47 ∷ []) ∷ (47 ∷ 120 ∷ []) ∷ [])
    ≡ record { value = Err NotFound; needs = 8 ∷ 9 ∷ 28 ∷ 33 ∷ [] }
    ∷ record { value = Err NotDirectory; needs = 8 ∷ 9 ∷ 28 ∷ 33 ∷ 28 ∷ [] }
    ∷ record { value = Err NotRegular; needs = 8 ∷ 9 ∷ 28 ∷ [] }
    ∷ record { value = Err (PathBad Entry); needs = 8 ∷ 9 ∷ 28 ∷ 33 ∷ 28 ∷ [] } ∷ []
unfolding cat_of volume_geometry geometry_of superblock_of area_within area_of bind and_then look_from named_inode inode_of inode_in inode_block inode_byte find_of directory_refusal file_refusal kind_of find_from find_in_block chunks_of block_of bytes_at file_block_of locate_of address is_data_run role role_in span find_through find_in chunk_in fault_in entries_in fault_at entry_in reclen_holds is_name contents_of front_of part_of geometry_in geometry_by endian_of fields number_at format_holds frag_holds is_block_size is_fragment_count groups_hold inodes_hold layout_holds group_fits cgstart cgbase end_of summary_holds
refused_paths = refl

volumes_without_a_superblock : map (λ n. cat_of 1024 n (47 ∷ 97 ∷ []) (replicate 128 [])) (1 ∷ 9 ∷ 128 ∷ [])
    ≡ record { value = Err (PathBad (BadSuperblock Magic)); needs = [] }
    ∷ record { value = Err (PathBad (BadSuperblock Magic)); needs = 8 ∷ [] }
    ∷ record { value = Err (PathBad (BadSuperblock Magic)); needs = 8 ∷ 9 ∷ [] } ∷ []
unfolding cat_of volume_geometry geometry_of superblock_of area_within area_of bind and_then look_from named_inode inode_of inode_in inode_block inode_byte find_of directory_refusal file_refusal kind_of find_from find_in_block chunks_of block_of bytes_at file_block_of locate_of address is_data_run role role_in span find_through find_in chunk_in fault_in entries_in fault_at entry_in reclen_holds is_name contents_of front_of part_of geometry_in geometry_by endian_of fields number_at format_holds frag_holds is_block_size is_fragment_count groups_hold inodes_hold layout_holds group_fits cgstart cgbase end_of summary_holds
volumes_without_a_superblock = refl

-- ---- listings

abbrev root_inode : Inode
root_inode = record { mode = 0x41ed; size = 512; db = 33 ∷ replicate 11 0; ib = 0 ∷ 0 ∷ 0 ∷ [] }

-- a volume whose root has its two own entries alone
abbrev empty_volume : Volume
empty_volume = replicate 28 [] ++ (gap 256 ++ inode_row 0x41ed 512 33 0 ++ gap 640) ∷ replicate 4 [] ++ root_chunk ∷ []

listing_of_an_empty_root : listing_of small root_inode empty_volume
    ≡ record {
      value = Ok (record { depth = 1; inode = 2; kind = Directory; size = 512; name = 46 ∷ [] } ∷ record { depth = 1; inode = 2; kind = Directory; size = 512; name = 46 ∷ 46 ∷ [] } ∷ []);
      needs = 33 ∷ 28 ∷ 28 ∷ [];
    }
unfolding listing_of listed_entries listed_entry entries_of entries_before area_of bind and_then named_inode inode_of inode_in inode_block inode_byte directory_refusal kind_of chunks_of block_of bytes_at file_block_of locate_of address is_data_run role role_in span chunk_in fault_in entries_in fault_at entry_in reclen_holds is_name number_at cgstart cgbase
listing_of_an_empty_root = refl

-- ---- claims

-- five bytes claim one fragment, an indirect slot a whole file block, and so does a slot past the end of the file
slots_claim : (map (slot_fragments small small_file) (0 ∷ 1 ∷ 12 ∷ []) ≡ (34 ∷ []) ∷ [] ∷ [] ∷ [])
    × (map (slot_fragments small long_file) (12 ∷ 13 ∷ 15 ∷ []) ≡ (84 ∷ 85 ∷ 86 ∷ 87 ∷ []) ∷ [] ∷ [] ∷ [])
    × (slot_fragments small (record { mode = 0x81a4; size = 5; db = 34 ∷ 96 ∷ replicate 10 0; ib = 0 ∷ 0 ∷ 0 ∷ [] }) 1 ≡ 96 ∷ 97 ∷ 98 ∷ 99 ∷ [])
unfolding slot_fragments span kind_of address is_data_run role role_in cgstart cgbase
slots_claim = (refl, refl, refl)

-- a pointer of an indirect block claims a whole file block; 0 and a wild one claim nothing, and so does one past the fragment
pointers_claim : map (pointer_fragments small (88 ∷ gap 7 ++ 28 ∷ gap 1015 ++ 88 ∷ gap 3)) (0 ∷ 1 ∷ 2 ∷ 256 ∷ []) ≡ (88 ∷ 89 ∷ 90 ∷ 91 ∷ []) ∷ [] ∷ [] ∷ [] ∷ []
unfolding pointer_fragments number_at address is_data_run role role_in cgstart cgbase
pointers_claim = refl

-- of a volume: the file `a`, the end of the sparse file, no slot of inode 1, and none of an unallocated inode
sources_claim : map (source_fragments small path_volume) (Slot 3 0 ∷ Slot 4 1 ∷ Slot 1 0 ∷ Slot 5 0 ∷ []) ≡ (34 ∷ []) ∷ (36 ∷ []) ∷ [] ∷ [] ∷ []
unfolding source_fragments slot_fragments inode_of inode_in inode_block inode_byte number_at span kind_of address is_data_run role role_in cgstart cgbase bind
sources_claim = refl

levels : map level_of (Slot 3 0 ∷ Slot 3 11 ∷ Slot 3 12 ∷ Slot 3 14 ∷ Pointer 84 1 0 ∷ Pointer 84 3 0 ∷ []) ≡ 0 ∷ 0 ∷ 1 ∷ 3 ∷ 0 ∷ 2 ∷ []
levels = refl

-- ---- malformations

first_blocks : map (first_block small) (0 ∷ 11 ∷ 12 ∷ 13 ∷ 14 ∷ []) ≡ 0 ∷ 11 ∷ 12 ∷ 1036 ∷ 1049612 ∷ []
first_blocks = refl

-- claims on a fragment stand in the order of their levels, then slots before pointers, and these by their numbers
claims_in_order : map (λ (pair : ClaimSource × ClaimSource). is_earlier_claim pair.0 pair.1)
    ((Slot 5 0, Slot 3 12) ∷ (Slot 3 12, Slot 5 0) ∷ (Slot 3 1, Slot 5 0) ∷ (Slot 5 1, Slot 5 0) ∷ (Slot 9 0, Pointer 4 1 0)
    ∷ (Pointer 4 2 9, Pointer 4 2 10) ∷ (Pointer 5 2 0, Pointer 4 2 10) ∷ (Slot 5 0, Slot 5 0) ∷ [])
    ≡ true ∷ false ∷ true ∷ false ∷ true ∷ true ∷ false ∷ false ∷ []
claims_in_order = refl

-- ---- the other order of bytes

inode_in_the_other_order :
    inode_in Big (129 ∷ 164 ∷ gap 6 ++ gap 7 ++ 5 ∷ gap 24 ++ four Big 34 ++ gap 84) ≡ Some small_file
unfolding inode_in number_at
inode_in_the_other_order = refl

-- the same bytes read in the wrong order are another inode
inode_in_the_wrong_order : option_map (λ inode. inode.mode) (inode_in Little (129 ∷ 164 ∷ gap 126)) ≡ Some 0xa481
unfolding inode_in number_at
inode_in_the_wrong_order = refl

entries_in_the_other_order :
    chunk_in Big (gap 3 ++ 2 ∷ 0 ∷ 12 ∷ 4 ∷ 1 ∷ 46 ∷ gap 3 ++ gap 3 ++ 2 ∷ 1 ∷ 244 ∷ 4 ∷ 2 ∷ 46 ∷ 46 ∷ gap 490)
    ≡ Ok (record { inode = 2; kind = 4; name = 46 ∷ [] } ∷ record { inode = 2; kind = 4; name = 46 ∷ 46 ∷ [] } ∷ [])
unfolding chunk_in fault_in entries_in fault_at entry_in reclen_holds is_name number_at
entries_in_the_other_order = refl

-- a chunk of the one order is refused in the other: its first entry would have 3072 bytes
entries_in_the_wrong_order : chunk_in Big root_chunk ≡ Err Reclen
unfolding chunk_in fault_in entries_in fault_at entry_in reclen_holds is_name number_at
entries_in_the_wrong_order = refl

pointers_in_the_other_order :
    map (pointer_fragments (record small { endian = Big }) (gap 3 ++ 88 ∷ gap 3 ++ 28 ∷ gap 1016)) (0 ∷ 1 ∷ 2 ∷ []) ≡ (88 ∷ 89 ∷ 90 ∷ 91 ∷ []) ∷ [] ∷ [] ∷ []
unfolding pointer_fragments number_at address is_data_run role role_in cgstart cgbase
pointers_in_the_other_order = refl
