-- Inodes (`struct dinode` in `dinode.h`): their fields, kinds and places, and what their slots span.
use Rattle.std.specs.Prelude.{ℕ, zero, suc, ◌+◌, ◌-◌, ◌*◌, ◌/◌, ◌%◌, ◌==◌, nat_lt, nat_le, ◌&&◌, Bool, true, false, List, [], ◌∷◌, Option, Some, None, if◌then◌else◌, bit_and, take, drop, slice_index}
use Rattle.std.specs.Int.{div_ceil}
use Rattle.ufs_model.specs.Numbers.{number_at}
use Rattle.ufs_model.specs.Blocks.{Reading, known, consult, ◌>>=◌}
use Rattle.ufs_model.specs.Geometries.{cgstart}
use Rattle.ufs_model.specs.declared.numbers.Endian.{Endian}
use Rattle.ufs_model.specs.declared.geometries.Geometry.{Geometry}
use Rattle.ufs_model.specs.declared.inodes.Inode.{Inode}
use Rattle.ufs_model.specs.declared.inodes.Kind.{Kind}
use Rattle.ufs_model.specs.declared.inodes.Kind.TheVariants.{Regular, Directory, Link, Pipe, Character, Block, Socket, Unknown}

-- so many numbers of 32 bits from a place on
abbrev pub numbers_from : Endian → List ℕ → ℕ → ℕ → List ℕ
numbers_from endian bytes at zero = []
numbers_from endian bytes at (suc count) = number_at endian 4 bytes at ∷ numbers_from endian bytes (at + 4) count

-- the inode in 128 bytes; with mode 0 it is unallocated, and there is none
unfoldable pub inode_in : Endian → List ℕ → Option Inode
inode_in endian bytes =
    if number_at endian 2 bytes 0 == 0 then None
    else Some (record {
      mode = number_at endian 2 bytes 0;
      size = number_at endian 8 bytes 8;
      db = numbers_from endian bytes 40 12;
      ib = numbers_from endian bytes 88 3;
    })

-- the kind of a mode, by its type bits (`IFMT`, 0170000)
unfoldable pub kind_of : ℕ → Kind
kind_of mode =
    if bit_and mode 0xf000 == 0x8000 then Regular
    else if bit_and mode 0xf000 == 0x4000 then Directory
    else if bit_and mode 0xf000 == 0xa000 then Link
    else if bit_and mode 0xf000 == 0x1000 then Pipe
    else if bit_and mode 0xf000 == 0x2000 then Character
    else if bit_and mode 0xf000 == 0x6000 then Block
    else if bit_and mode 0xf000 == 0xc000 then Socket
    else Unknown

-- the type by which a directory's entry names a file of the kind (`DT_FIFO` to `DT_SOCK` in `dir.h`)
abbrev pub entry_type_of : Kind → Option ℕ
entry_type_of Pipe = Some 1
entry_type_of Character = Some 2
entry_type_of Directory = Some 4
entry_type_of Block = Some 6
entry_type_of Regular = Some 8
entry_type_of Link = Some 10
entry_type_of Socket = Some 12
entry_type_of Unknown = None

-- whether files of the kind have pointers: a link does where it is too long to stand in its inode
abbrev pub kind_has_pointers : Geometry → ℕ → Kind → Bool
kind_has_pointers g size Regular = true
kind_has_pointers g size Directory = true
kind_has_pointers g size Link = nat_le g.maxsymlinklen size
kind_has_pointers g size Pipe = false
kind_has_pointers g size Character = false
kind_has_pointers g size Block = false
kind_has_pointers g size Socket = false
kind_has_pointers g size Unknown = false

abbrev pub has_pointers : Geometry → Inode → Bool
has_pointers g inode = kind_has_pointers g inode.size (kind_of inode.mode)

-- Where inode i stands (`ino_to_fsba`, `ino_to_fsbo`): from the first fragment of the file block
-- with it, that many bytes on.
abbrev pub inode_area : Geometry → ℕ → ℕ
inode_area g i = cgstart g (i / g.ipg) + g.iblkno + g.frag * (i % g.ipg / g.inopb)

abbrev pub inode_offset : Geometry → ℕ → ℕ
inode_offset g i = 128 * (i % g.ipg % g.inopb)

-- the block with inode i, and its first byte there
unfoldable pub inode_block : Geometry → ℕ → ℕ
inode_block g i = inode_area g i + inode_offset g i / g.fsize

unfoldable pub inode_byte : Geometry → ℕ → ℕ
inode_byte g i = inode_offset g i % g.fsize

-- inodes are read from 2 on, which is the root's (`ROOTINO`), to the last
abbrev pub is_inode_number : Geometry → ℕ → Bool
is_inode_number g i = nat_le 2 i && nat_lt i (g.ncg * g.ipg)

-- the bytes of inode i in its block
abbrev pub inode_bytes : Geometry → ℕ → List ℕ → List ℕ
inode_bytes g i block = take 128 (drop (inode_byte g i) block)

-- inode i of a volume
unfoldable pub inode_of : Geometry → ℕ → Reading (Option Inode)
inode_of g i = consult g.fsize (inode_block g i) >>= λ block. known (inode_in g.endian (inode_bytes g i block))

-- the pointer in a slot: 0 to 11 are the direct ones, 12 to 14 the indirect ones
abbrev pub slot_of : Inode → ℕ → ℕ
slot_of inode slot = if nat_lt slot 12 then slice_index inode.db slot else slice_index inode.ib (slot - 12)

-- The fragments that a slot claims where it isn't 0. All claim a whole file block, but the direct
-- one of the last block of a file, which claims as many as that block's bytes take (`dblksize`).
unfoldable pub span : Geometry → Inode → ℕ → ℕ
span g inode slot =
    if nat_le 12 slot then g.frag
    else if nat_le ((slot + 1) * g.bsize) inode.size then g.frag
    else if nat_lt (slot * g.bsize) inode.size then div_ceil (inode.size % g.bsize) g.fsize
    else g.frag

-- the file blocks of a file
abbrev pub block_count : Geometry → Inode → ℕ
block_count g inode = div_ceil inode.size g.bsize

-- the fragments that file block n takes: from block 12 on, as an indirect slot, a whole file block
abbrev pub block_span : Geometry → Inode → ℕ → ℕ
block_span g inode n = span g inode n
