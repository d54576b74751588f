-- Reading by path: the names of a path, the entries of a directory, the contents of a file. The
-- root is `ROOTINO` of `dinode.h`; directories are those of `dir.h`. What is refused, in which
-- order, and that a file block is always consulted whole are this project's rules.
use Rattle.std.specs.Prelude.{ℕ, zero, suc, ◌-◌, ◌*◌, ◌/◌, ◌%◌, ◌^◌, ◌==◌, ◌&&◌, ◌||◌, nat_lt, nat_le, min, Bool, true, false, List, [], ◌∷◌, ◌++◌, Option, Some, None, Result, Ok, Err, if◌then◌else◌, filter, length, replicate, take, drop}
use Rattle.std.specs.List.{list_all}
use Rattle.std.specs.Option.{ok_or}
use Rattle.ufs_model.specs.Blocks.{Reading, known, area_of, ◌>>=◌}
use Rattle.ufs_model.specs.Chunks.{DirEntry, chunk_in, find_in, is_name, used_entries}
use Rattle.ufs_model.specs.Inodes.{block_count, inode_of, is_inode_number, kind_of}
use Rattle.ufs_model.specs.Pointers.{file_block_of}
use Rattle.ufs_model.specs.Readings.{and_then}
use Rattle.ufs_model.specs.Superblocks.{geometry_of}
use Rattle.ufs_model.specs.declared.chunks.BadEntry.{BadEntry}
use Rattle.ufs_model.specs.declared.chunks.Found.{Found}
use Rattle.ufs_model.specs.declared.chunks.Found.TheVariants.{Absent}
use Rattle.ufs_model.specs.declared.chunks.Found.TheVariants.{At as FoundAt, Bad as FoundBad}
use Rattle.ufs_model.specs.declared.geometries.BadSuper.{BadSuper}
use Rattle.ufs_model.specs.declared.geometries.Geometry.{Geometry}
use Rattle.ufs_model.specs.declared.inodes.Inode.{Inode}
use Rattle.ufs_model.specs.declared.inodes.Kind.{Kind}
use Rattle.ufs_model.specs.declared.inodes.Kind.TheVariants.{Regular, Directory, Link, Pipe, Character, Block, Socket, Unknown}
use Rattle.ufs_model.specs.declared.numbers.Endian.{Endian}
use Rattle.ufs_model.specs.declared.pointers.Address.{Address}
use Rattle.ufs_model.specs.declared.pointers.Address.TheVariants.{Hole as AddressHole, Wild as AddressWild, At}
use Rattle.ufs_model.specs.declared.reads.BadRead.TheVariants.{Super, Wild, Filesize, Hole, Chunk, Entry}
use Rattle.ufs_model.specs.declared.reads.PathRefusal.{PathRefusal}
use Rattle.ufs_model.specs.declared.reads.PathRefusal.TheVariants.{NotFound, NotDirectory, NotRegular, Bad}

-- ---- answers that may be refused

-- this refusal, or else what is read
abbrev pub unless_refused : {A : Type 0} → Option PathRefusal → Reading (Result A PathRefusal) → Reading (Result A PathRefusal)
unless_refused None reading = reading
unless_refused (Some refusal) reading = known (Err refusal)

-- the first of two refusals
abbrev pub refused_first : Option PathRefusal → Option PathRefusal → Option PathRefusal
refused_first None further = further
refused_first (Some refusal) further = Some refusal

-- ---- file blocks

-- why a file of this size isn't read
abbrev pub size_refusal : Inode → Option PathRefusal
size_refusal inode = if nat_le (2 ^ 32) inode.size then Some (Bad Filesize) else None

-- the bytes at an address; there are none in a hole
unfoldable pub bytes_at : Geometry → Address → Reading (Result (Option (List ℕ)) PathRefusal)
bytes_at g AddressHole = known (Ok None)
bytes_at g AddressWild = known (Err (Bad Wild))
bytes_at g (At a k) = area_of g.fsize a k >>= λ bytes. known (Ok (Some bytes))

-- File block n: every fragment that it claims is consulted, also past the end of the file.
unfoldable pub block_of : Geometry → Inode → ℕ → Reading (Result (Option (List ℕ)) PathRefusal)
block_of g inode n = file_block_of g inode n >>= bytes_at g

-- how many bytes of the file stand in file block n
abbrev pub bytes_in_block : Geometry → Inode → ℕ → ℕ
bytes_in_block g inode n = min g.bsize (inode.size - n * g.bsize)

-- ---- the contents of a file

-- so many bytes from the front of a file block; a hole reads as zeros
abbrev pub front_in : ℕ → Option (List ℕ) → List ℕ
front_in count None = replicate count 0
front_in count (Some bytes) = take count bytes

-- the bytes of a file that stand in its file block n
unfoldable pub part_of : Geometry → Inode → ℕ → Reading (Result (List ℕ) PathRefusal)
part_of g inode n =
    and_then (block_of g inode n) (λ block. known (Ok (front_in (bytes_in_block g inode n) block)))

-- the bytes of a file that stand in its first k file blocks
unfoldable pub front_of : Geometry → Inode → ℕ → Reading (Result (List ℕ) PathRefusal)
front_of g inode zero = known (Ok [])
front_of g inode (suc k) =
    and_then (front_of g inode k) (λ front.
    and_then (part_of g inode k) (λ part.
    known (Ok (front ++ part))))

abbrev pub is_regular : Kind → Bool
is_regular Regular = true
is_regular Directory = false
is_regular Link = false
is_regular Pipe = false
is_regular Character = false
is_regular Block = false
is_regular Socket = false
is_regular Unknown = false

-- why the contents of an inode aren't read
unfoldable pub file_refusal : Inode → Option PathRefusal
file_refusal inode = if is_regular (kind_of inode.mode) then size_refusal inode else Some NotRegular

-- the bytes of a regular file
unfoldable pub contents_of : Geometry → Inode → Reading (Result (List ℕ) PathRefusal)
contents_of g inode = unless_refused (file_refusal inode) (front_of g inode (block_count g inode))

-- ---- directories

abbrev pub is_directory : Kind → Bool
is_directory Directory = true
is_directory Regular = false
is_directory Link = false
is_directory Pipe = false
is_directory Character = false
is_directory Block = false
is_directory Socket = false
is_directory Unknown = false

-- a directory is made of whole chunks (`DIRBLKSIZ`)
abbrev pub chunk_refusal : Inode → Option PathRefusal
chunk_refusal inode = if inode.size % 512 == 0 then None else Some (Bad Chunk)

-- why no name is looked for in an inode
unfoldable pub directory_refusal : Inode → Option PathRefusal
directory_refusal inode =
    if is_directory (kind_of inode.mode) then refused_first (size_refusal inode) (chunk_refusal inode) else Some NotDirectory

-- so many chunks from the front of a file block
abbrev pub chunks_in : ℕ → List ℕ → List (List ℕ)
chunks_in zero bytes = []
chunks_in (suc count) bytes = take 512 bytes ∷ chunks_in count (drop 512 bytes)

-- the chunks in file block n of a directory, which has no hole
unfoldable pub chunks_of : Geometry → Inode → ℕ → Reading (Result (List (List ℕ)) PathRefusal)
chunks_of g inode n =
    and_then (block_of g inode n) (λ block.
    and_then (known (ok_or block (Bad Hole))) (λ bytes.
    known (Ok (chunks_in (bytes_in_block g inode n / 512) bytes))))

-- the entries of a chunk, and then those of the chunks after it
abbrev pub entries_then : Result (List DirEntry) BadEntry → Result (List DirEntry) PathRefusal → Result (List DirEntry) PathRefusal
entries_then (Err bad) further = Err (Bad Chunk)
entries_then (Ok entries) (Ok further) = Ok (used_entries entries ++ further)
entries_then (Ok entries) (Err refusal) = Err refusal

-- the used entries of chunks, or that one of them is refused
abbrev pub entries_through : Endian → List (List ℕ) → Result (List DirEntry) PathRefusal
entries_through endian [] = Ok []
entries_through endian (chunk ∷ chunks) = entries_then (chunk_in endian chunk) (entries_through endian chunks)

-- the used entries in the first k file blocks of a directory
unfoldable pub entries_before : Geometry → Inode → ℕ → Reading (Result (List DirEntry) PathRefusal)
entries_before g inode zero = known (Ok [])
entries_before g inode (suc k) =
    and_then (entries_before g inode k) (λ front.
    and_then (chunks_of g inode k) (λ chunks.
    and_then (known (entries_through g.endian chunks)) (λ entries.
    known (Ok (front ++ entries)))))

-- the used entries of a directory, chunk after chunk
unfoldable pub entries_of : Geometry → Inode → Reading (Result (List DirEntry) PathRefusal)
entries_of g inode = unless_refused (directory_refusal inode) (entries_before g inode (block_count g inode))

-- this, or, where the name is absent, what is found further on
abbrev pub found_or : Found → Found → Found
found_or (FoundAt i) further = FoundAt i
found_or (FoundBad bad) further = FoundBad bad
found_or Absent further = further

-- The first used entry with a name. No chunk is looked at after the first that has it or is refused.
unfoldable pub find_through : Endian → List ℕ → List (List ℕ) → Found
find_through endian name [] = Absent
find_through endian name (chunk ∷ chunks) = found_or (find_in endian name chunk) (find_through endian name chunks)

-- the inode that was found, if one was; a refused chunk makes its volume bad
abbrev pub or_bad_chunk : Found → Result (Option ℕ) PathRefusal
or_bad_chunk (FoundAt i) = Ok (Some i)
or_bad_chunk (FoundBad bad) = Err (Bad Chunk)
or_bad_chunk Absent = Ok None

-- the inode under a name in file block n of a directory, if it has the name
unfoldable pub find_in_block : Geometry → Inode → List ℕ → ℕ → Reading (Result (Option ℕ) PathRefusal)
find_in_block g inode name n =
    and_then (chunks_of g inode n) (λ chunks. known (or_bad_chunk (find_through g.endian name chunks)))

-- the inode that was found, or what is read where there is none
abbrev pub found_else : Option ℕ → Reading (Result ℕ PathRefusal) → Reading (Result ℕ PathRefusal)
found_else (Some i) further = known (Ok i)
found_else None further = further

-- the inode under a name in count file blocks of a directory from block n on; the first that has it ends the search
unfoldable pub find_from : Geometry → Inode → List ℕ → ℕ → ℕ → Reading (Result ℕ PathRefusal)
find_from g inode name n zero = known (Err NotFound)
find_from g inode name n (suc count) =
    and_then (find_in_block g inode name n) (λ found.
    found_else found (find_from g inode name (suc n) count))

-- the inode under a name in a directory
unfoldable pub find_of : Geometry → Inode → List ℕ → Reading (Result ℕ PathRefusal)
find_of g inode name = unless_refused (directory_refusal inode) (find_from g inode name 0 (block_count g inode))

-- ---- paths

-- a byte in front of the first of some parts
abbrev pub in_part : ℕ → List (List ℕ) → List (List ℕ)
in_part b [] = (b ∷ []) ∷ []
in_part b (part ∷ parts) = (b ∷ part) ∷ parts

-- the parts of a path between its slashes
abbrev pub parts_of : List ℕ → List (List ℕ)
parts_of [] = [] ∷ []
parts_of (b ∷ bytes) = if b == 47 then [] ∷ parts_of bytes else in_part b (parts_of bytes)

-- the names of a path: none of `/`, and a and b of `/a/b`
abbrev pub names_of : List ℕ → List (List ℕ)
names_of path = filter (λ part. nat_lt 0 (length part)) (parts_of path)

-- an inode that has to be allocated
abbrev pub allocated : Geometry → ℕ → Reading (Result Inode PathRefusal)
allocated g i = inode_of g i >>= λ found. known (ok_or found (Bad Entry))

-- an inode that a path leads to; the root is the first that there may be
unfoldable pub named_inode : Geometry → ℕ → Reading (Result Inode PathRefusal)
named_inode g i = if is_inode_number g i then allocated g i else known (Err (Bad Entry))

-- where names lead, one after the other, from inode i
unfoldable pub look_from : Geometry → List (List ℕ) → ℕ → Reading (Result (ℕ × Inode) PathRefusal)
look_from g [] i = and_then (named_inode g i) (λ inode. known (Ok (i, inode)))
look_from g (name ∷ names) i =
    and_then (named_inode g i) (λ inode.
    and_then (find_of g inode name) (λ next.
    look_from g names next))

-- a superblock that is refused makes its volume bad
abbrev pub or_bad_super : Result Geometry BadSuper → Result Geometry PathRefusal
or_bad_super (Ok g) = Ok g
or_bad_super (Err kind) = Err (Bad (Super kind))

-- the geometry of a volume on n blocks of l bytes
unfoldable pub volume_geometry : ℕ → ℕ → Reading (Result Geometry PathRefusal)
volume_geometry l n = geometry_of l n >>= λ found. known (or_bad_super found)

-- the inode at a path, with its number
unfoldable pub look_of : ℕ → ℕ → List ℕ → Reading (Result (ℕ × Inode) PathRefusal)
look_of l n path =
    and_then (volume_geometry l n) (λ g.
    look_from g (names_of path) 2)

-- the bytes of the file at a path
unfoldable pub cat_of : ℕ → ℕ → List ℕ → Reading (Result (List ℕ) PathRefusal)
cat_of l n path =
    and_then (volume_geometry l n) (λ g.
    and_then (look_from g (names_of path) 2) (λ found.
    contents_of g found.1))

-- a name of a path: 1 to 255 bytes (`MAXNAMLEN`), none of them 0 or a slash
unfoldable pub is_path_name : List ℕ → Bool
is_path_name name = is_name name && nat_le (length name) 255

-- the names that stand after slashes: a and b of `/a/b`, and none of no bytes
abbrev pub names_after : List ℕ → List (List ℕ)
names_after [] = []
names_after (b ∷ bytes) = parts_of bytes

-- A path: `/`, or names with a slash in front of each. It has at most 1023 bytes (`MAXPATHLEN` of `param.h` counts a zero byte
-- at its end).
unfoldable pub is_path : List ℕ → Bool
is_path [] = false
is_path (b ∷ bytes) =
    (b == 47) && (nat_le (length (b ∷ bytes)) 1023 && (nat_le (length (b ∷ bytes)) 1 || list_all is_path_name (names_after (b ∷ bytes))))
