-- Which fragments the blocks of files take. The pointers of a file are those of `dinode.h` (`NDADDR`, `NIADDR`), and a block that
-- has no address yet gets one as in `ffs_balloc.c`; which fragments it gets is this project's choice.
use Rattle.std.specs.Prelude.{ℕ, zero, suc, ◌+◌, ◌-◌, ◌*◌, ◌/◌, ◌%◌, ◌==◌, ◌&&◌, ◌||◌, nat_le, nat_lt, not, Bool, true, false, List, [], ◌∷◌, ◌++◌, Option, Some, None, if◌then◌else◌, find, length, replicate, slice_index, slice_index_or, slice_set, take, drop}
use Rattle.std.specs.Int.{div_ceil}
use Rattle.std.specs.List.{list_all, range_with_len}
use Rattle.ufs_model.specs.Numbers.{all_below}
use Rattle.ufs_model.specs.Pointers.{is_data_run}
use Rattle.ufs_model.specs.declared.geometries.Geometry.{Geometry}
use Rattle.ufs_build.specs.Nodes.{Node}

-- ---- free fragments

-- for each fragment, whether a block of a file has it
abbrev pub is_used : List Bool → ℕ → Bool
is_used used f = slice_index_or used f false

-- a block of k fragments may begin here: it stays between two multiples of a file block's fragments, all of them are data of one
-- group, and no block has one
unfoldable pub fits : Geometry → List Bool → ℕ → ℕ → Bool
fits g used k a =
    nat_le (a % g.frag + k) g.frag && (is_data_run g a k && all_below (λ i. not (is_used used (a + i))) k)

-- the lowest such place
unfoldable pub lowest : Geometry → List Bool → ℕ → Option ℕ
lowest g used k = find (fits g used k) (range_with_len 0 g.size)

-- k fragments from a on get a block
abbrev pub marked : List Bool → ℕ → ℕ → List Bool
marked used a zero = used
marked used a (suc k) = slice_set (marked used a k) (a + k) true

-- ---- addresses of the blocks of a file

-- The addresses of a file's blocks, by their numbers, and of its indirect blocks at level 1, 2 and 3, by their numbers. 0 is none.
pub record Addresses : Type 0 where
  pub data_blocks : List ℕ
  pub ones : List ℕ
  pub twos : List ℕ
  pub threes : List ℕ

abbrev pub addresses_at : Addresses → ℕ → List ℕ
addresses_at addresses level =
    if level == 0 then addresses.data_blocks else if level == 1 then addresses.ones else if level == 2 then addresses.twos else addresses.threes

abbrev pub address_at : Addresses → ℕ → ℕ → ℕ
address_at addresses level index = slice_index (addresses_at addresses level) index

-- the block at a level has its address
unfoldable pub with_address : Addresses → ℕ → ℕ → ℕ → Addresses
with_address addresses level index a =
    if level == 0 then record addresses { data_blocks = slice_set addresses.data_blocks index a }
    else if level == 1 then record addresses { ones = slice_set addresses.ones index a }
    else if level == 2 then record addresses { twos = slice_set addresses.twos index a }
    else record addresses { threes = slice_set addresses.threes index a }

-- The first file block that is reached through the indirect blocks of a level, and how many are reached through each. The first
-- indirect block of a level is that of an inode's slot. The others of level 1 stand in those of level 2 in their order, and so on.
abbrev pub first_through : Geometry → ℕ → ℕ
first_through g level = if level == 1 then 12 else if level == 2 then 12 + g.nindir else 12 + g.nindir + g.nindir * g.nindir

abbrev pub count_through : Geometry → ℕ → ℕ
count_through g level = if level == 1 then g.nindir else if level == 2 then g.nindir * g.nindir else g.nindir * g.nindir * g.nindir

-- how many indirect blocks of a level a file of so many blocks may need
abbrev pub indirect_count : Geometry → ℕ → ℕ → ℕ
indirect_count g level blocks = div_ceil (blocks - first_through g level) (count_through g level)

unfoldable pub no_addresses : Geometry → ℕ → Addresses
no_addresses g blocks = record {
  data_blocks = replicate blocks 0;
  ones = replicate (indirect_count g 1 blocks) 0;
  twos = replicate (indirect_count g 2 blocks) 0;
  threes = replicate (indirect_count g 3 blocks) 0;
}

-- ---- placing blocks

-- The fragments with a block of some file, and the addresses of a file.
pub record Placed : Type 0 where
  pub used : List Bool
  pub addresses : Addresses

abbrev pub and_then : {A B : Type 0} → Option A → (A → Option B) → Option B
and_then None f = None
and_then (Some a) f = f a

-- a block is placed at an address, if one was found
abbrev pub placed_at : Placed → ℕ → ℕ → ℕ → Option ℕ → Option Placed
placed_at placed level index count None = None
placed_at placed level index count (Some a) =
    Some (record { used = marked placed.used a count; addresses = with_address placed.addresses level index a })

-- the block at a level gets an address, unless it has one
unfoldable pub with_block : Geometry → ℕ → ℕ → ℕ → Placed → Option Placed
with_block g level index count placed =
    if address_at placed.addresses level index == 0 then placed_at placed level index count (lowest g placed.used count) else Some placed

-- the indirect block at a level above file block n, if there is one
unfoldable pub with_block_above : Geometry → ℕ → ℕ → Placed → Option Placed
with_block_above g level n placed =
    if nat_lt n (first_through g level) then Some placed
    else with_block g level ((n - first_through g level) / count_through g level) g.frag placed

-- the fragments of file block n of a file of so many bytes: all of a file block, but for a last one that is reached directly
unfoldable pub fragments_of : Geometry → ℕ → ℕ → ℕ
fragments_of g size n =
    if nat_le 12 n || nat_le ((n + 1) * g.bsize) size then g.frag else div_ceil (size - n * g.bsize) g.fsize

-- file block n, and before it the indirect blocks above it, the highest first
unfoldable pub with_file_block : Geometry → ℕ → ℕ → Placed → Option Placed
with_file_block g size n placed =
    and_then (with_block_above g 3 n placed) (λ three.
    and_then (with_block_above g 2 n three) (λ two.
    and_then (with_block_above g 1 n two) (λ one.
    with_block g 0 n (fragments_of g size n) one)))

-- ---- files

-- the bytes of file block n
abbrev pub block_bytes : Geometry → List ℕ → ℕ → List ℕ
block_bytes g bytes n = take g.bsize (drop (n * g.bsize) bytes)

-- file block n of a sparse file is whole, and all zero
unfoldable pub is_hole : Geometry → Node → ℕ → Bool
is_hole g node n = node.sparse && (nat_le ((n + 1) * g.bsize) (length node.bytes) && list_all (λ byte. byte == 0) (block_bytes g node.bytes n))

-- the blocks of a file; none where its bytes stand in the inode
unfoldable pub blocks_of : Geometry → Node → ℕ
blocks_of g node = if node.inside then 0 else div_ceil (length node.bytes) g.bsize

-- file block n, unless it is a hole
abbrev pub with_block_or_hole : Geometry → Node → ℕ → Placed → Option Placed
with_block_or_hole g node n placed = if is_hole g node n then Some placed else with_file_block g (length node.bytes) n placed

-- the file blocks below n that are no holes
abbrev pub with_blocks_below : Geometry → Node → ℕ → Placed → Option Placed
with_blocks_below g node zero placed = Some placed
with_blocks_below g node (suc n) placed = and_then (with_blocks_below g node n placed) (with_block_or_hole g node n)

-- a file's blocks
unfoldable pub placed_file : Geometry → Node → List Bool → Option Placed
placed_file g node used = with_blocks_below g node (blocks_of g node) (record { used = used; addresses = no_addresses g (blocks_of g node) })

-- The fragments with a block, and the addresses of each file.
pub record AllPlaced : Type 0 where
  pub used : List Bool
  pub files : List Addresses

abbrev pub with_file : Geometry → Node → AllPlaced → Option AllPlaced
with_file g node all = and_then (placed_file g node all.used) (λ placed. Some (record { used = placed.used; files = all.files ++ placed.addresses ∷ [] }))

-- the blocks of files, one file after the other
abbrev pub with_files : Geometry → List Node → AllPlaced → Option AllPlaced
with_files g [] all = Some all
with_files g (node ∷ nodes) all = and_then (with_file g node all) (λ next. with_files g nodes next)

unfoldable pub placed_files : Geometry → List Node → Option AllPlaced
placed_files g nodes = with_files g nodes (record { used = replicate g.size false; files = [] })
