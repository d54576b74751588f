-- From a file block to its fragments, by the slots of an inode and by indirect blocks (`NDADDR`,
-- `NIADDR` in `dinode.h`, `NINDIR` in `fs.h`).
use Rattle.std.specs.Prelude.{ℕ, ◌+◌, ◌-◌, ◌*◌, ◌/◌, ◌%◌, ◌^◌, ◌==◌, nat_lt, Bool, List, if◌then◌else◌}
use Rattle.ufs_model.specs.Numbers.{number_at, all_below}
use Rattle.ufs_model.specs.Blocks.{Reading, known, area_of, ◌>>=◌}
use Rattle.ufs_model.specs.Roles.{role, is_data_of}
use Rattle.ufs_model.specs.Inodes.{slot_of, span}
use Rattle.ufs_model.specs.declared.geometries.Geometry.{Geometry}
use Rattle.ufs_model.specs.declared.inodes.Inode.{Inode}
use Rattle.ufs_model.specs.declared.numbers.Endian.{Endian}
use Rattle.ufs_model.specs.declared.pointers.Chain.{Chain}
use Rattle.ufs_model.specs.declared.pointers.Chain.TheVariants.{Direct, One, Two, Three}
use Rattle.ufs_model.specs.declared.pointers.Address.{Address}
use Rattle.ufs_model.specs.declared.pointers.Address.TheVariants.{Hole, Wild, At}

-- pointer number i in the bytes of an indirect block
abbrev pub pointer_in : Endian → List ℕ → ℕ → ℕ
pointer_in endian bytes i = number_at endian 4 bytes (4 * i)

-- where file block n >= 12 is found, by its number after the direct ones
abbrev pub indirect_of : ℕ → ℕ → Chain
indirect_of nindir m =
    if nat_lt m nindir then One m
    else if nat_lt (m - nindir) (nindir ^ 2) then Two ((m - nindir) / nindir) ((m - nindir) % nindir)
    else let k = m - nindir - nindir ^ 2 in Three (k / nindir ^ 2) (k / nindir % nindir) (k % nindir)

-- Where file block n is found: the first 12 directly, the next nindir through slot 12, the next
-- nindir^2 through slot 13, the next nindir^3 through slot 14.
unfoldable pub locate_of : Geometry → ℕ → Chain
locate_of g n = if nat_lt n 12 then Direct n else indirect_of g.nindir (n - 12)

-- k fragments from a on are all data of one group
unfoldable pub is_data_run : Geometry → ℕ → ℕ → Bool
is_data_run g a k = all_below (λ i. is_data_of (a / g.fpg) (role g (a + i))) k

-- what a pointer to k fragments leads to
unfoldable pub address : Geometry → ℕ → ℕ → Address
address g a k = if a == 0 then Hole else if is_data_run g a k then At a k else Wild

-- what a slot of an inode leads to
abbrev pub slot_address : Geometry → Inode → ℕ → Address
slot_address g inode slot = address g (slot_of inode slot) (span g inode slot)

-- what pointer i of an indirect block leads to, of which all fragments are consulted
unfoldable pub through : Geometry → ℕ → Address → Reading Address
through g i Hole = known Hole
through g i Wild = known Wild
through g i (At a k) = area_of g.fsize a k >>= λ bytes. known (address g (pointer_in g.endian bytes i) g.frag)

-- what a chain leads to; the first hole or wild pointer on it ends it
abbrev pub chain_address : Geometry → Inode → Chain → Reading Address
chain_address g inode (Direct slot) = known (slot_address g inode slot)
chain_address g inode (One i) = through g i (slot_address g inode 12)
chain_address g inode (Two i j) = do
  one ← through g i (slot_address g inode 13)
  through g j one
chain_address g inode (Three i j k) = do
  two ← through g i (slot_address g inode 14)
  one ← through g j two
  through g k one

-- the address of file block n of an inode
unfoldable pub file_block_of : Geometry → Inode → ℕ → Reading Address
file_block_of g inode n = chain_address g inode (locate_of g n)
