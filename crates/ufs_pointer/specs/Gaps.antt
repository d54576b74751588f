-- Gaps of a file. A pointer that is 0 or wild leads nowhere, and so do all file blocks that are found through it: nindir of them through
-- slot 12 or through a pointer of the double indirect block, and nindir^2 through slot 13 (`NIADDR` in `dinode.h`, `NINDIR` in `fs.h`).
use Rattle.std.specs.Prelude.{ℕ, ◌^◌, ◌==◌, ◌&&◌, Bool, true, false, if◌then◌else◌}
use Rattle.ufs_model.specs.Blocks.{Reading, known, ◌>>=◌}
use Rattle.ufs_model.specs.Pointers.{locate_of, slot_address, through}
use Rattle.ufs_model.specs.declared.geometries.Geometry.{Geometry}
use Rattle.ufs_model.specs.declared.inodes.Inode.{Inode}
use Rattle.ufs_model.specs.declared.pointers.Address.{Address}
use Rattle.ufs_model.specs.declared.pointers.Address.TheVariants.{Hole, Wild, At}
use Rattle.ufs_model.specs.declared.pointers.Chain.{Chain}
use Rattle.ufs_model.specs.declared.pointers.Chain.TheVariants.{Direct, One, Two, Three}

-- a pointer is 0 or wild
abbrev pub is_nowhere : Address → Bool
is_nowhere Hole = true
is_nowhere Wild = true
is_nowhere (At a k) = false

-- as many file blocks as are found through a pointer, where it leads nowhere, and else one
abbrev pub gap_through : ℕ → Address → ℕ
gap_through reach address = if is_nowhere address then reach else 1

-- the first file block that is found through the double indirect block, where slot 13 leads nowhere
abbrev pub is_long : Geometry → Inode → ℕ → ℕ → Bool
is_long g inode i j = (i == 0) && ((j == 0) && is_nowhere (slot_address g inode 13))

-- how many file blocks are the gap that begins with one that is found through the double indirect block
unfoldable pub double_gap : Geometry → Inode → ℕ → ℕ → Reading ℕ
double_gap g inode i j =
    if is_long g inode i j then known (g.nindir ^ 2)
    else if j == 0 then (through g i (slot_address g inode 13) >>= λ single. known (gap_through g.nindir single))
    else known 1

-- the same of the file block that a chain leads to
abbrev pub chain_gap : Geometry → Inode → Chain → Reading ℕ
chain_gap g inode (Direct slot) = known 1
chain_gap g inode (One i) = known (if i == 0 then gap_through g.nindir (slot_address g inode 12) else 1)
chain_gap g inode (Two i j) = double_gap g inode i j
chain_gap g inode (Three i j k) = known 1

-- How many file blocks from n on are one gap, where n is the first that is found through a pointer which leads nowhere. Each other
-- file block is counted alone, and each behind slot 14, where a file of less than 2^32 bytes has none.
unfoldable pub gap_length : Geometry → Inode → ℕ → Reading ℕ
gap_length g inode n = chain_gap g inode (locate_of g n)
