-- How much room the blocks of files take, in halves of file blocks of eight fragments, and how many bytes directories have. The words are this
-- project's own.
use Rattle.std.specs.Prelude.{◌≡◌, ◌<◌, ◌==◌, ℕ, zero, suc, ◌+◌, ◌*◌, nat_le, nat_lt, Bool, List, [], ◌∷◌, if◌then◌else◌, length}
use Rattle.ufs_build.specs.Items.{HasShortName}
use Rattle.ufs_build.specs.Nodes.{Node}
use Rattle.ufs_build.specs.Placements.{blocks_of, fragments_of}
use Rattle.ufs_build.specs.declared.items.Item.{Item}
use Rattle.ufs_model.specs.Pointers.{is_data_run}
use Rattle.ufs_model.specs.declared.geometries.Geometry.{Geometry}

-- the eight fragments of file block q of the volume are all data of one group
abbrev pub is_whole : Geometry → ℕ → Bool
is_whole g q = is_data_run g (8 * q) 8

-- how many of the first numbers pass a test
abbrev pub count_to : (ℕ → Bool) → ℕ → ℕ
count_to test zero = 0
count_to test (suc q) = count_to test q + (if test q then 1 else 0)

-- how many of the volume's first file blocks are so
abbrev pub whole_below : Geometry → ℕ → ℕ
whole_below g p = count_to (is_whole g) p

-- so many fragments take a half where they are at most four, and else a whole
abbrev pub halves : ℕ → ℕ
halves k = if nat_le k 4 then 1 else 2

-- file block n of a file of so many bytes, with the indirect block above it where there is one
abbrev pub block_halves : Geometry → ℕ → ℕ → ℕ
block_halves g size n = (if nat_lt n 12 then 0 else 2) + halves (fragments_of g size n)

-- the first file blocks of a file of so many bytes
abbrev pub first_halves : Geometry → ℕ → ℕ → ℕ
first_halves g size zero = 0
first_halves g size (suc n) = first_halves g size n + block_halves g size n

-- files
abbrev pub all_halves : Geometry → List Node → ℕ
all_halves g [] = 0
all_halves g (node ∷ nodes) = first_halves g (length node.bytes) (blocks_of g node) + all_halves g nodes

-- the geometry has eight fragments in a file block
pub record HasEight (g : Geometry) : Type 0 where
  pub frag : g.frag ≡ 8
  pub bsize : g.bsize ≡ 8 * g.fsize
  pub some : 0 < g.fsize

-- ---- directories

-- each item has a name that an entry has room for
abbrev pub HaveShort : List Item → Type 0
HaveShort [] = Unit {0}
HaveShort (item ∷ items) = HasShortName item × HaveShort items

-- how often a number stands in a list
abbrev pub hits : ℕ → List ℕ → ℕ
hits d [] = 0
hits d (p ∷ ps) = (if p == d then 1 else 0) + hits d ps
