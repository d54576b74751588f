-- The volume on an image, by its own numbers, and the array for it.
use Rattle.std.specs.Prelude.{ℕ, ◌==◌, ◌||◌, Bool, List, Result, drop, if◌then◌else◌}
use Rattle.dg_model.specs.declared.shapes.Shape.{Shape}
use Rattle.dg_trace.specs.declared.asked.Asked.{Asked}
use Rattle.ufs_model.specs.Superblocks.{endian_of, field, geometry_in}
use Rattle.ufs_model.specs.declared.geometries.BadSuper.{BadSuper}
use Rattle.ufs_model.specs.declared.geometries.Geometry.{Geometry}

-- the superblock of an image, and what stands behind it (`SBOFF`)
abbrev pub superblock_in : List ℕ → List ℕ
superblock_in image = drop 8192 image

-- a field of 32 bits of a superblock, in the order of bytes that its magic number tells
abbrev pub own_field : List ℕ → ℕ → ℕ
own_field superblock at = field (endian_of superblock) superblock at

-- the bytes of a fragment (`fs_fsize`), and how many fragments the volume has (`fs_size`)
abbrev pub fsize_in : List ℕ → ℕ
fsize_in superblock = own_field superblock 52

abbrev pub size_in : List ℕ → ℕ
size_in superblock = own_field superblock 36

-- arrays have blocks of so many bytes
abbrev pub is_block_bytes : ℕ → Bool
is_block_bytes l = (l == 512) || ((l == 1024) || ((l == 2048) || (l == 4096)))

-- The bytes of a block for which a superblock is read: those of its fragments, where arrays have such blocks. Else 512, so that the test `fsize`
-- refuses it, unless one before that does.
abbrev pub block_bytes_for : ℕ → ℕ
block_bytes_for fsize = if is_block_bytes fsize then fsize else 512

-- the volume on an image, or the first test of its superblock that fails
unfoldable pub volume_on : List ℕ → Result Geometry BadSuper
volume_on image = geometry_in (superblock_in image) (block_bytes_for (fsize_in (superblock_in image))) (size_in (superblock_in image))

-- the array for a volume: a block for each fragment
abbrev pub shape_for : Asked → Geometry → Shape
shape_for asked g = record { l = g.fsize; n = g.size; b = asked.b; k = asked.k; m = asked.m }
