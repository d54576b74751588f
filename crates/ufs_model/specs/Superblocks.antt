-- The superblock (`struct fs` in `fs.h`): its fields, its tests in order, and the geometry. Which
-- tests there are and their order is this project's rule.
use Rattle.std.specs.Prelude.{◌≡◌, ℕ, ◌+◌, ◌-◌, ◌*◌, ◌/◌, ◌%◌, ◌^◌, ◌==◌, nat_lt, nat_le, not, ◌&&◌, Bool, List, [], ◌∷◌, Option, Some, None, Result, Ok, Err, find, if◌then◌else◌}
use Rattle.std.specs.Int.{div_ceil}
use Rattle.ufs_model.specs.Numbers.{number_at, all_below}
use Rattle.ufs_model.specs.Blocks.{Reading, known, area_within, ◌>>=◌}
use Rattle.ufs_model.specs.Geometries.{IsGeometryOn, cgstart, end_of, is_block_size, is_fragment_count}
use Rattle.ufs_model.specs.declared.numbers.Endian.{Endian}
use Rattle.ufs_model.specs.declared.numbers.Endian.TheVariants.{Little, Big}
use Rattle.ufs_model.specs.declared.geometries.Geometry.{Geometry}
use Rattle.ufs_model.specs.declared.geometries.BadSuper.{BadSuper}
use Rattle.ufs_model.specs.declared.geometries.BadSuper.TheVariants.{Magic, Format, Bsize, Fsize, Frag, Nindir, Inopb, Size, Groups, Inodes, Layout, Summary}

-- the field of 32 bits at a byte of the superblock
abbrev pub field : Endian → List ℕ → ℕ → ℕ
field endian bytes at = number_at endian 4 bytes at

-- The order of the bytes of numbers, which the magic number tells (`FS_MAGIC`): the highest first where it reads so in this order,
-- and else the lowest.
unfoldable pub endian_of : List ℕ → Endian
endian_of bytes = if field Big bytes 1372 == 0x00011954 then Big else Little

-- the fields of a geometry, as they stand, and their order of bytes
unfoldable pub fields : Endian → List ℕ → Geometry
fields endian bytes = record {
  endian = endian;
  sblkno = field endian bytes 8;
  cblkno = field endian bytes 12;
  iblkno = field endian bytes 16;
  dblkno = field endian bytes 20;
  cgoffset = field endian bytes 24;
  cgmask = field endian bytes 28;
  size = field endian bytes 36;
  ncg = field endian bytes 44;
  bsize = field endian bytes 48;
  fsize = field endian bytes 52;
  frag = field endian bytes 56;
  nindir = field endian bytes 116;
  inopb = field endian bytes 120;
  csaddr = field endian bytes 152;
  cssize = field endian bytes 156;
  cgsize = field endian bytes 160;
  ipg = field endian bytes 184;
  fpg = field endian bytes 188;
  maxsymlinklen = field endian bytes 1320;
}

-- the two fields that are only tested: the magic number, and the inode format
abbrev pub magic_of : Endian → List ℕ → ℕ
magic_of endian bytes = field endian bytes 1372

abbrev pub inodefmt_of : Endian → List ℕ → ℕ
inodefmt_of endian bytes = field endian bytes 1324

-- `FS_44INODEFMT`, and links inside an inode of at most 60 bytes
unfoldable pub format_holds : ℕ → Geometry → Bool
format_holds inodefmt g = (inodefmt == 2) && (nat_le 1 g.maxsymlinklen && nat_le g.maxsymlinklen 60)

unfoldable pub frag_holds : Geometry → Bool
frag_holds g = is_fragment_count g.frag && (g.bsize == g.frag * g.fsize)

-- the last group, and no other, may be cut short by the volume's end
unfoldable pub groups_hold : Geometry → Bool
groups_hold g = nat_le 1 g.ncg && (nat_le 1 g.fpg && (nat_lt ((g.ncg - 1) * g.fpg) g.size && nat_le g.size (g.ncg * g.fpg)))

unfoldable pub inodes_hold : Geometry → Bool
inodes_hold g = nat_le 1 g.ipg && ((g.ipg % g.inopb == 0) && nat_lt (g.ncg * g.ipg) (2 ^ 32))

-- the own blocks of group c end inside it
unfoldable pub group_fits : Geometry → ℕ → Bool
group_fits g c = nat_le (cgstart g c + g.dblkno) (end_of g c)

-- The group block has its fields, of which the last ends at byte 100. Superblock, group block,
-- inodes and data follow one another, each after the end of the one before.
unfoldable pub layout_holds : ℕ → Geometry → Bool
layout_holds l g =
    nat_le 100 g.cgsize && (nat_le g.cgsize g.bsize && (nat_le 9568 (g.sblkno * l)
    && (nat_le (g.sblkno + div_ceil 1376 l) g.cblkno && (nat_le (g.cblkno + div_ceil g.cgsize l) g.iblkno
    && (nat_le (g.iblkno + g.ipg / g.inopb * g.frag) g.dblkno && all_below (group_fits g) g.ncg)))))

unfoldable pub summary_holds : ℕ → Geometry → Bool
summary_holds l g = nat_le (g.csaddr + div_ceil g.cssize l) g.size

-- whether the superblock passes a test, with fragments of l bytes and at most n of them
abbrev pub passes : Endian → List ℕ → ℕ → ℕ → Geometry → BadSuper → Bool
passes endian bytes l n g Magic = magic_of endian bytes == 0x00011954
passes endian bytes l n g Format = format_holds (inodefmt_of endian bytes) g
passes endian bytes l n g Bsize = is_block_size g.bsize
passes endian bytes l n g Fsize = g.fsize == l
passes endian bytes l n g Frag = frag_holds g
passes endian bytes l n g Nindir = g.nindir == g.bsize / 4
passes endian bytes l n g Inopb = g.inopb == g.bsize / 128
passes endian bytes l n g Size = nat_le 1 g.size && nat_le g.size n
passes endian bytes l n g Groups = groups_hold g
passes endian bytes l n g Inodes = inodes_hold g
passes endian bytes l n g Layout = layout_holds l g
passes endian bytes l n g Summary = summary_holds l g

-- the tests in their order
abbrev pub super_tests : List BadSuper
super_tests = Magic ∷ Format ∷ Bsize ∷ Fsize ∷ Frag ∷ Nindir ∷ Inopb ∷ Size ∷ Groups ∷ Inodes ∷ Layout ∷ Summary ∷ []

-- this, unless it is refused
abbrev pub unless_bad : {A E : Type 0} → Option E → A → Result A E
unless_bad None a = Ok a
unless_bad (Some bad) a = Err bad

-- the geometry in the bytes of a superblock that are read in an order, or the first test that fails
unfoldable pub geometry_by : Endian → List ℕ → ℕ → ℕ → Result Geometry BadSuper
geometry_by endian bytes l n =
    unless_bad (find (λ kind. not (passes endian bytes l n (fields endian bytes) kind)) super_tests) (fields endian bytes)

-- the same in the order that the magic number tells; where it is the magic number in neither order, that test fails
unfoldable pub geometry_in : List ℕ → ℕ → ℕ → Result Geometry BadSuper
geometry_in bytes l n = geometry_by (endian_of bytes) bytes l n

-- The blocks with the superblock, which stands at byte 8192 (`SBOFF`) and has 1376 bytes. So l divides 8192, as the size of each
-- block of an array does.
unfoldable pub superblock_of : ℕ → ℕ → Reading (List ℕ)
superblock_of l n = area_within l n (8192 / l) (div_ceil 1376 l)

-- the geometry of a volume of n blocks of l bytes
unfoldable pub geometry_of : ℕ → ℕ → Reading (Result Geometry BadSuper)
geometry_of l n = superblock_of l n >>= λ bytes. known (geometry_in bytes l n)

-- The bytes are a superblock with this geometry, said without the order of the tests.
pub record IsSuperblock (bytes : List ℕ) (l n : ℕ) (g : Geometry) : Type 0 where
  pub order : endian_of bytes ≡ g.endian
  pub magic : magic_of g.endian bytes ≡ 0x00011954
  pub inodefmt : inodefmt_of g.endian bytes ≡ 2
  pub stands : fields g.endian bytes ≡ g
  pub geometry : IsGeometryOn l n g
