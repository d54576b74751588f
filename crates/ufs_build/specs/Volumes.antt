-- The geometry of a volume that is to be built, and its superblock and group blocks without their maps (`struct fs`, `struct cg`
-- in `fs.h`). Where the parts of a group stand is this project's choice.
use Rattle.std.specs.Prelude.{ℕ, ◌+◌, ◌*◌, ◌/◌, ◌^◌, ◌&&◌, nat_le, nat_lt, Bool, List, [], ◌∷◌, Option, Some, None, Result, Ok, Err, replicate, if◌then◌else◌}
use Rattle.std.specs.Int.{div_ceil}
use Rattle.ufs_model.specs.Superblocks.{geometry_in}
use Rattle.ufs_model.specs.declared.geometries.BadSuper.{BadSuper}
use Rattle.ufs_model.specs.declared.geometries.Geometry.{Geometry}
use Rattle.ufs_build.specs.Parts.{field_parts, put_parts}
use Rattle.ufs_build.specs.declared.parts.Field.{Field}
use Rattle.ufs_build.specs.declared.volumes.Spec.{Spec}

-- a number of fragments rounded up to whole file blocks, by the bytes that they have to hold
abbrev pub whole_blocks : Spec → ℕ → ℕ
whole_blocks spec bytes = div_ceil bytes (spec.frag * spec.l) * spec.frag

abbrev pub inodes_per_block : Spec → ℕ
inodes_per_block spec = spec.frag * spec.l / 128

-- the superblock and the blocks before it, a copy of it, the group block, and the inodes follow one another in whole file blocks
abbrev pub sblkno_of : Spec → ℕ
sblkno_of spec = whole_blocks spec 16384

abbrev pub cblkno_of : Spec → ℕ
cblkno_of spec = sblkno_of spec + whole_blocks spec 8192

abbrev pub iblkno_of : Spec → ℕ
iblkno_of spec = cblkno_of spec + spec.frag

abbrev pub dblkno_of : Spec → ℕ
dblkno_of spec = iblkno_of spec + spec.ipg / inodes_per_block spec * spec.frag

-- the geometry of the volume
unfoldable pub geometry_of_spec : Spec → Geometry
geometry_of_spec spec = record {
  sblkno = sblkno_of spec;
  cblkno = cblkno_of spec;
  iblkno = iblkno_of spec;
  dblkno = dblkno_of spec;
  cgoffset = spec.cgoffset;
  cgmask = spec.cgmask;
  size = spec.ncg * spec.fpg;
  ncg = spec.ncg;
  bsize = spec.frag * spec.l;
  fsize = spec.l;
  frag = spec.frag;
  nindir = spec.frag * spec.l / 4;
  inopb = inodes_per_block spec;
  csaddr = dblkno_of spec;
  cssize = 16 * spec.ncg;
  cgsize = spec.frag * spec.l;
  ipg = spec.ipg;
  fpg = spec.fpg;
  maxsymlinklen = 60;
  endian = spec.endian;
}

-- the file blocks have a size that there is, and the numbers that grow with the volume have 32 bits
unfoldable pub has_numbers : Spec → Bool
has_numbers spec =
    nat_le 4096 (spec.frag * spec.l) && (nat_le (spec.frag * spec.l) 65536
    && (nat_lt (dblkno_of spec) (2 ^ 32) && (nat_lt (spec.ncg * spec.fpg) (2 ^ 32) && nat_lt (16 * spec.ncg) (2 ^ 32))))

-- ---- the superblock

-- the fields of a superblock, with `fs_inodefmt` and `fs_magic`
unfoldable pub superblock_fields : Geometry → List Field
superblock_fields g =
    record { at = 8; value = g.sblkno } ∷ record { at = 12; value = g.cblkno } ∷ record { at = 16; value = g.iblkno }
    ∷ record { at = 20; value = g.dblkno } ∷ record { at = 24; value = g.cgoffset } ∷ record { at = 28; value = g.cgmask }
    ∷ record { at = 36; value = g.size } ∷ record { at = 44; value = g.ncg } ∷ record { at = 48; value = g.bsize }
    ∷ record { at = 52; value = g.fsize } ∷ record { at = 56; value = g.frag } ∷ record { at = 116; value = g.nindir }
    ∷ record { at = 120; value = g.inopb } ∷ record { at = 152; value = g.csaddr } ∷ record { at = 156; value = g.cssize }
    ∷ record { at = 160; value = g.cgsize } ∷ record { at = 184; value = g.ipg } ∷ record { at = 188; value = g.fpg }
    ∷ record { at = 1320; value = g.maxsymlinklen } ∷ record { at = 1324; value = 2 } ∷ record { at = 1372; value = 0x00011954 } ∷ []

-- the bytes of a superblock
unfoldable pub superblock_bytes : Geometry → List ℕ
superblock_bytes g = put_parts (field_parts g.endian 0 (superblock_fields g)) (replicate 1376 0)

-- The geometry as a reader of the superblock finds it, or the test that it fails.
unfoldable pub read_geometry : Geometry → Result Geometry BadSuper
read_geometry g = geometry_in (superblock_bytes g) g.fsize g.size

-- ---- group blocks

-- the bytes of a map of so many bits
abbrev pub map_length : ℕ → ℕ
map_length bits = div_ceil bits 8

-- where the maps of a group block begin: that of used inodes (`cg_iusedoff`), and behind it that of free fragments (`cg_freeoff`)
abbrev pub iusedoff : ℕ
iusedoff = 256

abbrev pub freeoff_of : ℕ → ℕ
freeoff_of ipg = div_ceil (iusedoff + map_length ipg) 4 * 4

-- the maps end inside the group block
unfoldable pub maps_fit : Spec → Bool
maps_fit spec = nat_le (freeoff_of spec.ipg + map_length spec.fpg) (spec.frag * spec.l)

-- ---- whether there is such a volume

abbrev pub if_fits : Bool → Result Geometry BadSuper → Option Geometry
if_fits fits (Ok g) = if fits then Some g else None
if_fits fits (Err bad) = None

-- the geometry of the volume, if there is such a volume
unfoldable pub volume_of_spec : Spec → Option Geometry
volume_of_spec spec = if has_numbers spec then if_fits (maps_fit spec) (read_geometry (geometry_of_spec spec)) else None
