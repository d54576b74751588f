-- Where the parts of a volume stand, by the numbers of its superblock (`fs.h`).
use Rattle.std.specs.Prelude.{◌≡◌, ℕ, ◌+◌, ◌-◌, ◌*◌, ◌/◌, ◌%◌, ◌^◌, ◌<◌, ◌≤◌, ◌==◌, ◌||◌, min, bit_and, Bool, true}
use Rattle.std.specs.Int.{div_ceil}
use Rattle.ufs_model.specs.declared.geometries.Geometry.{Geometry}

-- the first fragment of group c (`cgbase`)
unfoldable pub cgbase : Geometry → ℕ → ℕ
cgbase g c = g.fpg * c

-- the fragment from which the places of group c's own blocks are counted (`cgstart`)
unfoldable pub cgstart : Geometry → ℕ → ℕ
cgstart g c = cgbase g c + g.cgoffset * bit_and c (2 ^ 32 - 1 - g.cgmask)

-- the first fragment after group c, whose last one may be cut short by the volume's end
unfoldable pub end_of : Geometry → ℕ → ℕ
end_of g c = min (cgbase g c + g.fpg) g.size

-- a power of two from 4096 to 65536 (`MINBSIZE`, `MAXBSIZE`)
unfoldable pub is_block_size : ℕ → Bool
is_block_size n = (n == 4096) || ((n == 8192) || ((n == 16384) || ((n == 32768) || (n == 65536))))

-- a number of fragments that a file block may have (`MAXFRAG`)
unfoldable pub is_fragment_count : ℕ → Bool
is_fragment_count n = (n == 1) || ((n == 2) || ((n == 4) || (n == 8)))

-- The condition of each call that is handed a geometry: it passes the tests of a superblock on the
-- fields that it has. Each field is a test, or a part of one; `fsize` follows from two of them.
pub record IsGeometry (g : Geometry) : Type 0 where
  pub format : (1 ≤ g.maxsymlinklen) × (g.maxsymlinklen ≤ 60)
  pub bsize : (is_block_size g.bsize ≡ true) × (4096 ≤ g.bsize) × (g.bsize ≤ 65536)
  pub frag : (is_fragment_count g.frag ≡ true) × (1 ≤ g.frag) × (g.frag ≤ 8) × (g.bsize ≡ g.frag * g.fsize)
  pub fsize : (512 ≤ g.fsize) × (g.fsize ≤ 65536)
  pub nindir : g.nindir ≡ g.bsize / 4
  pub inopb : g.inopb ≡ g.bsize / 128
  pub size : 1 ≤ g.size
  pub groups : (1 ≤ g.ncg) × (1 ≤ g.fpg) × ((g.ncg - 1) * g.fpg < g.size) × (g.size ≤ g.ncg * g.fpg)
  pub inodes : (1 ≤ g.ipg) × (g.ipg % g.inopb ≡ 0) × (g.ncg * g.ipg < 2 ^ 32)
  pub cgsize : (100 ≤ g.cgsize) × (g.cgsize ≤ g.bsize)
  pub sblkno : 9568 ≤ g.sblkno * g.fsize
  pub cblkno : g.sblkno + div_ceil 1376 g.fsize ≤ g.cblkno
  pub iblkno : g.cblkno + div_ceil g.cgsize g.fsize ≤ g.iblkno
  pub dblkno : g.iblkno + g.ipg / g.inopb * g.frag ≤ g.dblkno
  pub ends : (c : ℕ) → c < g.ncg → cgstart g c + g.dblkno ≤ end_of g c
  pub summary : g.csaddr + div_ceil g.cssize g.fsize ≤ g.size

-- A geometry of a volume on n blocks of l bytes.
pub record IsGeometryOn (l n : ℕ) (g : Geometry) : Type 0 where
  pub tests : IsGeometry g
  pub fsize : g.fsize ≡ l
  pub size : g.size ≤ n
