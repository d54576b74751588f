-- The group block (`struct cg` in `fs.h`), with the maps of used inodes and of free fragments.
use Rattle.std.specs.Prelude.{ℕ, ◌+◌, ◌-◌, ◌/◌, ◌%◌, ◌^◌, ◌==◌, nat_le, not, ◌&&◌, Bool, false, List, [], ◌∷◌, Result, Ok, Err, find, bit_and, slice_index}
use Rattle.std.specs.Int.{div_ceil}
use Rattle.ufs_model.specs.Numbers.{number_at}
use Rattle.ufs_model.specs.Blocks.{Reading, known, area_of, ◌>>=◌}
use Rattle.ufs_model.specs.Geometries.{cgbase, cgstart, end_of}
use Rattle.ufs_model.specs.Superblocks.{unless_bad}
use Rattle.ufs_model.specs.declared.numbers.Endian.{Endian}
use Rattle.ufs_model.specs.declared.geometries.Geometry.{Geometry}
use Rattle.ufs_model.specs.declared.group_maps.Group.{Group}
use Rattle.ufs_model.specs.declared.group_maps.BadGroup.{BadGroup}
use Rattle.ufs_model.specs.declared.group_maps.BadGroup.TheVariants.{Magic, Map}

-- what is read of group c's block (`cg_iusedoff`, `cg_freeoff`, `cg_ndblk`)
unfoldable pub group_fields : Endian → ℕ → List ℕ → Group
group_fields endian c bytes = record {
  c = c;
  iusedoff = number_at endian 4 bytes 92;
  freeoff = number_at endian 4 bytes 96;
  count = number_at endian 4 bytes 20;
}

-- the magic number of a group block (`CG_MAGIC`), and the number of this group (`cg_cgx`)
unfoldable pub group_magic_holds : Endian → ℕ → List ℕ → Bool
group_magic_holds endian c bytes = (number_at endian 4 bytes 4 == 0x00090255) && (number_at endian 4 bytes 12 == c)

-- the group's fragments are counted right, and both maps end inside the bytes in use
unfoldable pub maps_hold : Geometry → Group → Bool
maps_hold g group =
    (group.count == end_of g group.c - cgbase g group.c)
    && (nat_le (group.iusedoff + div_ceil g.ipg 8) g.cgsize && nat_le (group.freeoff + div_ceil group.count 8) g.cgsize)

-- whether a group block passes a test
abbrev pub group_passes : Geometry → List ℕ → Group → BadGroup → Bool
group_passes g bytes group Magic = group_magic_holds g.endian group.c bytes
group_passes g bytes group Map = maps_hold g group

-- where the maps of group c stand, or the first test that fails
unfoldable pub group_in : Geometry → ℕ → List ℕ → Result Group BadGroup
group_in g c bytes =
    unless_bad (find (λ kind. not (group_passes g bytes (group_fields g.endian c bytes) kind)) (Magic ∷ Map ∷ [])) (group_fields g.endian c bytes)

-- bit i of the map that begins at a byte (`isset` in `param.h`)
unfoldable pub is_set : List ℕ → ℕ → ℕ → Bool
is_set bytes start i = not (bit_and (slice_index bytes (start + i / 8)) (2 ^ (i % 8)) == 0)

-- fragment i of the group is free (`cg_blksfree`)
abbrev pub is_free : List ℕ → Group → ℕ → Bool
is_free bytes group i = is_set bytes group.freeoff i

-- inode i of the group is used (`cg_inosused`)
abbrev pub is_used : List ℕ → Group → ℕ → Bool
is_used bytes group i = is_set bytes group.iusedoff i

-- the group block of group c, a file block
unfoldable pub group_bytes : Geometry → ℕ → Reading (List ℕ)
group_bytes g c = area_of g.fsize (cgstart g c + g.cblkno) g.frag

-- an answer by the maps of a group block; where it is refused, no
abbrev pub by_maps : Result Group BadGroup → (Group → Bool) → Bool
by_maps (Err bad) test = false
by_maps (Ok group) test = test group

-- a fragment of the volume is marked free
unfoldable pub is_marked_free : Geometry → ℕ → Reading Bool
is_marked_free g f =
    group_bytes g (f / g.fpg) >>= λ bytes. known (by_maps (group_in g (f / g.fpg) bytes) (λ group. is_free bytes group (f % g.fpg)))

-- a fragment of the volume is marked used: a group that is refused marks nothing
unfoldable pub is_marked_used : Geometry → ℕ → Reading Bool
is_marked_used g f =
    group_bytes g (f / g.fpg) >>= λ bytes. known (by_maps (group_in g (f / g.fpg) bytes) (λ group. not (is_free bytes group (f % g.fpg))))

-- an inode of the volume is marked unused
unfoldable pub is_marked_unused : Geometry → ℕ → Reading Bool
is_marked_unused g i =
    group_bytes g (i / g.ipg) >>= λ bytes. known (by_maps (group_in g (i / g.ipg) bytes) (λ group. not (is_used bytes group (i % g.ipg))))
