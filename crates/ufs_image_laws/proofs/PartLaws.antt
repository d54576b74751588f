-- The parts of a volume are apart from one another, and inside it.
use Rattle.std.proofs.Common.{◌≡◌, ◌≢◌, ◌∙◌, ℕ, ◌+◌, ◌-◌, ◌*◌, ◌/◌, ◌<◌, ◌≤◌, ◌||◌, ◌==◌, min, Bool, true, false, List, [], ◌∷◌, ◌++◌, length, drop, refl, sym, ap, arith, length-drop}
use Rattle.std.specs.Prelude.{if◌then◌else◌, nat_le, nat_lt}
use Rattle.std.specs.Int.{div_ceil}
use Rattle.std.specs.List.{flat_map, range_with_len}
use Rattle.std.proofs.Math.Nat.{add-mul, mul-le-mul_right}
use Rattle.std.proofs.lemmas.Bool.{false≢true}
use Rattle.std.proofs.lemmas.Bool.Decides.{nat_tests}
use Rattle.std.proofs.lemmas.Grind.{div_ceil_times}
use Rattle.std.proofs.lemmas.List.{length-take}
use Rattle.std.proofs.lemmas.List.FromFn.{length-map-range_with_len}
use Rattle.ufs_model.specs.Geometries.{IsGeometry, cgbase, cgstart, end_of}
use Rattle.ufs_model.specs.Roles.{role}
use Rattle.ufs_model.specs.declared.geometries.Geometry.{Geometry}
use Rattle.ufs_model.specs.declared.roles.Role.{Role}
use Rattle.ufs_model.specs.declared.roles.Role.TheVariants.{System}
use Rattle.ufs_model.specs.declared.roles.SystemKind.TheVariants.{Group}
use Rattle.ufs_build.specs.Images.{block_parts, data_parts, first_below, fragment_bits, group_fields, group_parts, group_place, indirect_parts, inode_bits, inode_parts, level_parts, map_bytes, pointer_parts, slot_address, slot_parts}
use Rattle.ufs_build.specs.Nodes.{Node}
use Rattle.ufs_build.specs.Parts.{Part, field_parts, number_bytes}
use Rattle.ufs_build.specs.Placements.{Addresses, address_at, addresses_at, block_bytes, blocks_of, fragments_of}
use Rattle.ufs_build.specs.Volumes.{freeoff_of, iusedoff, map_length}
use Rattle.ufs_image_laws.proofs.ListLaws.{ApartAll, Ascend, Between, Each, Lies, apart_flat, apart_zones, ascend_append, ascend_apart, ascend_flat, ascend_lies, ascend_low, each_append, each_flat, fields_ascend, fields_in_order, lies_weaker}
use Rattle.ufs_image_laws.proofs.NumberLaws.{number_length}
use Rattle.ufs_image_laws.proofs.PlacingLaws.{HasFragment, IsPlaced, count_of}
use Rattle.ufs_image_laws.proofs.ZoneLaws.{Sizes, fragment_of_byte, group_zone, order, sizes}

-- What is known of a volume's geometry here.
pub record IsWhole (g : Geometry) : Type 0 where
  pub tests : IsGeometry g
  pub group : g.iblkno ≡ g.cblkno + g.frag
  pub size : g.size ≡ g.ncg * g.fpg
  pub maps : freeoff_of g.ipg + map_length g.fpg ≤ g.bsize

pub ascend_high : (low : ℕ) (xs : List Part) (high end : ℕ) → high ≤ end → Ascend low xs high → Ascend low xs end
ascend_high low [] high end le h = omega arith
ascend_high low (x ∷ xs) high end le h = (h.0, ascend_high (x.at + length x.bytes) xs high end le (h.1))

-- ---- groups

map_size : (bits : List Bool) → length (map_bytes bits) ≡ div_ceil (length bits) 8
unfolding map_bytes
map_size bits = length-map-range_with_len _ 0 (div_ceil (length bits) 8)

pub used_size : (g : Geometry) (c inodes : ℕ) → length (map_bytes (inode_bits g c inodes)) ≡ map_length g.ipg
unfolding inode_bits
used_size g c inodes = map_size (inode_bits g c inodes) ∙ ap (λ (n : ℕ). div_ceil n 8) (length-map-range_with_len (λ i. nat_lt (c * g.ipg + i) inodes) 0 g.ipg)

pub free_size : (g : Geometry) (c : ℕ) (used : List Bool) → length (map_bytes (fragment_bits g c used)) ≡ map_length g.fpg
unfolding fragment_bits
free_size g c used = map_size (fragment_bits g c used) ∙ ap (λ (n : ℕ). div_ceil n 8) (length-map-range_with_len _ 0 g.fpg)

group_ordered : (g : Geometry) (c : ℕ) → fields_ascend 4 (group_fields g c) 256 ≡ true
unfolding group_fields
group_ordered g c = refl

pub group_ascends : (g : Geometry) (inodes : ℕ) (used : List Bool) (c : ℕ) → freeoff_of g.ipg + map_length g.fpg ≤ g.bsize
    → Ascend (group_place g c + 4) (group_parts g inodes used c) (group_place g c + g.bsize)
unfolding group_parts
group_ascends g inodes used c maps =
    let one = used_size g c inodes in
    let two = free_size g c used in
    let round = div_ceil_times (iusedoff + map_length g.ipg) 4 (omega arith) in
    let most = round.0 in
    ascend_append (group_place g c + 4) (field_parts g.endian (group_place g c) (group_fields g c)) (group_place g c + 256)
    (record { at = group_place g c + iusedoff; bytes = map_bytes (inode_bits g c inodes) }
    ∷ record { at = group_place g c + freeoff_of g.ipg; bytes = map_bytes (fragment_bits g c used) } ∷ []) (group_place g c + g.bsize)
    (fields_in_order g.endian (group_place g c) 4 (group_fields g c) 256 (group_ordered g c))
    (omega arith, (omega (arith, one, most), omega (arith, two, maps)))

pub record InSystem (g : Geometry) (kind : Role) (p : ℕ) : Type 0 where
  pub is : role g (p / g.fsize) ≡ kind

pub group_lies : (g : Geometry) (inodes : ℕ) (used : List Bool) (c : ℕ) → IsWhole g → c < g.ncg → Each (Lies (InSystem g (System Group))) (group_parts g inodes used c)
group_lies g inodes used c is low =
    lies_weaker (Between (group_place g c + 4) (group_place g c + g.bsize)) (InSystem g (System Group))
    (λ p in_it. record { is = group_zone g c p is.tests is.group low (let from = in_it.0 in omega arith) (in_it.1) })
    (group_parts g inodes used c) (ascend_lies (group_place g c + 4) (group_parts g inodes used c) (group_place g c + g.bsize) (group_ascends g inodes used c is.maps))

group_after : (g : Geometry) (c : ℕ) → IsWhole g → c < g.ncg → (g.fpg * c * g.fsize ≤ group_place g c) × (group_place g c + g.bsize ≤ g.fpg * (c + 1) * g.fsize)
unfolding cgstart cgbase end_of
group_after g c is low =
    let tests = is.tests in
    let size = sizes g tests in
    let bytes = size.bytes in
    let ends = tests.ends c low in
    let places = order g tests in
    let p3 = places.inodes in
    let whole = is.group in
    let start : g.fpg * c * g.fsize ≤ (cgstart g c + g.cblkno) * g.fsize = mul-le-mul_right g.fsize (let h : g.fpg * c ≤ cgstart g c + g.cblkno = omega arith in h) in
    let sum : (cgstart g c + g.cblkno + g.frag) * g.fsize ≡ (cgstart g c + g.cblkno) * g.fsize + g.frag * g.fsize = add-mul (cgstart g c + g.cblkno) g.frag g.fsize in
    let next : g.fpg * (c + 1) ≡ g.fpg * c + g.fpg = grind arith in
    let end : (cgstart g c + g.cblkno + g.frag) * g.fsize ≤ g.fpg * (c + 1) * g.fsize =
    mul-le-mul_right g.fsize (let h : cgstart g c + g.cblkno + g.frag ≤ g.fpg * (c + 1) = omega arith in h) in
    (start, omega arith)

pub groups_ascend : (g : Geometry) (inodes : ℕ) (used : List Bool) → IsWhole g
    → Ascend (g.fpg * 0 * g.fsize) (flat_map (group_parts g inodes used) (range_with_len 0 g.ncg)) (g.fpg * (0 + g.ncg) * g.fsize)
groups_ascend g inodes used is =
    ascend_flat (group_parts g inodes used) (λ c. g.fpg * c * g.fsize) 0 g.ncg
    (λ c from to. let after = group_after g c is (omega arith) in
    ascend_low (g.fpg * c * g.fsize) (group_place g c + 4) (group_parts g inodes used c) (g.fpg * (c + 1) * g.fsize) (let low = after.0 in omega arith)
    (ascend_high (group_place g c + 4) (group_parts g inodes used c) (group_place g c + g.bsize) (g.fpg * (c + 1) * g.fsize) (after.1) (group_ascends g inodes used c is.maps)))

-- ---- inodes

-- bytes in an inode are no more than stand in the place of its slots
pub record FitsInode (node : Node) : Type 0 where
  pub small : node.inside ≡ true → length node.bytes ≤ 60

slots_ascend : (g : Geometry) (at : ℕ) (addresses : Addresses) → Ascend (at + 40 + 4 * 0) (flat_map (slot_parts g at addresses) (range_with_len 0 15)) (at + 40 + 4 * (0 + 15))
slots_ascend g at addresses =
    ascend_flat (slot_parts g at addresses) (λ slot. at + 40 + 4 * slot) 0 15
    (λ slot from to. let size = number_length g.endian 4 (slot_address addresses slot) in (omega arith, omega (arith, size)))

slots_by : (g : Geometry) (at : ℕ) (node : Node) (addresses : Addresses) (inside : Bool) → (inside ≡ true → length node.bytes ≤ 60)
    → Ascend (at + 16) (if inside then record { at = at + 40; bytes = node.bytes } ∷ [] else flat_map (slot_parts g at addresses) (range_with_len 0 15)) (at + 128)
slots_by g at node addresses true small = let h = small refl in (omega arith, omega arith)
slots_by g at node addresses false small =
    ascend_low (at + 16) (at + 40 + 4 * 0) (flat_map (slot_parts g at addresses) (range_with_len 0 15)) (at + 128) (omega arith)
    (ascend_high (at + 40 + 4 * 0) (flat_map (slot_parts g at addresses) (range_with_len 0 15)) (at + 40 + 4 * (0 + 15)) (at + 128) (omega arith) (slots_ascend g at addresses))

pub inode_ascends : (g : Geometry) (at : ℕ) (node : Node) (addresses : Addresses) → FitsInode node → Ascend at (inode_parts g at node addresses) (at + 128)
unfolding inode_parts
inode_ascends g at node addresses fits =
    let mode = number_length g.endian 2 node.mode in
    let links = number_length g.endian 2 1 in
    let size = number_length g.endian 8 (length node.bytes) in (
      omega arith,
      (
        omega (arith, mode),
        (
          omega (arith, links),
          ascend_low (at + 8 + length (number_bytes g.endian 8 (length node.bytes))) (at + 16)
              (if node.inside then record { at = at + 40; bytes = node.bytes } ∷ [] else flat_map (slot_parts g at addresses) (range_with_len 0 15)) (at + 128)
              (omega (arith, size)) (slots_by g at node addresses node.inside fits.small),
        ),
      ),
    )

-- ---- blocks of files

-- a byte of a fragment of the block at a level
abbrev pub InBlock : Geometry → ℕ → Addresses → ℕ → ℕ → ℕ → Type 0
InBlock g size addresses level index p = HasFragment g size addresses level index (p / g.fsize)

room_by : (first second : Bool) (frag rest fsize bsize : ℕ) → 0 < fsize → bsize ≡ frag * fsize → min bsize rest ≤ (if first || second then frag else div_ceil rest fsize) * fsize
room_by true second frag rest fsize bsize some e = omega arith
room_by false true frag rest fsize bsize some e = omega arith
room_by false false frag rest fsize bsize some e = let round = div_ceil_times rest fsize some in let most = round.0 in omega (arith, most)

pub block_room : (g : Geometry) (bytes : List ℕ) (n : ℕ) → Sizes g → length (block_bytes g bytes n) ≤ fragments_of g (length bytes) n * g.fsize
unfolding fragments_of
block_room g bytes n size =
    let long : length (block_bytes g bytes n) ≡ min g.bsize (length bytes - n * g.bsize) =
    length-take g.bsize (drop (n * g.bsize) bytes) ∙ ap (λ (k : ℕ). min g.bsize k) (length-drop (n * g.bsize) bytes) in
    rw long (room_by (nat_le 12 n) (nat_le ((n + 1) * g.bsize) (length bytes)) g.frag (length bytes - n * g.bsize) g.fsize g.bsize size.some size.bytes)

pub not_zero : (a : ℕ) → (a == 0) ≡ false → a ≢ 0
not_zero a e same = absurd (false≢true (sym e ∙ (let h : (a == 0) ≡ true = grind (arith, nat_tests) in h)))

data_lies_by : (g : Geometry) (node : Node) (addresses : Addresses) (n : ℕ) (none : Bool) → Sizes g → (address_at addresses 0 n == 0) ≡ none
    → Each (Lies (InBlock g (length node.bytes) addresses 0 n))
    (if none then [] else record { at = address_at addresses 0 n * g.fsize; bytes = block_bytes g node.bytes n } ∷ [])
data_lies_by g node addresses n true size e = tt
data_lies_by g node addresses n false size e =
    let room = block_room g node.bytes n size in
    let sum : (address_at addresses 0 n + fragments_of g (length node.bytes) n) * g.fsize ≡ address_at addresses 0 n * g.fsize + fragments_of g (length node.bytes) n * g.fsize =
    add-mul (address_at addresses 0 n) (fragments_of g (length node.bytes) n) g.fsize in (
      record {
        zone = λ p low high.
            let range = fragment_of_byte (address_at addresses 0 n) (fragments_of g (length node.bytes) n) g.fsize p size.some low (omega arith) in
            record { some = not_zero (address_at addresses 0 n) e; low = range.0; high = range.1 };
      },
      tt,
    )

data_lies : (g : Geometry) (node : Node) (addresses : Addresses) (n : ℕ) → Sizes g → Each (Lies (InBlock g (length node.bytes) addresses 0 n)) (data_parts g node addresses n)
data_lies g node addresses n size = data_lies_by g node addresses n (address_at addresses 0 n == 0) size refl

data_apart_by : (none : Bool) (part : Part) → ApartAll (if none then [] else part ∷ [])
data_apart_by true part = tt
data_apart_by false part = (tt, tt)

pub pointers_ascend : (g : Geometry) (addresses : Addresses) (level index : ℕ)
    → Ascend (address_at addresses level index * g.fsize + 4 * 0) (flat_map (pointer_parts g addresses level index) (range_with_len 0 g.nindir))
    (address_at addresses level index * g.fsize + 4 * (0 + g.nindir))
pointers_ascend g addresses level index =
    ascend_flat (pointer_parts g addresses level index) (λ i. address_at addresses level index * g.fsize + 4 * i) 0 g.nindir
    (λ i from to.
    let size = number_length g.endian 4 (address_at addresses (level - 1) (first_below level + index * g.nindir + i)) in
    (omega arith, omega (arith, size)))

indirect_lies_by : (g : Geometry) (size : ℕ) (addresses : Addresses) (level index : ℕ) (none : Bool) → Sizes g → g.frag ≡ count_of g size level index
    → (address_at addresses level index == 0) ≡ none
    → Each (Lies (InBlock g size addresses level index)) (if none then [] else flat_map (pointer_parts g addresses level index) (range_with_len 0 g.nindir))
indirect_lies_by g size addresses level index true is count e = tt
indirect_lies_by g size addresses level index false is count e =
    let bytes = is.bytes in
    let pointers = is.pointers in
    let sum : (address_at addresses level index + g.frag) * g.fsize ≡ address_at addresses level index * g.fsize + g.frag * g.fsize = add-mul (address_at addresses level index) g.frag g.fsize in
    lies_weaker (Between (address_at addresses level index * g.fsize + 4 * 0) (address_at addresses level index * g.fsize + 4 * (0 + g.nindir))) (InBlock g size addresses level index)
    (λ p in_it. let range = fragment_of_byte (address_at addresses level index) g.frag g.fsize p is.some (let low = in_it.0 in omega arith) (let high = in_it.1 in omega arith) in
    record { some = not_zero (address_at addresses level index) e; low = range.0; high = rw (← count) (range.1) })
    (flat_map (pointer_parts g addresses level index) (range_with_len 0 g.nindir))
    (ascend_lies (address_at addresses level index * g.fsize + 4 * 0) (flat_map (pointer_parts g addresses level index) (range_with_len 0 g.nindir))
    (address_at addresses level index * g.fsize + 4 * (0 + g.nindir)) (pointers_ascend g addresses level index))

indirect_apart_by : (g : Geometry) (addresses : Addresses) (level index : ℕ) (none : Bool)
    → ApartAll (if none then [] else flat_map (pointer_parts g addresses level index) (range_with_len 0 g.nindir))
indirect_apart_by g addresses level index true = tt
indirect_apart_by g addresses level index false =
    ascend_apart (address_at addresses level index * g.fsize + 4 * 0) (flat_map (pointer_parts g addresses level index) (range_with_len 0 g.nindir))
    (address_at addresses level index * g.fsize + 4 * (0 + g.nindir)) (pointers_ascend g addresses level index)

-- a byte of a block at some level below one
pub record InLevels (g : Geometry) (size : ℕ) (addresses : Addresses) (m p : ℕ) : Type 0 where
  pub level : ℕ
  pub index : ℕ
  pub below : level < m
  pub has : InBlock g size addresses level index p

higher : (g : Geometry) (size : ℕ) (addresses : Addresses) (m k : ℕ) → m ≤ k → (p : ℕ) → InLevels g size addresses m p → InLevels g size addresses k p
higher g size addresses m k le p is = record { level = is.level; index = is.index; below = let h = is.below in omega arith; has = is.has }

-- The blocks of one level.
pub record LevelIsApart (g : Geometry) (size : ℕ) (addresses : Addresses) (level : ℕ) (parts : List Part) : Type 0 where
  pub apart : ApartAll parts
  pub lies : Each (Lies (λ p. (index : ℕ) × InBlock g size addresses level index p)) parts

at_index : (g : Geometry) (size : ℕ) (addresses : Addresses) (level index p : ℕ) → InBlock g size addresses level index p → (i : ℕ) × InBlock g size addresses level i p
at_index g size addresses level index p is = (index, is)

data_level : (g : Geometry) (node : Node) (before : List Bool) (used : List Bool) (addresses : Addresses) → Sizes g
    → IsPlaced g (length node.bytes) before (record { used = used; addresses = addresses })
    → LevelIsApart g (length node.bytes) addresses 0 (flat_map (data_parts g node addresses) (range_with_len 0 (blocks_of g node)))
data_level g node before used addresses size is = record {
  apart = apart_flat (data_parts g node addresses) (InBlock g (length node.bytes) addresses 0) 0 (blocks_of g node)
      (λ n from to. data_apart_by (address_at addresses 0 n == 0) (record { at = address_at addresses 0 n * g.fsize; bytes = block_bytes g node.bytes n }))
      (λ n from to. data_lies g node addresses n size)
      (λ i j p one other. (is.apart 0 i 0 j (p / g.fsize) (omega arith) (omega arith) one other).1);
  lies = each_flat (Lies (λ p. (index : ℕ) × InBlock g (length node.bytes) addresses 0 index p)) (data_parts g node addresses) 0 (blocks_of g node)
      (λ n from to. lies_weaker (InBlock g (length node.bytes) addresses 0 n) (λ p. (index : ℕ) × InBlock g (length node.bytes) addresses 0 index p)
      (at_index g (length node.bytes) addresses 0 n) (data_parts g node addresses n) (data_lies g node addresses n size));
}

indirect_level : (g : Geometry) (size : ℕ) (before : List Bool) (used : List Bool) (addresses : Addresses) (level : ℕ) → Sizes g → level < 4
    → ((index : ℕ) → g.frag ≡ count_of g size level index)
    → IsPlaced g size before (record { used = used; addresses = addresses })
    → LevelIsApart g size addresses level (level_parts g addresses level)
indirect_level g size before used addresses level sizes low count is = record {
  apart = apart_flat (indirect_parts g addresses level) (InBlock g size addresses level) 0 (length (addresses_at addresses level))
      (λ n from to. indirect_apart_by g addresses level n (address_at addresses level n == 0))
      (λ n from to. indirect_lies_by g size addresses level n (address_at addresses level n == 0) sizes (count n) refl)
      (λ i j p one other. (is.apart level i level j (p / g.fsize) low low one other).1);
  lies = each_flat (Lies (λ p. (index : ℕ) × InBlock g size addresses level index p)) (indirect_parts g addresses level) 0 (length (addresses_at addresses level))
      (λ n from to. lies_weaker (InBlock g size addresses level n) (λ p. (index : ℕ) × InBlock g size addresses level index p)
      (at_index g size addresses level n) (indirect_parts g addresses level n)
      (indirect_lies_by g size addresses level n (address_at addresses level n == 0) sizes (count n) refl));
}

-- parts of levels below one, and then of that level
pub record LevelsAreApart (g : Geometry) (size : ℕ) (addresses : Addresses) (m : ℕ) (parts : List Part) : Type 0 where
  pub apart : ApartAll parts
  pub lies : Each (Lies (InLevels g size addresses m)) parts

one_level : (g : Geometry) (size : ℕ) (addresses : Addresses) (parts : List Part) → LevelIsApart g size addresses 0 parts → LevelsAreApart g size addresses 1 parts
one_level g size addresses parts is = record {
  apart = is.apart;
  lies = lies_weaker (λ p. (index : ℕ) × InBlock g size addresses 0 index p) (InLevels g size addresses 1) (λ p h. record { level = 0; index = h.0; below = omega arith; has = h.1 }) parts is.lies;
}

more_levels : (g : Geometry) (size : ℕ) (before used : List Bool) (addresses : Addresses) (m k : ℕ) (front parts : List Part) → k ≡ m + 1 → k ≤ 4
    → IsPlaced g size before (record { used = used; addresses = addresses })
    → LevelsAreApart g size addresses m front → LevelIsApart g size addresses m parts → LevelsAreApart g size addresses k (front ++ parts)
more_levels g size before used addresses m k front parts e low is one other = record {
  apart = apart_zones (InLevels g size addresses m) (λ p. (index : ℕ) × InBlock g size addresses m index p) front parts one.apart other.apart one.lies other.lies
      (λ p x y. let below = x.below in
      let same = (is.apart x.level x.index m (y.0) (p / g.fsize) (omega arith) (omega arith) x.has (y.1)).0 in omega arith);
  lies = each_append (Lies (InLevels g size addresses k)) front parts
      (lies_weaker (InLevels g size addresses m) (InLevels g size addresses k) (higher g size addresses m k (omega arith)) front one.lies)
      (lies_weaker (λ p. (index : ℕ) × InBlock g size addresses m index p) (InLevels g size addresses k)
      (λ p h. record { level = m; index = h.0; below = omega arith; has = h.1 }) parts other.lies);
}

pub blocks_apart : (g : Geometry) (node : Node) (before used : List Bool) (addresses : Addresses) → Sizes g
    → IsPlaced g (length node.bytes) before (record { used = used; addresses = addresses })
    → LevelsAreApart g (length node.bytes) addresses 4 (block_parts g node addresses)
unfolding block_parts
blocks_apart g node before used addresses size is =
    let zero_level = one_level g (length node.bytes) addresses _ (data_level g node before used addresses size is) in
    let one = more_levels g (length node.bytes) before used addresses 1 2 _ (level_parts g addresses 1) refl (omega arith) is zero_level
    (indirect_level g (length node.bytes) before used addresses 1 size (omega arith) (λ index. refl) is) in
    let two = more_levels g (length node.bytes) before used addresses 2 3 _ (level_parts g addresses 2) refl (omega arith) is one
    (indirect_level g (length node.bytes) before used addresses 2 size (omega arith) (λ index. refl) is) in
    more_levels g (length node.bytes) before used addresses 3 4 _ (level_parts g addresses 3) refl (omega arith) is two
    (indirect_level g (length node.bytes) before used addresses 3 size (omega arith) (λ index. refl) is)
