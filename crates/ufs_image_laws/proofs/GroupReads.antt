-- The group blocks of a built volume are read.
use Rattle.std.proofs.Common.{◌≡◌, ◌∙◌, ℕ, ◌+◌, ◌-◌, ◌*◌, ◌/◌, ◌%◌, ◌^◌, ◌<◌, ◌≤◌, ◌==◌, ◌&&◌, not, Bool, true, false, List, [], ◌∷◌, ◌++◌, length, take, drop, get_or, refl, sym, ap, arith, inl, inr}
use Rattle.std.specs.Prelude.{Ok, nat_le, nat_lt}
use Rattle.std.specs.Int.{div_ceil}
use Rattle.std.specs.List.{flat_map, range_with_len}
use Rattle.std.proofs.Math.Nat.{div-add-mod', div-lt_iff_lt-mul, mul-le-mul_right}
use Rattle.std.proofs.lemmas.Bool.{and_from, cases_lt, eq-eqb, le-leb}
use Rattle.std.proofs.lemmas.Grind.{div_ceil_times}
use Rattle.std.proofs.lemmas.List.FromFn.{get_or-map-range_with_len, length-map-range_with_len}
use Rattle.std.proofs.lemmas.Nat.{mod_below}
use Rattle.ufs_model.specs.Blocks.{bind}
use Rattle.ufs_model.specs.Geometries.{IsGeometry, cgbase, cgstart, end_of}
use Rattle.ufs_model.specs.GroupMaps.{by_maps, group_bytes, group_fields as fields_of_group, group_in, group_magic_holds, is_marked_free, is_marked_unused, is_set, maps_hold}
use Rattle.ufs_model.specs.Numbers.{number_at}
use Rattle.ufs_model.specs.Roles.{is_data_of, role}
use Rattle.ufs_model.specs.declared.geometries.Geometry.{Geometry}
use Rattle.ufs_model.specs.declared.numbers.Endian.{Endian}
use Rattle.ufs_model.specs.declared.group_maps.Group.{Group}
use Rattle.ufs_build.specs.Images.{file_parts, fragment_bits, group_fields, group_parts, group_place, inode_bits, map_bytes, volume_bytes, volume_parts}
use Rattle.ufs_build.specs.Nodes.{Node}
use Rattle.ufs_build.specs.Parts.{Part, field_parts, number_bytes}
use Rattle.ufs_build.specs.Placements.{AllPlaced, is_used}
use Rattle.ufs_build.specs.Volumes.{freeoff_of, iusedoff, map_length, superblock_fields}
use Rattle.ufs_image_laws.specs.Built.{blocks_in, group_of}
use Rattle.ufs_image_laws.specs.Reads.{Stands}
use Rattle.ufs_image_laws.proofs.AreaLaws.{area_is}
use Rattle.ufs_image_laws.proofs.ListLaws.{Has, has_at, has_field, has_flat, has_left, has_right}
use Rattle.ufs_image_laws.proofs.MapLaws.{map_read}
use Rattle.ufs_image_laws.proofs.NumberLaws.{number_back, number_in_area}
use Rattle.ufs_image_laws.proofs.PartLaws.{IsWhole, free_size, used_size}
use Rattle.ufs_image_laws.proofs.SuperLaws.{NumbersFit}
use Rattle.ufs_image_laws.proofs.VolumeLaws.{AreVolume, volume_stands}
use Rattle.ufs_image_laws.proofs.ZoneLaws.{in_group, order, sizes}

group_has : (g : Geometry) (nodes : List Node) (all : AllPlaced) (c : ℕ) (part : Part) → c < g.ncg → Has part (group_parts g (length nodes + 2) all.used c)
    → Has part (volume_parts g nodes all)
unfolding volume_parts
group_has g nodes all c part low has =
    let supers = field_parts g.endian 8192 (superblock_fields g) in
    let groups = flat_map (group_parts g (length nodes + 2) all.used) (range_with_len 0 g.ncg) in
    has_left part (supers ++ groups) (file_parts g 2 nodes all.files)
    (has_right part supers groups (has_flat part (group_parts g (length nodes + 2) all.used) 0 g.ncg c (omega arith) (omega arith) has))

field_stands : (g : Geometry) (nodes : List Node) (all : AllPlaced) (c k at value : ℕ) → AreVolume g nodes all → c < g.ncg → k < 5
    → get_or (group_fields g c) k (record { at = at; value = value }) ≡ record { at = at; value = value }
    → Stands (volume_bytes g nodes all) (group_place g c + at) (number_bytes g.endian 4 value)
unfolding group_parts group_fields
field_stands g nodes all c k at value is low less e =
    let part : Part = record { at = group_place g c + at; bytes = number_bytes g.endian 4 value } in
    let fields = field_parts g.endian (group_place g c) (group_fields g c) in
    volume_stands g nodes all part is (group_has g nodes all c part low
    (has_left part fields (record { at = group_place g c + iusedoff; bytes = map_bytes (inode_bits g c (length nodes + 2)) }
    ∷ record { at = group_place g c + freeoff_of g.ipg; bytes = map_bytes (fragment_bits g c all.used) } ∷ [])
    (has_field g.endian (group_place g c) (record { at = at; value = value }) (group_fields g c) (has_at (record { at = at; value = value }) (group_fields g c) k less e))))

used_stands : (g : Geometry) (nodes : List Node) (all : AllPlaced) (c : ℕ) → AreVolume g nodes all → c < g.ncg
    → Stands (volume_bytes g nodes all) (group_place g c + iusedoff) (map_bytes (inode_bits g c (length nodes + 2)))
unfolding group_parts
used_stands g nodes all c is low =
    let part : Part = record { at = group_place g c + iusedoff; bytes = map_bytes (inode_bits g c (length nodes + 2)) } in
    volume_stands g nodes all part is (group_has g nodes all c part low
    (has_right part (field_parts g.endian (group_place g c) (group_fields g c))
    (part ∷ record { at = group_place g c + freeoff_of g.ipg; bytes = map_bytes (fragment_bits g c all.used) } ∷ []) (inl refl)))

free_stands : (g : Geometry) (nodes : List Node) (all : AllPlaced) (c : ℕ) → AreVolume g nodes all → c < g.ncg
    → Stands (volume_bytes g nodes all) (group_place g c + freeoff_of g.ipg) (map_bytes (fragment_bits g c all.used))
unfolding group_parts
free_stands g nodes all c is low =
    let part : Part = record { at = group_place g c + freeoff_of g.ipg; bytes = map_bytes (fragment_bits g c all.used) } in
    let first : Part = record { at = group_place g c + iusedoff; bytes = map_bytes (inode_bits g c (length nodes + 2)) } in
    volume_stands g nodes all part is (group_has g nodes all c part low
    (has_right part (field_parts g.endian (group_place g c) (group_fields g c)) (first ∷ part ∷ []) (inr (inl refl))))

-- a group has a whole file block of inodes or more
some_inodes : (g : Geometry) → IsGeometry g → 1 ≤ g.ipg / g.inopb
some_inodes g is =
    let size = sizes g is in
    let some = size.some_inodes in
    let inodes = is.inodes in
    let whole : g.ipg % g.inopb ≡ 0 = inodes.1 in
    let split = div-add-mod' g.ipg g.inopb in
    elim (cases_lt 0 (g.ipg / g.inopb)) [
      | inl lt ↦ lt
      | inr le ↦
          let none : g.ipg / g.inopb ≡ 0 = omega arith in
          let nothing : g.ipg / g.inopb * g.inopb ≡ 0 = rw none (let z : 0 * g.inopb ≡ 0 = omega arith in z) in
          absurd (omega arith)
    ]

-- there is a file block of inodes behind the group block
some_room : (g : Geometry) → IsGeometry g → g.iblkno < g.dblkno
some_room g is =
    let size = sizes g is in
    let frag = size.fragments in
    let one = frag.0 in
    let per = some_inodes g is in
    let many : 1 * g.frag ≤ g.ipg / g.inopb * g.frag = mul-le-mul_right g.frag per in
    let h = is.dblkno in
    omega arith

-- the bytes of a group block
bytes_are : (g : Geometry) (c : ℕ) (image : List ℕ) → IsWhole g → c < g.ncg → (group_bytes g c (blocks_in g.fsize g.size image)).value ≡ take g.bsize (drop (group_place g c) image)
unfolding group_bytes
bytes_are g c image is low =
    let tests = is.tests in
    let size = sizes g tests in
    let places = order g tests in
    let later = places.inodes in
    let frag = size.fragments in
    let some = frag.0 in
    let room = is.group in
    let last = in_group g c (cgstart g c + g.cblkno + (g.frag - 1)) tests low (omega arith) (let h = some_room g tests in omega arith) in
    let inside = last.inside in
    let bytes = size.bytes in
    area_is g.fsize g.size (cgstart g c + g.cblkno) g.frag image (omega arith) ∙ ap (λ (n : ℕ). take n (drop (group_place g c) image)) (sym bytes)

-- ---- the fields

magic_of : (endian : Endian) (c : ℕ) (bytes : List ℕ) → number_at endian 4 bytes 4 ≡ 0x00090255 → number_at endian 4 bytes 12 ≡ c → group_magic_holds endian c bytes ≡ true
unfolding group_magic_holds
magic_of endian c bytes e f = and_from (number_at endian 4 bytes 4 == 0x00090255) (number_at endian 4 bytes 12 == c) (eq-eqb (number_at endian 4 bytes 4) 0x00090255 e) (eq-eqb (number_at endian 4 bytes 12) c f)

maps_of : (g : Geometry) (group : Group) → group.count ≡ end_of g group.c - cgbase g group.c → group.iusedoff + div_ceil g.ipg 8 ≤ g.cgsize → group.freeoff + div_ceil group.count 8 ≤ g.cgsize
    → maps_hold g group ≡ true
unfolding maps_hold
maps_of g group e used free =
    and_from (group.count == end_of g group.c - cgbase g group.c) _ (eq-eqb group.count (end_of g group.c - cgbase g group.c) e)
    (and_from (nat_le (group.iusedoff + div_ceil g.ipg 8) g.cgsize) (nat_le (group.freeoff + div_ceil group.count 8) g.cgsize)
    (le-leb (group.iusedoff + div_ceil g.ipg 8) g.cgsize used) (le-leb (group.freeoff + div_ceil group.count 8) g.cgsize free))

group_by : (g : Geometry) (c : ℕ) (bytes : List ℕ) (group : Group) → fields_of_group g.endian c bytes ≡ group → group_magic_holds g.endian group.c bytes ≡ true → maps_hold g group ≡ true
    → group_in g c bytes ≡ Ok group
unfolding group_in
group_by g c bytes group e magic maps = rw (e, magic, maps) refl

fields_are : (endian : Endian) (c : ℕ) (bytes : List ℕ) (used free count : ℕ) → number_at endian 4 bytes 92 ≡ used → number_at endian 4 bytes 96 ≡ free → number_at endian 4 bytes 20 ≡ count
    → fields_of_group endian c bytes ≡ record { c = c; iusedoff = used; freeoff = free; count = count }
unfolding fields_of_group
fields_are endian c bytes used free count e f h = rw (e, f, h) refl

whole_group : (g : Geometry) (c : ℕ) → IsWhole g → c < g.ncg → g.fpg ≡ end_of g c - cgbase g c
unfolding end_of cgbase
whole_group g c is low =
    let size = is.size in
    let most : (c + 1) * g.fpg ≤ g.ncg * g.fpg = mul-le-mul_right g.fpg (let h : c + 1 ≤ g.ncg = omega arith in h) in
    let next : (c + 1) * g.fpg ≡ g.fpg * c + g.fpg = grind arith in
    omega arith

field_read : (g : Geometry) (nodes : List Node) (all : AllPlaced) (c k at value : ℕ) → AreVolume g nodes all → c < g.ncg → k < 5 → value < 2 ^ 32 → at + 4 ≤ 256
    → get_or (group_fields g c) k (record { at = at; value = value }) ≡ record { at = at; value = value }
    → number_at g.endian 4 (take g.bsize (drop (group_place g c) (volume_bytes g nodes all))) at ≡ value
field_read g nodes all c k at value is low less small room e =
    let whole = is.geometry in
    let size = sizes g whole.tests in
    let large = size.least in
    number_in_area g.endian 4 (volume_bytes g nodes all) (group_place g c) at g.bsize (omega arith)
    ∙ number_back g.endian 4 value (volume_bytes g nodes all) (group_place g c + at) small (field_stands g nodes all c k at value is low less e)

pub group_read : (g : Geometry) (nodes : List Node) (all : AllPlaced) (c : ℕ) → NumbersFit g → g.cgsize ≡ g.bsize → AreVolume g nodes all → c < g.ncg
    → group_in g c ((group_bytes g c (blocks_in g.fsize g.size (volume_bytes g nodes all))).value) ≡ Ok (group_of g c)
unfolding group_fields
group_read g nodes all c fit same is low =
    let whole = is.geometry in
    let tests = whole.tests in
    let groups = fit.ncg in
    let fpg = fit.fpg in
    let maps = whole.maps in
    let large = fit.bsize in
    let round = div_ceil_times (iusedoff + map_length g.ipg) 4 (omega arith) in
    let most = round.0 in
    let bytes = take g.bsize (drop (group_place g c) (volume_bytes g nodes all)) in
    ap (group_in g c) (bytes_are g c (volume_bytes g nodes all) whole low)
    ∙ group_by g c bytes (group_of g c)
    (fields_are g.endian c bytes 256 (freeoff_of g.ipg) g.fpg
    (field_read g nodes all c 3 92 256 is low (omega arith) (omega arith) (omega arith) refl)
    (field_read g nodes all c 4 96 (freeoff_of g.ipg) is low (omega arith) (omega arith) (omega arith) refl)
    (field_read g nodes all c 2 20 g.fpg is low (omega arith) (omega arith) (omega arith) refl))
    (magic_of g.endian c bytes (field_read g nodes all c 0 4 0x00090255 is low (omega arith) (omega arith) (omega arith) refl)
    (field_read g nodes all c 1 12 c is low (omega arith) (omega arith) (omega arith) refl))
    (maps_of g (group_of g c) (whole_group g c whole low) (omega arith) (omega arith))

-- ---- the maps

inode_bit : (g : Geometry) (c inodes i : ℕ) → i < g.ipg → get_or (inode_bits g c inodes) i false ≡ nat_lt (c * g.ipg + i) inodes
unfolding inode_bits
inode_bit g c inodes i low = get_or-map-range_with_len (λ j. nat_lt (c * g.ipg + j) inodes) 0 g.ipg i i false low (omega arith)

inode_bits_size : (g : Geometry) (c inodes : ℕ) → length (inode_bits g c inodes) ≡ g.ipg
unfolding inode_bits
inode_bits_size g c inodes = length-map-range_with_len (λ j. nat_lt (c * g.ipg + j) inodes) 0 g.ipg

fragment_bit : (g : Geometry) (c : ℕ) (used : List Bool) (i : ℕ) → i < g.fpg
    → get_or (fragment_bits g c used) i false ≡ (is_data_of c (role g (cgbase g c + i)) && not (is_used used (cgbase g c + i)))
unfolding fragment_bits
fragment_bit g c used i low =
    get_or-map-range_with_len (λ j. is_data_of c (role g (cgbase g c + j)) && not (is_used used (cgbase g c + j))) 0 g.fpg i i false low (omega arith)

fragment_bits_size : (g : Geometry) (c : ℕ) (used : List Bool) → length (fragment_bits g c used) ≡ g.fpg
unfolding fragment_bits
fragment_bits_size g c used = length-map-range_with_len _ 0 g.fpg

pub unused_read : (g : Geometry) (nodes : List Node) (all : AllPlaced) (i : ℕ) → NumbersFit g → g.cgsize ≡ g.bsize → AreVolume g nodes all → i < g.ncg * g.ipg
    → (is_marked_unused g i (blocks_in g.fsize g.size (volume_bytes g nodes all))).value ≡ not (nat_lt i (length nodes + 2))
unfolding is_marked_unused bind
unused_read g nodes all i fit same is low =
    let whole = is.geometry in
    let size = sizes g whole.tests in
    let maps = whole.maps in
    let image = volume_bytes g nodes all in
    let c = i / g.ipg in
    let r = i % g.ipg in
    let group : c < g.ncg = (div-lt_iff_lt-mul {k = g.ipg} {x = i} {y = g.ncg} size.some_inodes).1 (omega arith) in
    let rest = mod_below i g.ipg size.some_inodes in
    let bits = inode_bits g c (length nodes + 2) in
    let bits_size = inode_bits_size g c (length nodes + 2) in
    let map_size = used_size g c (length nodes + 2) in
    let round = div_ceil_times (iusedoff + map_length g.ipg) 4 (omega arith) in
    let most = round.0 in
    let bytes = bytes_are g c image whole group in
    let set : is_set (take g.bsize (drop (group_place g c) image)) iusedoff r ≡ get_or bits r false =
    map_read image (group_place g c) g.bsize iusedoff bits r (map_size ∙ ap (λ (n : ℕ). div_ceil n 8) (sym bits_size)) (omega (arith, map_size, most, maps))
    (used_stands g nodes all c is group) (rw bits_size rest) in
    ap (λ found. by_maps found (λ group. not (is_set ((group_bytes g c (blocks_in g.fsize g.size image)).value) group.iusedoff r))) (group_read g nodes all c fit same is group)
    ∙ ap (λ (xs : List ℕ). not (is_set xs iusedoff r)) bytes
    ∙ ap not (set ∙ inode_bit g c (length nodes + 2) r rest ∙ ap (λ (n : ℕ). nat_lt n (length nodes + 2)) (div-add-mod' i g.ipg))

pub free_read : (g : Geometry) (nodes : List Node) (all : AllPlaced) (f : ℕ) → NumbersFit g → g.cgsize ≡ g.bsize → AreVolume g nodes all → f < g.size
    → (is_marked_free g f (blocks_in g.fsize g.size (volume_bytes g nodes all))).value ≡ (is_data_of (f / g.fpg) (role g f) && not (is_used all.used f))
unfolding is_marked_free bind cgbase
free_read g nodes all f fit same is low =
    let whole = is.geometry in
    let size = sizes g whole.tests in
    let total = whole.size in
    let maps = whole.maps in
    let image = volume_bytes g nodes all in
    let c = f / g.fpg in
    let r = f % g.fpg in
    let group : c < g.ncg = (div-lt_iff_lt-mul {k = g.fpg} {x = f} {y = g.ncg} size.groups).1 (omega arith) in
    let rest = mod_below f g.fpg size.groups in
    let bits = fragment_bits g c all.used in
    let bits_size = fragment_bits_size g c all.used in
    let map_size = free_size g c all.used in
    let bytes = bytes_are g c image whole group in
    let split = div-add-mod' f g.fpg in
    let turn : g.fpg * c + r ≡ f = omega (arith, split) in
    let set : is_set (take g.bsize (drop (group_place g c) image)) (freeoff_of g.ipg) r ≡ get_or bits r false =
    map_read image (group_place g c) g.bsize (freeoff_of g.ipg) bits r (map_size ∙ ap (λ (n : ℕ). div_ceil n 8) (sym bits_size)) (omega (arith, map_size, maps))
    (free_stands g nodes all c is group) (rw bits_size rest) in
    ap (λ found. by_maps found (λ group. is_set ((group_bytes g c (blocks_in g.fsize g.size image)).value) group.freeoff r)) (group_read g nodes all c fit same is group)
    ∙ ap (λ (xs : List ℕ). is_set xs (freeoff_of g.ipg) r) bytes
    ∙ set ∙ fragment_bit g c all.used r rest ∙ ap (λ (n : ℕ). is_data_of c (role g n) && not (is_used all.used n)) turn
