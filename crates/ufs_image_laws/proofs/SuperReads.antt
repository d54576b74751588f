-- The superblock of a built volume is read.
use Rattle.std.proofs.Common.{◌≡◌, ◌∙◌, ℕ, ◌+◌, ◌*◌, ◌/◌, ◌%◌, ◌<◌, ◌≤◌, true, List, [], ◌∷◌, ◌++◌, length, take, drop, sym, ap, arith}
use Rattle.std.specs.Prelude.{Ok, nat_le}
use Rattle.std.specs.Int.{div_ceil}
use Rattle.std.specs.List.{flat_map, range_with_len}
use Rattle.std.proofs.Math.Nat.{add-mul, div-add-mod', lt_of_mul-lt-mul_right}
use Rattle.std.proofs.lemmas.Bool.{and_parts, leb-true}
use Rattle.std.proofs.lemmas.Grind.{div_ceil_times}
use Rattle.ufs_model.specs.Blocks.{bind}
use Rattle.ufs_model.specs.Superblocks.{geometry_in, geometry_of, superblock_of}
use Rattle.ufs_model.specs.declared.geometries.Geometry.{Geometry}
use Rattle.ufs_model.specs.declared.numbers.Endian.TheVariants.{Big}
use Rattle.ufs_model.proofs.GeometryLaws.{is_accepted}
use Rattle.ufs_build.specs.Images.{file_parts, group_parts, volume_bytes, volume_parts}
use Rattle.ufs_build.specs.Nodes.{Node}
use Rattle.ufs_build.specs.Parts.{Part, field_parts, number_bytes}
use Rattle.ufs_build.specs.Placements.{AllPlaced}
use Rattle.ufs_build.specs.Volumes.{superblock_fields}
use Rattle.ufs_build.specs.declared.parts.Field.{Field}
use Rattle.ufs_image_laws.specs.Built.{blocks_in}
use Rattle.ufs_image_laws.specs.Reads.{Stands}
use Rattle.ufs_image_laws.proofs.AreaLaws.{area_within_is}
use Rattle.ufs_image_laws.proofs.ListLaws.{Each, Has, each_has, fields_ascend, has_field, has_left}
use Rattle.ufs_image_laws.proofs.NumberLaws.{number_in_area, number_read}
use Rattle.ufs_image_laws.proofs.SuperLaws.{HasFields, NumbersFit, is_superblock, magic_field, magic_read, order_read, ordered}
use Rattle.ufs_image_laws.proofs.VolumeLaws.{AreVolume, volume_stands}
use Rattle.ufs_image_laws.proofs.ZoneLaws.{sizes, super_inside}

field_stands : (g : Geometry) (nodes : List Node) (all : AllPlaced) (x : Field) → AreVolume g nodes all → Has x (superblock_fields g)
    → Stands (volume_bytes g nodes all) (8192 + x.at) (number_bytes g.endian 4 x.value)
unfolding volume_parts
field_stands g nodes all x is has =
    let part : Part = record { at = 8192 + x.at; bytes = number_bytes g.endian 4 x.value } in
    let supers = field_parts g.endian 8192 (superblock_fields g) in
    let groups = flat_map (group_parts g (length nodes + 2) all.used) (range_with_len 0 g.ncg) in
    volume_stands g nodes all part is (has_left part (supers ++ groups) (file_parts g 2 nodes all.files) (has_left part supers groups (has_field g.endian 8192 x (superblock_fields g) has)))

fields_end : (low : ℕ) (xs : List Field) (high : ℕ) → fields_ascend low xs high ≡ true → Each (λ x. x.at + 4 ≤ high) xs × (low ≤ high)
fields_end low [] high h = (tt, leb-true low high h)
fields_end low (x ∷ xs) high h =
    let parts = and_parts (nat_le low x.at) (fields_ascend (x.at + 4) xs high) h in
    let first = leb-true low x.at (parts.0) in
    let rest = fields_end (x.at + 4) xs high (parts.1) in
    let end = rest.1 in
    ((end, rest.0), omega arith)

-- bytes from byte 8192 on have the fields
area_fields : (g : Geometry) (nodes : List Node) (all : AllPlaced) (n : ℕ) → AreVolume g nodes all → 1376 ≤ n
    → HasFields (take n (drop 8192 (volume_bytes g nodes all))) g
area_fields g nodes all n is long = record {
  order = order_read g.endian (take n (drop 8192 (volume_bytes g nodes all)))
      (number_in_area Big 4 (volume_bytes g nodes all) 8192 1372 n (omega arith)
      ∙ magic_read g.endian (volume_bytes g nodes all) (8192 + 1372) (field_stands g nodes all (record { at = 1372; value = 0x00011954 }) is (magic_field g)));
  each = λ x has.
      let end = each_has (λ (y : Field). y.at + 4 ≤ 1376) x (superblock_fields g) ((fields_end 8 (superblock_fields g) 1376 (ordered g)).0) has in
      number_in_area g.endian 4 (volume_bytes g nodes all) 8192 x.at n (omega arith)
      ∙ number_read g.endian 4 x.value (volume_bytes g nodes all) (8192 + x.at) (field_stands g nodes all x is has);
}

pub geometry_read : (l : ℕ) (g : Geometry) (nodes : List Node) (all : AllPlaced) → l ≡ g.fsize → 8192 % l ≡ 0 → NumbersFit g → AreVolume g nodes all
    → (geometry_of l g.size (blocks_in l g.size (volume_bytes g nodes all))).value ≡ Ok g
unfolding geometry_of superblock_of bind
geometry_read l g nodes all same divides numbers is =
    let whole = is.geometry in
    let tests = whole.tests in
    let size = sizes g tests in
    let some = size.some in
    let inside = super_inside g tests in
    let room = tests.sblkno in
    let split = div-add-mod' 8192 l in
    let start : 8192 / l * l ≡ 8192 = omega arith in
    let blocks = div_ceil_times 1376 l (omega arith) in
    let most = blocks.1 in
    let least = blocks.0 in
    let sum : (8192 / l + div_ceil 1376 l) * l ≡ 8192 / l * l + div_ceil 1376 l * l = add-mul (8192 / l) (div_ceil 1376 l) l in
    let next : (g.sblkno + 1) * l ≡ g.sblkno * l + l = grind arith in
    let room_in : 9568 ≤ g.sblkno * l = rw same room in
    let before : 8192 / l + div_ceil 1376 l < g.sblkno + 1 = lt_of_mul-lt-mul_right l (let h : (8192 / l + div_ceil 1376 l) * l < (g.sblkno + 1) * l = omega arith in h) in
    let area = area_within_is l g.size (8192 / l) (div_ceil 1376 l) (volume_bytes g nodes all) (omega arith) in
    let bytes = take (div_ceil 1376 l * l) (drop 8192 (volume_bytes g nodes all)) in
    ap (λ (xs : List ℕ). geometry_in xs l g.size) (area ∙ ap (λ (m : ℕ). take (div_ceil 1376 l * l) (drop m (volume_bytes g nodes all))) start)
    ∙ is_accepted bytes l g.size g (is_superblock bytes l g.size g (area_fields g nodes all (div_ceil 1376 l * l) is least) numbers
    (record { tests = tests; fsize = sym same; size = let r : g.size ≤ g.size = omega arith in r }))
