-- The inodes of a built volume are read.
use Rattle.std.proofs.Common.{◌≡◌, ◌≢◌, ◌∙◌, ℕ, zero, suc, ◌+◌, ◌-◌, ◌*◌, ◌/◌, ◌^◌, ◌<◌, ◌≤◌, ◌⊎◌, ◌==◌, Bool, true, false, List, [], ◌∷◌, ◌++◌, length, take, drop, get_or, refl, sym, ap, subst, arith, inl, inr, Some, None}
use Rattle.std.specs.Prelude.{if◌then◌else◌, nat_lt, replicate, slice_get, slice_index}
use Rattle.std.specs.List.{flat_map, range_with_len}
use Rattle.std.proofs.lemmas.Bool.{cases_eq}
use Rattle.std.proofs.lemmas.Bool.Decides.{nat_tests}
use Rattle.std.proofs.lemmas.List.{drop-drop, drop-take, get_or-drop, length-replicate, take-take}
use Rattle.std.proofs.lemmas.Option.{same_Some, slice_get_within}
use Rattle.ufs_model.specs.Blocks.{bind, block_at}
use Rattle.ufs_model.specs.Geometries.{IsGeometry}
use Rattle.ufs_model.specs.Inodes.{inode_block, inode_byte, inode_bytes, inode_in, inode_of, numbers_from}
use Rattle.ufs_model.specs.Numbers.{number_at}
use Rattle.ufs_model.specs.Roles.{role}
use Rattle.ufs_model.specs.declared.geometries.Geometry.{Geometry}
use Rattle.ufs_model.specs.declared.numbers.Endian.{Endian}
use Rattle.ufs_model.specs.declared.numbers.Endian.TheVariants.{Little, Big}
use Rattle.ufs_model.specs.declared.roles.Role.TheVariants.{System}
use Rattle.ufs_model.specs.declared.roles.SystemKind.TheVariants.{Group, Inodes, Super}
use Rattle.ufs_build.specs.Images.{block_parts, file_parts, group_parts, inode_parts, inode_place, slot_address, slot_parts, volume_bytes, volume_parts}
use Rattle.ufs_build.specs.Nodes.{Node}
use Rattle.ufs_build.specs.Parts.{Part, field_parts, number_bytes}
use Rattle.ufs_build.specs.Placements.{Addresses, AllPlaced, address_at, placed_file}
use Rattle.ufs_build.specs.Volumes.{superblock_fields}
use Rattle.ufs_image_laws.specs.Built.{blocks_in}
use Rattle.ufs_image_laws.specs.Inodes.{IsInodeOf}
use Rattle.ufs_image_laws.specs.Reads.{Misses, Stands}
use Rattle.ufs_image_laws.proofs.AreaLaws.{block_is}
use Rattle.ufs_image_laws.proofs.ListLaws.{Between, Each, Has, Lies, ascend_lies, each_append, each_flat, each_weaker, has_flat, has_left, has_right}
use Rattle.ufs_image_laws.proofs.NumberLaws.{number_back, number_in_area}
use Rattle.ufs_image_laws.proofs.PartLaws.{InSystem, group_lies}
use Rattle.ufs_image_laws.proofs.PlacingLaws.{ArePlaced, IsPlaced}
use Rattle.ufs_image_laws.proofs.SuperLaws.{NumbersFit, super_ascends}
use Rattle.ufs_image_laws.proofs.VolumeLaws.{AreVolume, InFiles, block_role, files_apart, first_placed, group_inodes, same_kind, super_inodes, system_data, volume_stands, volume_zeros}
use Rattle.ufs_image_laws.proofs.ZoneLaws.{InodeZone, in_group, in_inodes, inode_fits, inode_group, inode_zone, one_inode, super_zone}

-- ---- the bytes of an inode

pub bytes_are : (g : Geometry) (image : List ℕ) (i : ℕ) → IsGeometry g → i < g.ncg * g.ipg
    → inode_bytes g i (block_at g.fsize (blocks_in g.fsize g.size image) (inode_block g i)) ≡ take 128 (drop (inode_place g i) image)
unfolding inode_place
bytes_are g image i is low =
    let fits = inode_fits g i is in
    let in_it = in_inodes g i is in
    let from = in_it.low in
    let group = in_group g (i / g.ipg) (inode_block g i) is (inode_group g i is low) (omega arith) in_it.high in
    let rest : g.fsize ≡ inode_byte g i + (g.fsize - inode_byte g i) = omega arith in
    ap (λ (block : List ℕ). take 128 (drop (inode_byte g i) block)) (block_is g.fsize g.size image (inode_block g i) group.inside)
    ∙ ap (λ (n : ℕ). take 128 (drop (inode_byte g i) (take n (drop (inode_block g i * g.fsize) image)))) rest
    ∙ ap (take 128) (drop-take (inode_byte g i) (g.fsize - inode_byte g i) (drop (inode_block g i * g.fsize) image))
    ∙ take-take 128 (g.fsize - inode_byte g i) (drop (inode_byte g i) (drop (inode_block g i * g.fsize) image)) (omega arith)
    ∙ ap (take 128) (drop-drop (inode_byte g i) (inode_block g i * g.fsize) image)

numbers_at : (endian : Endian) (bytes : List ℕ) (at count j : ℕ) → j < count → slice_index (numbers_from endian bytes at count) j ≡ number_at endian 4 bytes (at + 4 * j)
numbers_at endian bytes at zero j low = absurd (omega arith)
numbers_at endian bytes at (suc count) zero low = ap (number_at endian 4 bytes) (let e : at ≡ at + 4 * 0 = omega arith in e)
numbers_at endian bytes at (suc count) (suc j) low =
    numbers_at endian bytes (at + 4) count j (omega arith) ∙ ap (number_at endian 4 bytes) (let e : at + 4 + 4 * j ≡ at + 4 * suc j = omega arith in e)

slot_by : (endian : Endian) (bytes : List ℕ) (slot : ℕ) (direct : Bool) → nat_lt slot 12 ≡ direct → slot < 15
    → (if direct then slice_index (numbers_from endian bytes 40 12) slot else slice_index (numbers_from endian bytes 88 3) (slot - 12)) ≡ number_at endian 4 bytes (40 + 4 * slot)
slot_by endian bytes slot true e low = numbers_at endian bytes 40 12 slot (grind (arith, nat_tests))
slot_by endian bytes slot false e low =
    let high : 12 ≤ slot = grind (arith, nat_tests) in
    numbers_at endian bytes 88 3 (slot - 12) (omega arith) ∙ ap (number_at endian 4 bytes) (let e' : 88 + 4 * (slot - 12) ≡ 40 + 4 * slot = omega arith in e')

-- what bytes have to be for an inode
pub record AreInode (endian : Endian) (node : Node) (addresses : Addresses) (bytes : List ℕ) : Type 0 where
  pub mode : number_at endian 2 bytes 0 ≡ node.mode
  pub some : node.mode ≢ 0
  pub size : number_at endian 8 bytes 8 ≡ length node.bytes
  pub slots : node.inside ≡ false → (slot : ℕ) → slot < 15 → number_at endian 4 bytes (40 + 4 * slot) ≡ slot_address addresses slot

inode_by : (endian : Endian) (node : Node) (addresses : Addresses) (bytes : List ℕ) (none : Bool) → (number_at endian 2 bytes 0 == 0) ≡ none → AreInode endian node addresses bytes
    → IsInodeOf node addresses (if none then None else Some (record {
      mode = number_at endian 2 bytes 0;
      size = number_at endian 8 bytes 8;
      db = numbers_from endian bytes 40 12;
      ib = numbers_from endian bytes 88 3;
    }))
inode_by endian node addresses bytes true e are =
    let some = are.some in
    absurd (some (sym are.mode ∙ (let z : number_at endian 2 bytes 0 ≡ 0 = grind (arith, nat_tests) in z)))
inode_by endian node addresses bytes false e are = record {
  inode = record {
    mode = number_at endian 2 bytes 0;
    size = number_at endian 8 bytes 8;
    db = numbers_from endian bytes 40 12;
    ib = numbers_from endian bytes 88 3;
  };
  is = refl;
  mode = are.mode;
  size = are.size;
  slots = λ outside slot low. slot_by endian bytes slot (nat_lt slot 12) refl low ∙ are.slots outside slot low;
}

inode_from : (endian : Endian) (node : Node) (addresses : Addresses) (bytes : List ℕ) → AreInode endian node addresses bytes → IsInodeOf node addresses (inode_in endian bytes)
unfolding inode_in
inode_from endian node addresses bytes are = inode_by endian node addresses bytes (number_at endian 2 bytes 0 == 0) refl are

-- ---- the parts of file number k

pub has_file : (g : Geometry) (i k : ℕ) (nodes : List Node) (files : List Addresses) (node : Node) (addresses : Addresses) (part : Part)
    → slice_get nodes k ≡ Some node → slice_get files k ≡ Some addresses → Has part (inode_parts g (inode_place g (i + k)) node addresses ++ block_parts g node addresses)
    → Has part (file_parts g i nodes files)
has_file g i k [] files node addresses part e f has = absurd (cc e)
has_file g i k (first ∷ nodes) [] node addresses part e f has = absurd (cc f)
has_file g i zero (first ∷ nodes) (own ∷ files) node addresses part e f has =
    let same : first ≡ node = same_Some first node e in
    let same' : own ≡ addresses = same_Some own addresses f in
    has_left part (inode_parts g (inode_place g i) first own ++ block_parts g first own) (file_parts g (suc i) nodes files)
    (rw (same, same') (subst (λ (n : ℕ). Has part (inode_parts g (inode_place g n) node addresses ++ block_parts g node addresses)) (let z : i + 0 ≡ i = omega arith in z) has))
has_file g i (suc k) (first ∷ nodes) (own ∷ files) node addresses part e f has =
    has_right part (inode_parts g (inode_place g i) first own ++ block_parts g first own) (file_parts g (suc i) nodes files)
    (has_file g (suc i) k nodes files node addresses part e f
    (subst (λ (n : ℕ). Has part (inode_parts g (inode_place g n) node addresses ++ block_parts g node addresses)) (let z : i + suc k ≡ suc i + k = omega arith in z) has))

-- how file number k was placed
pub record FilePlaced (g : Geometry) (node : Node) (addresses : Addresses) : Type 0 where
  pub before : List Bool
  pub after : List Bool
  pub long : length before ≡ g.size
  pub steps : placed_file g node before ≡ Some (record { used = after; addresses = addresses })
  pub is : IsPlaced g (length node.bytes) before (record { used = after; addresses = addresses })

pub file_at : (g : Geometry) (k : ℕ) (nodes : List Node) (files : List Addresses) (node : Node) (addresses : Addresses) (before after : List Bool) → length before ≡ g.size
    → ArePlaced g nodes files before after → slice_get nodes k ≡ Some node → slice_get files k ≡ Some addresses → FilePlaced g node addresses
file_at g k [] files node addresses before after long placed e f = absurd (cc e)
file_at g k (first ∷ nodes) [] node addresses before after long placed e f = absurd (cc f)
file_at g zero (first ∷ nodes) (own ∷ files) node addresses before after long placed e f =
    let same : first ≡ node = same_Some first node e in
    let same' : own ≡ addresses = same_Some own addresses f in
    subst (λ (n : Node). FilePlaced g n addresses) same (subst (λ (a : Addresses). FilePlaced g first a) same'
    (record { before = before; after = placed.0; long = long; steps = placed.1; is = first_placed g first before (placed.0) own long (placed.1) }))
file_at g (suc k) (first ∷ nodes) (own ∷ files) node addresses before after long placed e f =
    let here = first_placed g first before (placed.0) own long (placed.1) in
    file_at g k nodes files node addresses (placed.0) after here.long (placed.2) e f

pub slot_part : (g : Geometry) (at : ℕ) (node : Node) (addresses : Addresses) (slot : ℕ) → node.inside ≡ false → slot < 15
    → Has (record { at = at + 40 + 4 * slot; bytes = number_bytes g.endian 4 (slot_address addresses slot) }) (inode_parts g at node addresses)
unfolding inode_parts
slot_part g at node addresses slot outside low =
    let part : Part = record { at = at + 40 + 4 * slot; bytes = number_bytes g.endian 4 (slot_address addresses slot) } in
    let last : Has part (if node.inside then record { at = at + 40; bytes = node.bytes } ∷ [] else flat_map (slot_parts g at addresses) (range_with_len 0 15)) =
    rw outside (has_flat part (slot_parts g at addresses) 0 15 slot (omega arith) (omega arith) (inl refl)) in
    inr (inr (inr last))

mode_part : (g : Geometry) (at : ℕ) (node : Node) (addresses : Addresses) → Has (record { at = at; bytes = number_bytes g.endian 2 node.mode }) (inode_parts g at node addresses)
unfolding inode_parts
mode_part g at node addresses = inl refl

size_part : (g : Geometry) (at : ℕ) (node : Node) (addresses : Addresses)
    → Has (record { at = at + 8; bytes = number_bytes g.endian 8 (length node.bytes) }) (inode_parts g at node addresses)
unfolding inode_parts
size_part g at node addresses = inr (inr (inl refl))

pub volume_has : (g : Geometry) (nodes : List Node) (all : AllPlaced) (part : Part) → Has part (file_parts g 2 nodes all.files) → Has part (volume_parts g nodes all)
unfolding volume_parts
volume_has g nodes all part has =
    has_right part (field_parts g.endian 8192 (superblock_fields g) ++ flat_map (group_parts g (length nodes + 2) all.used) (range_with_len 0 g.ncg)) (file_parts g 2 nodes all.files) has

-- ---- addresses have 32 bits

pub small_address : (g : Geometry) (node : Node) (addresses : Addresses) (level index : ℕ) → NumbersFit g → FilePlaced g node addresses → level < 4
    → address_at addresses level index < 2 ^ 32
small_address g node addresses level index fit placed low =
    elim (cases_eq (address_at addresses level index) 0) as (λ _. address_at addresses level index < 2 ^ 32) [
      | inl none ↦ rw none (omega arith)
      | inr some ↦
          let file = placed.is in
          let run = file.runs level index low some in
          let inside = run.inside in
          let size = fit.size in
          omega arith
    ]

slot_small_by : (direct : Bool) (one other : ℕ) → one < 2 ^ 32 → other < 2 ^ 32 → (if direct then one else other) < 2 ^ 32
slot_small_by true one other h k = h
slot_small_by false one other h k = k

slot_small : (g : Geometry) (node : Node) (addresses : Addresses) (slot : ℕ) → NumbersFit g → FilePlaced g node addresses → slot < 15 → slot_address addresses slot < 2 ^ 32
slot_small g node addresses slot fit placed low =
    slot_small_by (nat_lt slot 12) (address_at addresses 0 slot) (address_at addresses (slot - 11) 0)
    (small_address g node addresses 0 slot fit placed (omega arith)) (small_address g node addresses (slot - 11) 0 fit placed (omega arith))

-- ---- an inode that is used

file_stands : (g : Geometry) (nodes : List Node) (all : AllPlaced) (k : ℕ) (node : Node) (addresses : Addresses) (part : Part) → AreVolume g nodes all
    → slice_get nodes k ≡ Some node → slice_get all.files k ≡ Some addresses → Has part (inode_parts g (inode_place g (2 + k)) node addresses)
    → Stands (volume_bytes g nodes all) part.at part.bytes
file_stands g nodes all k node addresses part is e f has =
    volume_stands g nodes all part is (volume_has g nodes all part (has_file g 2 k nodes all.files node addresses part e f
    (has_left part (inode_parts g (inode_place g (2 + k)) node addresses) (block_parts g node addresses) has)))

pub node_low : (nodes : List Node) (k : ℕ) (node : Node) → slice_get nodes k ≡ Some node → k < length nodes
node_low nodes k node e = slice_get_within nodes k node e

pub inode_read : (g : Geometry) (nodes : List Node) (all : AllPlaced) (k : ℕ) (node : Node) (addresses : Addresses) → NumbersFit g → AreVolume g nodes all
    → slice_get nodes k ≡ Some node → slice_get all.files k ≡ Some addresses → node.mode ≢ 0 → node.mode < 2 ^ 16 → length node.bytes < 2 ^ 64
    → IsInodeOf node addresses ((inode_of g (2 + k) (blocks_in g.fsize g.size (volume_bytes g nodes all))).value)
unfolding inode_of bind
inode_read g nodes all k node addresses fit is e f some mode size =
    let image = volume_bytes g nodes all in
    let at = inode_place g (2 + k) in
    let few = is.few in
    let low = node_low nodes k node e in
    let whole = is.geometry in
    let placed = file_at g k nodes all.files node addresses (replicate g.size false) all.used (length-replicate g.size false) is.placed e f in
    let bytes = bytes_are g image (2 + k) whole.tests (omega arith) in
    let here : number_at g.endian 2 image (at + 0) ≡ node.mode =
    ap (number_at g.endian 2 image) (let z : at + 0 ≡ at = omega arith in z)
    ∙ number_back g.endian 2 node.mode image at mode (file_stands g nodes all k node addresses (record { at = at; bytes = number_bytes g.endian 2 node.mode }) is e f (mode_part g at node addresses)) in
    let are : AreInode g.endian node addresses (take 128 (drop at image)) = record {
      mode = number_in_area g.endian 2 image at 0 128 (omega arith) ∙ here;
      some = some;
      size = number_in_area g.endian 8 image at 8 128 (omega arith)
          ∙ number_back g.endian 8 (length node.bytes) image (at + 8) size
          (file_stands g nodes all k node addresses (record { at = at + 8; bytes = number_bytes g.endian 8 (length node.bytes) }) is e f (size_part g at node addresses));
      slots = λ outside slot less. number_in_area g.endian 4 image at (40 + 4 * slot) 128 (omega arith)
          ∙ ap (number_at g.endian 4 image) (let z : at + (40 + 4 * slot) ≡ at + 40 + 4 * slot = omega arith in z)
          ∙ number_back g.endian 4 (slot_address addresses slot) image (at + 40 + 4 * slot) (slot_small g node addresses slot fit placed less)
          (file_stands g nodes all k node addresses (record { at = at + 40 + 4 * slot; bytes = number_bytes g.endian 4 (slot_address addresses slot) }) is e f
          (slot_part g at node addresses slot outside less));
    } in
    subst (λ (xs : List ℕ). IsInodeOf node addresses (inode_in g.endian xs)) (sym bytes) (inode_from g.endian node addresses (take 128 (drop at image)) are)

-- ---- an inode that isn't used

misses_of : (K : ℕ → Type 0) (p : ℕ) (xs : List Part) → (K p → ⊥) → Each (Lies K) xs → Each (Misses p) xs
misses_of K p xs none lies = each_weaker (Lies K) (Misses p) (λ x is. record { none = λ low high. none (is.zone p low high) }) xs lies

-- an inode behind those of all files is none of theirs
no_file : (g : Geometry) (i j : ℕ) (nodes : List Node) (files : List Addresses) (before after : List Bool) (p : ℕ) → IsGeometry g → length before ≡ g.size
    → ArePlaced g nodes files before after → (i < j ⊎ (j + length nodes ≤ i)) → InodeZone g i p → InFiles g j nodes files p → ⊥
no_file g i j [] files before after p is long placed away here of_file = of_file
no_file g i j (node ∷ nodes) [] before after p is long placed away here of_file = of_file
no_file g i j (node ∷ nodes) (addresses ∷ files) before after p is long placed away here (inl (inl inode)) =
    let same = one_inode g i j p is here inode in
    elim away as (λ _. ⊥) [ inl less ↦ omega arith | inr past ↦ omega arith ]
no_file g i j (node ∷ nodes) (addresses ∷ files) before after p is long placed away here (inl (inr block)) =
    let first = first_placed g node before (placed.0) addresses long (placed.1) in
    let data_of = block_role g (length node.bytes) before (placed.0) addresses p first block in
    system_data (data_of.0) Inodes (role g (p / g.fsize)) here.is (data_of.1)
no_file g i j (node ∷ nodes) (addresses ∷ files) before after p is long placed away here (inr later) =
    let first = first_placed g node before (placed.0) addresses long (placed.1) in
    let away' : i < suc j ⊎ (suc j + length nodes ≤ i) = elim away as (λ _. i < suc j ⊎ (suc j + length nodes ≤ i)) [
      | inl less ↦ inl (omega arith)
      | inr past ↦ inr (omega arith)
    ] in
    no_file g i (suc j) nodes files (placed.0) after p is first.long (placed.2) away' here later

unused_misses : (g : Geometry) (nodes : List Node) (all : AllPlaced) (i p : ℕ) → AreVolume g nodes all → (i < 2 ⊎ (2 + length nodes ≤ i)) → InodeZone g i p
    → Each (Misses p) (volume_parts g nodes all)
unfolding volume_parts
unused_misses g nodes all i p is away here =
    let whole = is.geometry in
    let long : length (replicate g.size false) ≡ g.size = length-replicate g.size false in
    let supers = field_parts g.endian 8192 (superblock_fields g) in
    let groups = flat_map (group_parts g (length nodes + 2) all.used) (range_with_len 0 g.ncg) in
    let facts = files_apart g 2 nodes all.files (replicate g.size false) all.used whole.tests long is.few is.fits is.placed in
    each_append (Misses p) (supers ++ groups) (file_parts g 2 nodes all.files)
    (each_append (Misses p) supers groups
    (misses_of (Between (8192 + 8) (8192 + 1376)) p supers
    (λ in_it. super_inodes (same_kind Super Inodes (sym (super_zone g p whole.tests (let low = in_it.0 in omega arith) (in_it.1)) ∙ here.is)))
    (ascend_lies (8192 + 8) supers (8192 + 1376) (super_ascends g 8192)))
    (misses_of (InSystem g (System Group)) p groups (λ in_it. group_inodes (same_kind Group Inodes (sym in_it.is ∙ here.is)))
    (each_flat (Lies (InSystem g (System Group))) (group_parts g (length nodes + 2) all.used) 0 g.ncg (λ c from to. group_lies g (length nodes + 2) all.used c whole (omega arith)))))
    (misses_of (InFiles g 2 nodes all.files) p (file_parts g 2 nodes all.files)
    (no_file g i 2 nodes all.files (replicate g.size false) all.used p whole.tests long is.placed away here) facts.lies)

zero_number : (endian : Endian) (bytes : List ℕ) (at : ℕ) → get_or bytes (at + 0) 0 ≡ 0 → get_or bytes (at + 1) 0 ≡ 0 → number_at endian 2 bytes at ≡ 0
unfolding number_at
zero_number Little bytes at e f = rw (get_or-drop at bytes 0 0, get_or-drop at bytes 1 0, e, f) refl
zero_number Big bytes at e f = rw (get_or-drop at bytes 0 0, get_or-drop at bytes 1 0, e, f) refl

none_by : (endian : Endian) (bytes : List ℕ) → number_at endian 2 bytes 0 ≡ 0 → inode_in endian bytes ≡ None
unfolding inode_in
none_by endian bytes e = let zero_mode : (number_at endian 2 bytes 0 == 0) ≡ true = grind (arith, nat_tests) in rw zero_mode refl

pub inode_none : (g : Geometry) (nodes : List Node) (all : AllPlaced) (i : ℕ) → AreVolume g nodes all → i < g.ncg * g.ipg → (i < 2 ⊎ (2 + length nodes ≤ i))
    → (inode_of g i (blocks_in g.fsize g.size (volume_bytes g nodes all))).value ≡ None
unfolding inode_of bind
inode_none g nodes all i is low away =
    let whole = is.geometry in
    let image = volume_bytes g nodes all in
    let at = inode_place g i in
    let bytes = bytes_are g image i whole.tests low in
    let zero_at : (j : ℕ) → j < 128 → get_or image (at + j) 0 ≡ 0 = λ j less.
    volume_zeros g nodes all (at + j) (unused_misses g nodes all i (at + j) is away (inode_zone g i (at + j) whole.tests low (omega arith) (omega arith))) in
    let none : number_at g.endian 2 (take 128 (drop at image)) 0 ≡ 0 =
    number_in_area g.endian 2 image at 0 128 (omega arith) ∙ ap (number_at g.endian 2 image) (let z : at + 0 ≡ at = omega arith in z)
    ∙ zero_number g.endian image at (zero_at 0 (omega arith)) (zero_at 1 (omega arith)) in
    ap (inode_in g.endian) bytes ∙ none_by g.endian (take 128 (drop at image)) none
