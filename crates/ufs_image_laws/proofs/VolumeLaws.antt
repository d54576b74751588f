-- All parts of a volume are apart from one another, and inside it.
use Rattle.std.proofs.Common.{◌≡◌, ◌∙◌, ℕ, suc, ◌+◌, ◌*◌, ◌/◌, ◌<◌, ◌≤◌, ◌⊎◌, ◌==◌, Bool, true, false, List, [], ◌∷◌, ◌++◌, length, get_or, refl, sym, ap, subst, arith, inl, inr, Some}
use Rattle.std.specs.Prelude.{if◌then◌else◌, replicate}
use Rattle.std.specs.List.{flat_map, range_with_len}
use Rattle.std.proofs.Math.Nat.{add-mul, mul-le-mul_right}
use Rattle.std.proofs.lemmas.Bool.{false≢true}
use Rattle.std.proofs.lemmas.List.{length-replicate}
use Rattle.ufs_model.specs.Geometries.{IsGeometry}
use Rattle.ufs_model.specs.Inodes.{inode_block}
use Rattle.ufs_model.specs.Roles.{is_data_of, role}
use Rattle.ufs_model.specs.declared.geometries.Geometry.{Geometry}
use Rattle.ufs_model.specs.declared.roles.Role.{Role}
use Rattle.ufs_model.specs.declared.roles.Role.TheVariants.{System}
use Rattle.ufs_model.specs.declared.roles.SystemKind.{SystemKind}
use Rattle.ufs_model.specs.declared.roles.SystemKind.TheVariants.{Group, Inodes, Super}
use Rattle.ufs_build.specs.Images.{block_parts, data_parts, file_parts, group_parts, indirect_parts, inode_parts, inode_place, level_parts, pointer_parts, volume_bytes, volume_parts}
use Rattle.ufs_build.specs.Nodes.{Node}
use Rattle.ufs_build.specs.Parts.{Part, field_parts}
use Rattle.ufs_build.specs.Placements.{Addresses, AllPlaced, address_at, addresses_at, block_bytes, blocks_of, fragments_of, is_used, placed_file}
use Rattle.ufs_build.specs.Volumes.{superblock_fields}
use Rattle.ufs_image_laws.specs.Reads.{Misses, Stands}
use Rattle.ufs_image_laws.proofs.ListLaws.{ApartAll, Between, Each, EndsBy, Has, Lies, apart_zones, ascend_apart, ascend_lies, each_append, each_flat, lies_weaker, part_stands, parts_length, parts_outside}
use Rattle.ufs_image_laws.proofs.PartLaws.{FitsInode, InLevels, InSystem, IsWhole, block_room, blocks_apart, group_lies, groups_ascend, inode_ascends, not_zero, pointers_ascend}
use Rattle.ufs_image_laws.proofs.PlacingLaws.{ArePlaced, IsPlaced, both_ways, count_of, data_in_run, file_placed, get_none}
use Rattle.ufs_image_laws.proofs.SuperLaws.{ascend_ends, super_ascends}
use Rattle.ufs_image_laws.proofs.ZoneLaws.{InodeZone, Sizes, in_group, in_inodes, inode_fits, inode_group, inode_zone, one_inode, sizes, super_inside, super_zone}

-- ---- files

-- a byte of an inode, or of a block of its file, for files from an inode on
abbrev pub InFiles : Geometry → ℕ → List Node → List Addresses → ℕ → Type 0
InFiles g i [] files p = ⊥
InFiles g i (node ∷ nodes) [] p = ⊥
InFiles g i (node ∷ nodes) (addresses ∷ files) p =
    (InodeZone g i p ⊎ InLevels g (length node.bytes) addresses 4 p) ⊎ InFiles g (suc i) nodes files p

pub system_data : (c : ℕ) (kind : SystemKind) (r : Role) → r ≡ System kind → is_data_of c r ≡ true → ⊥
system_data c kind r e is = false≢true (ap (is_data_of c) (sym e) ∙ is)

pub block_role : (g : Geometry) (size : ℕ) (before used : List Bool) (addresses : Addresses) (p : ℕ)
    → IsPlaced g size before (record { used = used; addresses = addresses }) → InLevels g size addresses 4 p
    → (c : ℕ) × (is_data_of c (role g (p / g.fsize)) ≡ true)
block_role g size before used addresses p is in_it =
    let has = in_it.has in
    let run = is.runs in_it.level in_it.index in_it.below has.some in (
      address_at addresses in_it.level in_it.index / g.fpg,
      data_in_run g (address_at addresses in_it.level in_it.index) (count_of g size in_it.level in_it.index) (p / g.fsize) run.run has.low has.high,
    )

-- what is known of the file that was placed first
pub first_placed : (g : Geometry) (node : Node) (before mid : List Bool) (addresses : Addresses) → length before ≡ g.size
    → placed_file g node before ≡ Some (record { used = mid; addresses = addresses }) → IsPlaced g (length node.bytes) before (record { used = mid; addresses = addresses })
first_placed g node before mid addresses long e = file_placed g node before (record { used = mid; addresses = addresses }) long e

-- a byte of an inode is of no later file
inode_before : (g : Geometry) (i j : ℕ) (nodes : List Node) (files : List Addresses) (before after : List Bool) (p : ℕ) → IsGeometry g → i < j
    → length before ≡ g.size → ArePlaced g nodes files before after → InodeZone g i p → InFiles g j nodes files p → ⊥
inode_before g i j [] files before after p is low long placed here later = later
inode_before g i j (node ∷ nodes) [] before after p is low long placed here later = later
inode_before g i j (node ∷ nodes) (addresses ∷ files) before after p is low long placed here (inl (inl inode)) =
    let same = one_inode g i j p is here inode in omega arith
inode_before g i j (node ∷ nodes) (addresses ∷ files) before after p is low long placed here (inl (inr block)) =
    let first = first_placed g node before (placed.0) addresses long (placed.1) in
    let data_of = block_role g (length node.bytes) before (placed.0) addresses p first block in
    system_data (data_of.0) Inodes (role g (p / g.fsize)) here.is (data_of.1)
inode_before g i j (node ∷ nodes) (addresses ∷ files) before after p is low long placed here (inr later) =
    let first = first_placed g node before (placed.0) addresses long (placed.1) in
    inode_before g i (suc j) nodes files (placed.0) after p is (omega arith) first.long (placed.2) here later

-- a fragment that is marked and data is of no later file
marked_before : (g : Geometry) (j c : ℕ) (nodes : List Node) (files : List Addresses) (before after : List Bool) (p : ℕ) → length before ≡ g.size
    → ArePlaced g nodes files before after → is_data_of c (role g (p / g.fsize)) ≡ true → is_used before (p / g.fsize) ≡ true → InFiles g j nodes files p → ⊥
marked_before g j c [] files before after p long placed is used later = later
marked_before g j c (node ∷ nodes) [] before after p long placed is used later = later
marked_before g j c (node ∷ nodes) (addresses ∷ files) before after p long placed is used (inl (inl inode)) =
    system_data c Inodes (role g (p / g.fsize)) inode.is is
marked_before g j c (node ∷ nodes) (addresses ∷ files) before after p long placed is used (inl (inr block)) =
    let first = first_placed g node before (placed.0) addresses long (placed.1) in
    let has = block.has in
    let run = first.runs block.level block.index block.below has.some in
    both_ways (is_used before (p / g.fsize)) used (run.fresh (p / g.fsize) has.low has.high)
marked_before g j c (node ∷ nodes) (addresses ∷ files) before after p long placed is used (inr later) =
    let first = first_placed g node before (placed.0) addresses long (placed.1) in
    marked_before g (suc j) c nodes files (placed.0) after p first.long (placed.2) is (first.kept (p / g.fsize) used) later

inode_lies : (g : Geometry) (i : ℕ) (node : Node) (addresses : Addresses) → IsGeometry g → i < g.ncg * g.ipg → FitsInode node
    → Each (Lies (InodeZone g i)) (inode_parts g (inode_place g i) node addresses)
inode_lies g i node addresses is low fits =
    lies_weaker (Between (inode_place g i) (inode_place g i + 128)) (InodeZone g i) (λ p in_it. inode_zone g i p is low (in_it.0) (in_it.1))
    (inode_parts g (inode_place g i) node addresses)
    (ascend_lies (inode_place g i) (inode_parts g (inode_place g i) node addresses) (inode_place g i + 128) (inode_ascends g (inode_place g i) node addresses fits))

pub record FilesAreApart (g : Geometry) (i : ℕ) (nodes : List Node) (files : List Addresses) : Type 0 where
  pub apart : ApartAll (file_parts g i nodes files)
  pub lies : Each (Lies (InFiles g i nodes files)) (file_parts g i nodes files)

pub files_apart : (g : Geometry) (i : ℕ) (nodes : List Node) (files : List Addresses) (before after : List Bool) → IsGeometry g → length before ≡ g.size
    → i + length nodes ≤ g.ncg * g.ipg → Each FitsInode nodes → ArePlaced g nodes files before after → FilesAreApart g i nodes files
files_apart g i [] files before after is long few fits placed = record { apart = tt; lies = tt }
files_apart g i (node ∷ nodes) [] before after is long few fits placed = record { apart = tt; lies = tt }
files_apart g i (node ∷ nodes) (addresses ∷ files) before after is long few fits placed =
    let first = first_placed g node before (placed.0) addresses long (placed.1) in
    let rest = files_apart g (suc i) nodes files (placed.0) after is first.long (omega arith) (fits.1) (placed.2) in
    let blocks = blocks_apart g node before (placed.0) addresses (sizes g is) first in
    let own = inode_parts g (inode_place g i) node addresses in
    let inode = inode_lies g i node addresses is (omega arith) (fits.0) in
    let two = apart_zones (InodeZone g i) (InLevels g (length node.bytes) addresses 4) own (block_parts g node addresses)
    (ascend_apart (inode_place g i) own (inode_place g i + 128) (inode_ascends g (inode_place g i) node addresses (fits.0))) blocks.apart inode blocks.lies
    (λ p x y. let data_of = block_role g (length node.bytes) before (placed.0) addresses p first y in
    system_data (data_of.0) Inodes (role g (p / g.fsize)) x.is (data_of.1)) in
    let one_lies = each_append (Lies (λ p. InodeZone g i p ⊎ InLevels g (length node.bytes) addresses 4 p)) own (block_parts g node addresses)
    (lies_weaker (InodeZone g i) (λ p. InodeZone g i p ⊎ InLevels g (length node.bytes) addresses 4 p) (λ p x. inl x) own inode)
    (lies_weaker (InLevels g (length node.bytes) addresses 4) (λ p. InodeZone g i p ⊎ InLevels g (length node.bytes) addresses 4 p) (λ p x. inr x) (block_parts g node addresses) blocks.lies) in
    record {
      apart = apart_zones (λ p. InodeZone g i p ⊎ InLevels g (length node.bytes) addresses 4 p) (InFiles g (suc i) nodes files) (own ++ block_parts g node addresses)
          (file_parts g (suc i) nodes files) two rest.apart one_lies rest.lies
          (λ p x y. elim x as (λ _. ⊥) [
            | inl here ↦ inode_before g i (suc i) nodes files (placed.0) after p is (omega arith) first.long (placed.2) here y
            | inr block ↦
                let data_of = block_role g (length node.bytes) before (placed.0) addresses p first block in
                let has = block.has in
                let run = first.runs block.level block.index block.below has.some in
                marked_before g (suc i) (data_of.0) nodes files (placed.0) after p first.long (placed.2) (data_of.1) (run.used (p / g.fsize) has.low has.high) y
          ]);
      lies = each_append (Lies (InFiles g i (node ∷ nodes) (addresses ∷ files))) (own ++ block_parts g node addresses) (file_parts g (suc i) nodes files)
          (lies_weaker (λ p. InodeZone g i p ⊎ InLevels g (length node.bytes) addresses 4 p) (InFiles g i (node ∷ nodes) (addresses ∷ files)) (λ p x. inl x) (own ++ block_parts g node addresses) one_lies)
          (lies_weaker (InFiles g (suc i) nodes files) (InFiles g i (node ∷ nodes) (addresses ∷ files)) (λ p x. inr x) (file_parts g (suc i) nodes files) rest.lies);
    }

-- ---- ends

data_ends_by : (g : Geometry) (node : Node) (before used : List Bool) (addresses : Addresses) (n : ℕ) (none : Bool) → Sizes g
    → IsPlaced g (length node.bytes) before (record { used = used; addresses = addresses }) → (address_at addresses 0 n == 0) ≡ none
    → Each (EndsBy (g.size * g.fsize)) (if none then [] else record { at = address_at addresses 0 n * g.fsize; bytes = block_bytes g node.bytes n } ∷ [])
data_ends_by g node before used addresses n true size is e = tt
data_ends_by g node before used addresses n false size is e =
    let run = is.runs 0 n (omega arith) (not_zero (address_at addresses 0 n) e) in
    let room = block_room g node.bytes n size in
    let sum : (address_at addresses 0 n + fragments_of g (length node.bytes) n) * g.fsize ≡ address_at addresses 0 n * g.fsize + fragments_of g (length node.bytes) n * g.fsize =
    add-mul (address_at addresses 0 n) (fragments_of g (length node.bytes) n) g.fsize in
    let most : (address_at addresses 0 n + fragments_of g (length node.bytes) n) * g.fsize ≤ g.size * g.fsize = mul-le-mul_right g.fsize run.inside in
    (omega arith, tt)

indirect_ends_by : (g : Geometry) (size : ℕ) (before used : List Bool) (addresses : Addresses) (level index : ℕ) (none : Bool) → Sizes g → level < 4
    → g.frag ≡ count_of g size level index → IsPlaced g size before (record { used = used; addresses = addresses }) → (address_at addresses level index == 0) ≡ none
    → Each (EndsBy (g.size * g.fsize)) (if none then [] else flat_map (pointer_parts g addresses level index) (range_with_len 0 g.nindir))
indirect_ends_by g size before used addresses level index true sizes low count is e = tt
indirect_ends_by g size before used addresses level index false sizes low count is e =
    let run = is.runs level index low (not_zero (address_at addresses level index) e) in
    let bytes = sizes.bytes in
    let pointers = sizes.pointers in
    let inside : address_at addresses level index + g.frag ≤ g.size = rw count run.inside in
    let sum : (address_at addresses level index + g.frag) * g.fsize ≡ address_at addresses level index * g.fsize + g.frag * g.fsize = add-mul (address_at addresses level index) g.frag g.fsize in
    let most : (address_at addresses level index + g.frag) * g.fsize ≤ g.size * g.fsize = mul-le-mul_right g.fsize inside in
    ascend_ends (address_at addresses level index * g.fsize + 4 * 0) (flat_map (pointer_parts g addresses level index) (range_with_len 0 g.nindir))
    (address_at addresses level index * g.fsize + 4 * (0 + g.nindir)) (g.size * g.fsize) (omega arith) (pointers_ascend g addresses level index)

level_ends : (g : Geometry) (size : ℕ) (before used : List Bool) (addresses : Addresses) (level : ℕ) → Sizes g → level < 4 → ((index : ℕ) → g.frag ≡ count_of g size level index)
    → IsPlaced g size before (record { used = used; addresses = addresses }) → Each (EndsBy (g.size * g.fsize)) (level_parts g addresses level)
level_ends g size before used addresses level sizes low count is =
    each_flat (EndsBy (g.size * g.fsize)) (indirect_parts g addresses level) 0 (length (addresses_at addresses level))
    (λ n from to. indirect_ends_by g size before used addresses level n (address_at addresses level n == 0) sizes low (count n) is refl)

blocks_end : (g : Geometry) (node : Node) (before used : List Bool) (addresses : Addresses) → Sizes g
    → IsPlaced g (length node.bytes) before (record { used = used; addresses = addresses }) → Each (EndsBy (g.size * g.fsize)) (block_parts g node addresses)
unfolding block_parts
blocks_end g node before used addresses size is =
    each_append (EndsBy (g.size * g.fsize)) (flat_map (data_parts g node addresses) (range_with_len 0 (blocks_of g node)) ++ level_parts g addresses 1 ++ level_parts g addresses 2) (level_parts g addresses 3)
    (each_append (EndsBy (g.size * g.fsize)) (flat_map (data_parts g node addresses) (range_with_len 0 (blocks_of g node)) ++ level_parts g addresses 1) (level_parts g addresses 2)
    (each_append (EndsBy (g.size * g.fsize)) (flat_map (data_parts g node addresses) (range_with_len 0 (blocks_of g node))) (level_parts g addresses 1)
    (each_flat (EndsBy (g.size * g.fsize)) (data_parts g node addresses) 0 (blocks_of g node)
    (λ n from to. data_ends_by g node before used addresses n (address_at addresses 0 n == 0) size is refl))
    (level_ends g (length node.bytes) before used addresses 1 size (omega arith) (λ index. refl) is))
    (level_ends g (length node.bytes) before used addresses 2 size (omega arith) (λ index. refl) is))
    (level_ends g (length node.bytes) before used addresses 3 size (omega arith) (λ index. refl) is)

inode_end : (g : Geometry) (i : ℕ) → IsGeometry g → i < g.ncg * g.ipg → inode_place g i + 128 ≤ g.size * g.fsize
unfolding inode_place
inode_end g i is low =
    let fits = inode_fits g i is in
    let in_it = in_inodes g i is in
    let from = in_it.low in
    let group = in_group g (i / g.ipg) (inode_block g i) is (inode_group g i is low) (omega arith) in_it.high in
    let inside = group.inside in
    let next : (inode_block g i + 1) * g.fsize ≡ inode_block g i * g.fsize + g.fsize = grind arith in
    let most : (inode_block g i + 1) * g.fsize ≤ g.size * g.fsize = mul-le-mul_right g.fsize (let h : inode_block g i + 1 ≤ g.size = omega arith in h) in
    omega arith

files_end : (g : Geometry) (i : ℕ) (nodes : List Node) (files : List Addresses) (before after : List Bool) → IsGeometry g → length before ≡ g.size
    → i + length nodes ≤ g.ncg * g.ipg → Each FitsInode nodes → ArePlaced g nodes files before after → Each (EndsBy (g.size * g.fsize)) (file_parts g i nodes files)
files_end g i [] files before after is long few fits placed = tt
files_end g i (node ∷ nodes) [] before after is long few fits placed = tt
files_end g i (node ∷ nodes) (addresses ∷ files) before after is long few fits placed =
    let first = first_placed g node before (placed.0) addresses long (placed.1) in
    each_append (EndsBy (g.size * g.fsize)) (inode_parts g (inode_place g i) node addresses ++ block_parts g node addresses) (file_parts g (suc i) nodes files)
    (each_append (EndsBy (g.size * g.fsize)) (inode_parts g (inode_place g i) node addresses) (block_parts g node addresses)
    (ascend_ends (inode_place g i) (inode_parts g (inode_place g i) node addresses) (inode_place g i + 128) (g.size * g.fsize) (inode_end g i is (omega arith))
    (inode_ascends g (inode_place g i) node addresses (fits.0)))
    (blocks_end g node before (placed.0) addresses (sizes g is) first))
    (files_end g (suc i) nodes files (placed.0) after is first.long (omega arith) (fits.1) (placed.2))

-- ---- the whole volume

pub same_kind : (one other : SystemKind) → System one ≡ System other → one ≡ other
same_kind one other e = cc e

pub is_inodes : SystemKind → Bool
is_inodes Inodes = true
is_inodes kind = false

pub super_inodes : Super ≡ Inodes → ⊥
unfolding is_inodes
super_inodes e = false≢true (ap is_inodes e)

pub group_inodes : Group ≡ Inodes → ⊥
unfolding is_inodes
group_inodes e = false≢true (ap is_inodes e)

is_group : Role → Bool
is_group (System Group) = true
is_group r = false

super_group : System Super ≡ System Group → ⊥
unfolding is_group
super_group e = false≢true (ap is_group e)

not_group : (g : Geometry) (i : ℕ) (kind : SystemKind) (nodes : List Node) (files : List Addresses) (before after : List Bool) (p : ℕ) → length before ≡ g.size
    → ArePlaced g nodes files before after → (kind ≡ Inodes → ⊥) → role g (p / g.fsize) ≡ System kind → InFiles g i nodes files p → ⊥
not_group g i kind [] files before after p long placed differ e later = later
not_group g i kind (node ∷ nodes) [] before after p long placed differ e later = later
not_group g i kind (node ∷ nodes) (addresses ∷ files) before after p long placed differ e (inl (inl inode)) =
    differ (same_kind kind Inodes (sym e ∙ inode.is))
not_group g i kind (node ∷ nodes) (addresses ∷ files) before after p long placed differ e (inl (inr block)) =
    let first = first_placed g node before (placed.0) addresses long (placed.1) in
    let data_of = block_role g (length node.bytes) before (placed.0) addresses p first block in
    system_data (data_of.0) kind (role g (p / g.fsize)) e (data_of.1)
not_group g i kind (node ∷ nodes) (addresses ∷ files) before after p long placed differ e (inr later) =
    let first = first_placed g node before (placed.0) addresses long (placed.1) in
    not_group g (suc i) kind nodes files (placed.0) after p first.long (placed.2) differ e later

-- What is known of all that is put into a volume.
pub record AreVolume (g : Geometry) (nodes : List Node) (all : AllPlaced) : Type 0 where
  pub geometry : IsWhole g
  pub few : 2 + length nodes ≤ g.ncg * g.ipg
  pub fits : Each FitsInode nodes
  pub placed : ArePlaced g nodes all.files (replicate g.size false) all.used

pub record PartsAreApart (g : Geometry) (nodes : List Node) (all : AllPlaced) : Type 0 where
  pub apart : ApartAll (volume_parts g nodes all)
  pub ends : Each (EndsBy (g.size * g.fsize)) (volume_parts g nodes all)

pub parts_apart : (g : Geometry) (nodes : List Node) (all : AllPlaced) → AreVolume g nodes all → PartsAreApart g nodes all
unfolding volume_parts
parts_apart g nodes all is =
    let whole = is.geometry in
    let tests = whole.tests in
    let long : length (replicate g.size false) ≡ g.size = length-replicate g.size false in
    let supers = field_parts g.endian 8192 (superblock_fields g) in
    let groups = flat_map (group_parts g (length nodes + 2) all.used) (range_with_len 0 g.ncg) in
    let files = file_parts g 2 nodes all.files in
    let super_order = super_ascends g 8192 in
    let group_order = groups_ascend g (length nodes + 2) all.used whole in
    let super_lies = lies_weaker (Between (8192 + 8) (8192 + 1376)) (InSystem g (System Super))
    (λ p in_it. record { is = super_zone g p tests (let low = in_it.0 in omega arith) (in_it.1) }) supers (ascend_lies (8192 + 8) supers (8192 + 1376) super_order) in
    let group_lie = each_flat (Lies (InSystem g (System Group))) (group_parts g (length nodes + 2) all.used) 0 g.ncg
    (λ c from to. group_lies g (length nodes + 2) all.used c whole (omega arith)) in
    let file_facts = files_apart g 2 nodes all.files (replicate g.size false) all.used tests long is.few is.fits is.placed in
    let systems = apart_zones (InSystem g (System Super)) (InSystem g (System Group)) supers groups
    (ascend_apart (8192 + 8) supers (8192 + 1376) super_order)
    (ascend_apart (g.fpg * 0 * g.fsize) groups (g.fpg * (0 + g.ncg) * g.fsize) group_order) super_lies group_lie
    (λ p x y. super_group (sym x.is ∙ y.is)) in
    let inside = super_inside g tests in
    let super_room : g.sblkno * g.fsize ≤ g.size * g.fsize = mul-le-mul_right g.fsize inside in
    let super_end = tests.sblkno in
    let size = whole.size in
    let turn : g.fpg * (0 + g.ncg) ≡ g.size = grind arith in
    record {
      apart = apart_zones (λ p. InSystem g (System Super) p ⊎ InSystem g (System Group) p) (InFiles g 2 nodes all.files) (supers ++ groups) files systems file_facts.apart
          (each_append (Lies (λ p. InSystem g (System Super) p ⊎ InSystem g (System Group) p)) supers groups
          (lies_weaker (InSystem g (System Super)) (λ p. InSystem g (System Super) p ⊎ InSystem g (System Group) p) (λ p x. inl x) supers super_lies)
          (lies_weaker (InSystem g (System Group)) (λ p. InSystem g (System Super) p ⊎ InSystem g (System Group) p) (λ p x. inr x) groups group_lie))
          file_facts.lies
          (λ p x y. elim x as (λ _. ⊥) [
            | inl super ↦ not_group g 2 Super nodes all.files (replicate g.size false) all.used p long is.placed super_inodes super.is y
            | inr group ↦ not_group g 2 Group nodes all.files (replicate g.size false) all.used p long is.placed group_inodes group.is y
          ]);
      ends = each_append (EndsBy (g.size * g.fsize)) (supers ++ groups) files
          (each_append (EndsBy (g.size * g.fsize)) supers groups
          (ascend_ends (8192 + 8) supers (8192 + 1376) (g.size * g.fsize) (omega arith) super_order)
          (ascend_ends (g.fpg * 0 * g.fsize) groups (g.fpg * (0 + g.ncg) * g.fsize) (g.size * g.fsize)
          (subst (λ (n : ℕ). n * g.fsize ≤ g.size * g.fsize) (sym turn) (let r : g.size * g.fsize ≤ g.size * g.fsize = omega arith in r)) group_order))
          (files_end g 2 nodes all.files (replicate g.size false) all.used tests long is.few is.fits is.placed);
    }

-- each part stands in its place
pub volume_stands : (g : Geometry) (nodes : List Node) (all : AllPlaced) (part : Part) → AreVolume g nodes all → Has part (volume_parts g nodes all)
    → Stands (volume_bytes g nodes all) part.at part.bytes
unfolding volume_bytes
volume_stands g nodes all part is has =
    let facts = parts_apart g nodes all is in
    part_stands (volume_parts g nodes all) part (replicate (g.size * g.fsize) 0) (g.size * g.fsize) (length-replicate {A = ℕ} (g.size * g.fsize) 0) has facts.apart facts.ends

-- a byte of no part is zero
pub volume_zeros : (g : Geometry) (nodes : List Node) (all : AllPlaced) (p : ℕ) → Each (Misses p) (volume_parts g nodes all) → get_or (volume_bytes g nodes all) p 0 ≡ 0
unfolding volume_bytes
volume_zeros g nodes all p misses = parts_outside (volume_parts g nodes all) (replicate (g.size * g.fsize) 0) p misses ∙ get_none 0 (g.size * g.fsize) p

pub volume_size : (g : Geometry) (nodes : List Node) (all : AllPlaced) → length (volume_bytes g nodes all) ≡ g.size * g.fsize
unfolding volume_bytes
volume_size g nodes all = parts_length (volume_parts g nodes all) (replicate (g.size * g.fsize) 0) ∙ length-replicate {A = ℕ} (g.size * g.fsize) 0
