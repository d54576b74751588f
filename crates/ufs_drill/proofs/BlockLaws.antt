-- How many blocks of a drill's volume belong to an inode, and how many are kept.
use Rattle.std.proofs.Common.{◌≡◌, ◌∙◌, ◌⊎◌, ℕ, zero, suc, ◌+◌, ◌-◌, ◌*◌, ◌%◌, ◌<◌, ◌≤◌, Bool, true, false, cond, List, [], ◌∷◌, ◌++◌, length, map, get_or, inl, inr, refl, sym, ap, subst, arith, Some, None, length-append}
use Rattle.std.specs.Prelude.{Contains, IsOkAnd, MatchOption, Ok, Option, Result, if◌then◌else◌, nat_le, slice_get}
use Rattle.std.specs.Int.{div_ceil}
use Rattle.std.specs.List.{filter, range_with_len}
use Rattle.std.proofs.lemmas.Bool.{and_parts, cases_lt, false≢true, leb-true}
use Rattle.std.proofs.lemmas.Bool.Decides.{nat_tests}
use Rattle.std.proofs.lemmas.Grind.{div_ceil_times}
use Rattle.std.proofs.lemmas.List.Elements.{Contains-append_left, Contains-append_right}
use Rattle.std.proofs.lemmas.Option.{same_Some, slice_get-get_or}
use Rattle.dg_model.specs.Volumes.{IsRegularFile, IsSystemBlock}
use Rattle.dg_model.specs.Wants.{IsOf, IsWant}
use Rattle.dg_model.specs.declared.wants.Want.TheVariants.{File, Kept}
use Rattle.ufs_build.specs.Builds.{built}
use Rattle.ufs_build.specs.Directories.{directory_bytes}
use Rattle.ufs_build.specs.Nodes.{Node, node_of}
use Rattle.ufs_build.specs.Placements.{Addresses, blocks_of}
use Rattle.ufs_build.specs.Volumes.{geometry_of_spec}
use Rattle.ufs_build.specs.declared.items.Item.{Item}
use Rattle.ufs_build.specs.declared.volumes.Spec.{Spec}
use Rattle.ufs_drill.proofs.LoadLaws.{HaveChunks, all_short, ceil_low, few_hits}
use Rattle.ufs_drill.proofs.MadeLaws.{item_count}
use Rattle.ufs_drill.proofs.PathLaws.{bytes_length, directory_get, files_to, parent_list, parents_are, size_most}
use Rattle.ufs_drill.proofs.SpecRows.{drill_geometry}
use Rattle.ufs_drill.proofs.SystemRows.{count_from, is_own, own_counts}
use Rattle.ufs_drill.specs.Items.{directory_item, drill_items, file_item, size_of}
use Rattle.ufs_drill.specs.Volumes.{drill_spec}
use Rattle.ufs_image_laws.specs.Built.{IsBuilt, blocks_in, nodes_in, root_of}
use Rattle.ufs_image_laws.specs.Inodes.{IsInodeOf}
use Rattle.ufs_image_laws.specs.Owners.{AreAtMost, IsOwned, all_blocks}
use Rattle.ufs_model.specs.Blocks.{Volume}
use Rattle.ufs_model.specs.Claims.{IsClaim, source_fragments, source_fragments_in, volume_fragments}
use Rattle.ufs_model.specs.Inodes.{inode_of, is_inode_number, kind_of}
use Rattle.ufs_model.specs.Malformations.{IsInode}
use Rattle.ufs_model.specs.Numbers.{all_below}
use Rattle.ufs_model.specs.Owners.{IsOwner}
use Rattle.ufs_model.specs.Roles.{is_system, role}
use Rattle.ufs_model.specs.Superblocks.{geometry_of}
use Rattle.ufs_model.specs.declared.geometries.BadSuper.{BadSuper}
use Rattle.ufs_model.specs.declared.geometries.Geometry.{Geometry}
use Rattle.ufs_model.specs.declared.inodes.Inode.{Inode}
use Rattle.ufs_model.specs.declared.inodes.Kind.TheVariants.{Regular}
use Rattle.ufs_model.specs.declared.roles.Role.{Role}
use Rattle.ufs_model.specs.declared.roles.Role.TheVariants.{Outside}

-- ---- the laws of built volumes that are used

pub record Laws : Type 0 where
  pub chunks : HaveChunks
  pub made : (spec : Spec) (items : List Item) (image : List ℕ) → built spec items ≡ Ok image → IsBuilt spec items image
  pub geometry : (spec : Spec) (items : List Item) (image : List ℕ) (is : IsBuilt spec items image) → 8192 % spec.l ≡ 0
      → (geometry_of spec.l is.g.size (blocks_in spec.l is.g.size image)).value ≡ Ok is.g
  pub owner : (spec : Spec) (items : List Item) (image : List ℕ) (is : IsBuilt spec items image) (i f : ℕ)
      → IsOwned is.g (blocks_in is.g.fsize is.g.size image) i f → (k : ℕ) × (i ≡ 2 + k) × (k < length (nodes_in is))
  pub few : (spec : Spec) (items : List Item) (image : List ℕ) (is : IsBuilt spec items image) (k : ℕ) (node : Node) → slice_get (nodes_in is) k ≡ Some node
      → AreAtMost (IsOwned is.g (blocks_in is.g.fsize is.g.size image) (2 + k)) (is.g.frag * all_blocks is.g (blocks_of is.g node))
  pub root : (spec : Spec) (items : List Item) (image : List ℕ) (is : IsBuilt spec items image) → slice_get (nodes_in is) 0 ≡ Some (root_of is.g.endian items is.parents)
  pub item : (spec : Spec) (items : List Item) (image : List ℕ) (is : IsBuilt spec items image) (k : ℕ) (item : Item) (parent : ℕ)
      → slice_get items k ≡ Some item → slice_get is.parents k ≡ Some parent
      → slice_get (nodes_in is) (k + 1) ≡ Some (node_of item (directory_bytes is.g.endian items is.parents (k + 3) parent))
  pub parents : (spec : Spec) (items : List Item) (image : List ℕ) (is : IsBuilt spec items image) → length is.parents ≡ length items
  pub count : (spec : Spec) (items : List Item) (image : List ℕ) (is : IsBuilt spec items image) → length (nodes_in is) ≡ length items + 1
  pub addresses : (spec : Spec) (items : List Item) (image : List ℕ) (is : IsBuilt spec items image) → length is.all.files ≡ length (nodes_in is)
  pub inodes : (spec : Spec) (items : List Item) (image : List ℕ) (is : IsBuilt spec items image) (k : ℕ) (node : Node) (addresses : Addresses)
      → slice_get (nodes_in is) k ≡ Some node → slice_get is.all.files k ≡ Some addresses
      → IsInodeOf node addresses (inode_of is.g (2 + k) (blocks_in is.g.fsize is.g.size image)).value

-- ---- the numbers of the volume

record HasNumbers (g : Geometry) : Type 0 where
  bsize : g.bsize ≡ 8192
  fsize : g.fsize ≡ 1024
  nindir : g.nindir ≡ 2048
  frag : g.frag ≡ 8
  size : g.size ≡ 32768
  inodes : g.ncg * g.ipg ≡ 4096
  is : g ≡ geometry_of_spec drill_spec

numbers_are : HasNumbers (geometry_of_spec drill_spec)
unfolding geometry_of_spec
numbers_are = record { bsize = refl; fsize = refl; nindir = refl; frag = refl; size = refl; inodes = refl; is = refl }

built_numbers : (items : List Item) (image : List ℕ) (is : IsBuilt drill_spec items image) → HasNumbers is.g
built_numbers items image is = subst HasNumbers (same_Some (geometry_of_spec drill_spec) is.g (sym drill_geometry ∙ is.geometry)) numbers_are

-- ---- how many blocks a file has

blocks_few : (g : Geometry) (node : Node) (most : ℕ) → g.bsize ≡ 8192 → length node.bytes ≤ 8192 * most → blocks_of g node ≤ most
unfolding blocks_of
blocks_few g node most bsize low = by_inside node.inside
  where
    by_inside : (inside : Bool) → (if inside then 0 else div_ceil (length node.bytes) g.bsize) ≤ most
    by_inside true = omega arith
    by_inside false = subst (λ (b : ℕ). div_ceil (length node.bytes) b ≤ most) (sym bsize) (ceil_low (length node.bytes) most low)

all_few : (g : Geometry) (blocks most : ℕ) → g.nindir ≡ 2048 → blocks ≤ most → most ≤ 2000 → all_blocks g blocks ≤ most + 1
all_few g blocks most nindir low short =
    let direct : blocks + div_ceil (blocks - 12) 2048 + div_ceil (blocks - (12 + 2048)) (2048 * 2048) + div_ceil (blocks - (12 + 2048 + 2048 * 2048)) (2048 * 2048 * 2048) ≤ most + 1 =
    let one = (div_ceil_times (blocks - 12) 2048 (omega arith)).1 in
    let two = (div_ceil_times (blocks - (12 + 2048)) (2048 * 2048) (omega arith)).1 in
    let three = (div_ceil_times (blocks - (12 + 2048 + 2048 * 2048)) (2048 * 2048 * 2048) (omega arith)).1 in
    omega (arith, one, two, three, low, short) in
    subst (λ (w : ℕ). blocks + div_ceil (blocks - 12) w + div_ceil (blocks - (12 + w)) (w * w) + div_ceil (blocks - (12 + w + w * w)) (w * w * w) ≤ most + 1) (sym nindir) direct

at_most_more : (P : ℕ → Type 0) (few more : ℕ) → few ≤ more → AreAtMost P few → AreAtMost P more
at_most_more P few more low is = record { numbers = is.numbers; each = is.each; few = let h = is.few in omega (arith, h, low) }

at_most_as : (P Q : ℕ → Type 0) (few : ℕ) → ((n : ℕ) → Q n → P n) → AreAtMost P few → AreAtMost Q few
at_most_as P Q few turn is = record { numbers = is.numbers; each = λ n such. is.each n (turn n such); few = is.few }

at_most_none : (P : ℕ → Type 0) (few : ℕ) → ((n : ℕ) → P n → ⊥) → AreAtMost P few
at_most_none P few none = record { numbers = []; each = λ n such. absurd (none n such); few = omega arith }

at_most_both : (P Q R : ℕ → Type 0) (few other : ℕ) → ((n : ℕ) → R n → P n ⊎ Q n) → AreAtMost P few → AreAtMost Q other → AreAtMost R (few + other)
at_most_both P Q R few other either one two = record {
  numbers = one.numbers ++ two.numbers;
  each = λ n such. elim (either n such) as (λ _. Contains (one.numbers ++ two.numbers) n) [
    | inl first ↦ Contains-append_left one.numbers two.numbers n (one.each n first)
    | inr second ↦ Contains-append_right one.numbers two.numbers n (two.each n second)
  ];
  few = let long = length-append one.numbers two.numbers in let a = one.few in let b = two.few in omega (arith, long, a, b);
}

-- ---- the file system's own blocks

filtered : (f : ℕ → Bool) (a n : ℕ) → length (filter f (range_with_len a n)) ≡ count_from f a n
filtered f a zero = refl
filtered f a (suc n) = let next : a + 1 ≡ suc a = omega arith in by_first (f a) refl (subst (λ (m : ℕ). length (filter f (range_with_len m n)) ≡ count_from f (suc a) n) (sym next) (filtered f (suc a) n))
  where
    by_first : (here : Bool) → f a ≡ here → length (filter f (range_with_len (a + 1) n)) ≡ count_from f (suc a) n
        → length (cond here (a ∷ filter f (range_with_len (a + 1) n)) (filter f (range_with_len (a + 1) n))) ≡ cond here 1 0 + count_from f (suc a) n
    by_first true is rest = omega (arith, rest)
    by_first false is rest = omega (arith, rest)

filter_has : (f : ℕ → Bool) (a n b : ℕ) → f b ≡ true → a ≤ b → b < a + n → Contains (filter f (range_with_len a n)) b
filter_has f a zero b is low high = absurd (omega (arith, low, high))
filter_has f a (suc n) b is low high = by_first (f a) refl (λ above. filter_has f (a + 1) n b is above (omega (arith, high)))
  where
    by_first : (here : Bool) → f a ≡ here → (a + 1 ≤ b → Contains (filter f (range_with_len (a + 1) n)) b)
        → Contains (cond here (a ∷ filter f (range_with_len (a + 1) n)) (filter f (range_with_len (a + 1) n))) b
    by_first true e rest = elim (cases_lt a b) as (λ _. Contains (a ∷ filter f (range_with_len (a + 1) n)) b) [
      | inl above ↦ Contains-append_right (a ∷ []) (filter f (range_with_len (a + 1) n)) b (rest (omega (arith, above)))
      | inr here ↦ Contains-append_left (a ∷ []) (filter f (range_with_len (a + 1) n)) b (0, (let z : 0 < 1 = omega arith in z), (let same : a ≡ b = omega (arith, here, low) in same))
    ]
    by_first false e rest = elim (cases_lt a b) as (λ _. Contains (filter f (range_with_len (a + 1) n)) b) [
      | inl above ↦ rest (omega (arith, above))
      | inr here ↦ let same : a ≡ b = omega (arith, here, low) in absurd (false≢true (sym e ∙ ap f same ∙ is))
    ]

at_most_counted : (f : ℕ → Bool) (n most : ℕ) → ((b : ℕ) → f b ≡ true → b < n) → count_from f 0 n ≤ most → AreAtMost (λ b. f b ≡ true) most
at_most_counted f n most inside few = record {
  numbers = filter f (range_with_len 0 n);
  each = λ b is. filter_has f 0 n b is (omega arith) (let low = inside b is in omega (arith, low));
  few = let e = filtered f 0 n in omega (arith, e, few);
}

count_both : (f : ℕ → Bool) (a m n : ℕ) → count_from f a (m + n) ≡ count_from f a m + count_from f (a + m) n
count_both f a zero n =
    let e : a + 0 ≡ a = omega arith in
    let rest : count_from f (a + 0) n ≡ count_from f a n = ap (λ (b : ℕ). count_from f b n) e in
    let all : count_from f a (0 + n) ≡ count_from f a n = ap (λ (k : ℕ). count_from f a k) (let z : 0 + n ≡ n = omega arith in z) in
    omega (arith, rest, all)
count_both f a (suc m) n =
    let all : count_from f a (suc m + n) ≡ cond (f a) 1 0 + count_from f (suc a) (m + n) = ap (λ (k : ℕ). count_from f a k) (let z : suc m + n ≡ suc (m + n) = omega arith in z) in
    let rest = count_both f (suc a) m n in
    let place : suc a + m ≡ a + suc m = omega arith in
    let later : count_from f (suc a + m) n ≡ count_from f (a + suc m) n = ap (λ (b : ℕ). count_from f b n) place in
    omega (arith, all, rest, later)

-- parts of the same size
count_parts : (f : ℕ → Bool) (size most k : ℕ) → ((c : ℕ) → c < k → count_from f (size * c) size ≤ most) → count_from f 0 (size * k) ≤ most * k
count_parts f size most zero each = let none : size * 0 ≡ 0 = grind arith in subst (λ (n : ℕ). count_from f 0 n ≤ most * 0) (sym none) (omega arith)
count_parts f size most (suc k) each =
    let all : size * suc k ≡ size * k + size = grind arith in
    let split = count_both f 0 (size * k) size in
    let rest = count_parts f size most k (λ c low. each c (omega (arith, low))) in
    let last = each k (omega arith) in
    let first : 0 + size * k ≡ size * k = omega arith in
    let place : count_from f (0 + size * k) size ≡ count_from f (size * k) size = ap (λ (b : ℕ). count_from f b size) first in
    let product : most * suc k ≡ most * k + most = grind arith in
    subst (λ (n : ℕ). count_from f 0 n ≤ most * suc k) (sym all) (omega (arith, split, place, rest, last, product))

below_at : (test : ℕ → Bool) (n : ℕ) → all_below test n ≡ true → (i : ℕ) → i < n → test i ≡ true
below_at test zero all i low = absurd (omega (arith, low))
below_at test (suc n) all i low =
    let parts = and_parts (all_below test n) (test n) all in
    elim (cases_lt i n) as (λ _. test i ≡ true) [
      | inl less ↦ below_at test n parts.0 i less
      | inr more ↦ let e : n ≡ i = omega (arith, low, more) in subst (λ (k : ℕ). test k ≡ true) e parts.1
    ]

system_inside : (g : Geometry) (b : ℕ) → is_system (role g b) ≡ true → b < g.size
unfolding role
system_inside g b is = by_past (nat_le g.size b) _ refl is
  where
    by_past : (past : Bool) (rest : Role) → nat_le g.size b ≡ past → is_system (if past then Outside else rest) ≡ true → b < g.size
    by_past true rest e h = absurd (false≢true h)
    by_past false rest e h = grind (arith, nat_tests)

own_few : AreAtMost (λ b. is_own b ≡ true) 1280
own_few =
    at_most_counted is_own (2048 * 16) 1280 (λ b is. let low = system_inside (geometry_of_spec drill_spec) b is in let size = numbers_are.size in omega (arith, low, size))
    (count_parts is_own 2048 80 16 (λ c low. leb-true (count_from is_own (2048 * c) 2048) 80 (below_at (λ c. nat_le (count_from is_own (2048 * c) 2048) 80) 16 own_counts c low)))

-- ---- the files

files_get : (seed from n j : ℕ) → j < n → slice_get (map (file_item seed) (range_with_len from n)) j ≡ Some (file_item seed (from + j))
files_get seed from zero j low = absurd (omega arith)
files_get seed from (suc n) zero low = ap (λ (k : ℕ). Some (file_item seed k)) (let e : from ≡ from + 0 = omega arith in e)
files_get seed from (suc n) (suc j) low =
    files_get seed (from + 1) n j (omega (arith, low)) ∙ ap (λ (k : ℕ). Some (file_item seed k)) (let e : from + 1 + j ≡ from + suc j = omega arith in e)

file_get : (seed files j : ℕ) → j < files → slice_get (drill_items seed files) (suc (suc (suc (suc (suc (suc (suc (suc (suc (suc j)))))))))) ≡ Some (file_item seed j)
file_get seed files j low = files_get seed 0 files j low ∙ ap (λ (k : ℕ). Some (file_item seed k)) (let e : 0 + j ≡ j = omega arith in e)

item_get : (seed files k : ℕ) → 10 ≤ k → k < 10 + files → slice_get (drill_items seed files) k ≡ Some (file_item seed (k - 10))
item_get seed files k high low =
    subst (λ (n : ℕ). slice_get (drill_items seed files) n ≡ Some (file_item seed (k - 10))) (let e : suc (suc (suc (suc (suc (suc (suc (suc (suc (suc (k - 10)))))))))) ≡ k = omega (arith, high) in e)
    (file_get seed files (k - 10) (omega (arith, high, low)))

-- file k is a directory, or a regular file
record IsSmall (k : ℕ) (node : Node) : Type 0 where
  short : length node.bytes ≤ 8192 * 26
  directory : k < 11 → length node.bytes ≤ 8192 * 14
  regular : 11 ≤ k → node.mode ≡ 0x81a4

module _ (laws : Laws) (seed files : ℕ) (few : files ≤ 2000) (image : List ℕ) (is : IsBuilt drill_spec (drill_items seed files) image) where
  parents_ok : parent_list files ≡ is.parents
  parents_ok = let e = sym (parents_are seed files (omega (arith, few))) ∙ is.stand in same_ok (parent_list files) is.parents e
    where
      same_ok : (a b : List ℕ) → ◌≡◌ {A = Result (List ℕ) ℕ} (Ok a) (Ok b) → a ≡ b
      same_ok a b e = cc e

  directory_small : (directory up : ℕ) → length (directory_bytes is.g.endian (drill_items seed files) is.parents directory up) ≤ 512 * 213
  directory_small directory up =
      let size = laws.chunks is.g.endian (drill_items seed files) (parent_list files) directory up (all_short seed files) in
      let most = few_hits directory files few in
      subst (λ (ps : List ℕ). length (directory_bytes is.g.endian (drill_items seed files) ps directory up) ≤ 512 * 213) parents_ok (omega (arith, size, most))

  item_small : (k : ℕ) → k < length (drill_items seed files) → (node : Node) × (slice_get (nodes_in is) (k + 1) ≡ Some node) × IsSmall (k + 1) node
  item_small k low =
      let count = item_count seed files in
      let above = laws.parents drill_spec (drill_items seed files) image is in
      let parent = get_or is.parents k 0 in
      let parent_is : slice_get is.parents k ≡ Some (get_or is.parents k 0) = slice_get-get_or is.parents k 0 (omega (arith, low, above)) in
      let bytes = directory_bytes is.g.endian (drill_items seed files) is.parents (k + 3) (get_or is.parents k 0) in
      let small = directory_small (k + 3) (get_or is.parents k 0) in
      elim (cases_lt k 10) as (λ _. (node : Node) × (slice_get (nodes_in is) (k + 1) ≡ Some node) × IsSmall (k + 1) node) [
        | inl first ↦ (
          node_of (directory_item k) (directory_bytes is.g.endian (drill_items seed files) is.parents (k + 3) (get_or is.parents k 0)),
          laws.item drill_spec (drill_items seed files) image is k (directory_item k) (get_or is.parents k 0) (directory_get k (files_to seed files) first) parent_is,
          record { short = omega (arith, small); directory = λ _. omega (arith, small); regular = λ high. absurd (omega (arith, high, first)) },
        )
        | inr later ↦
            let long = bytes_length (k - 10) (size_of seed (k - 10)) in
            let most = size_most seed (k - 10) in (
              node_of (file_item seed (k - 10)) (directory_bytes is.g.endian (drill_items seed files) is.parents (k + 3) (get_or is.parents k 0)),
              laws.item drill_spec (drill_items seed files) image is k (file_item seed (k - 10)) (get_or is.parents k 0) (item_get seed files k later (omega (arith, low, count))) parent_is,
              record { short = omega (arith, long, most); directory = λ near. absurd (omega (arith, near, later)); regular = λ _. refl },
            )
      ]

  node_small : (k : ℕ) → k < length (nodes_in is) → (node : Node) × (slice_get (nodes_in is) k ≡ Some node) × IsSmall k node
  node_small zero low =
      let small = directory_small 2 2 in (
        root_of is.g.endian (drill_items seed files) is.parents,
        laws.root drill_spec (drill_items seed files) image is,
        record { short = omega (arith, small); directory = λ _. omega (arith, small); regular = λ high. absurd (omega (arith, high)) },
      )
  node_small (suc k) low =
      let count = laws.count drill_spec (drill_items seed files) image is in
      subst (λ (n : ℕ). (node : Node) × (slice_get (nodes_in is) n ≡ Some node) × IsSmall n node) (let e : k + 1 ≡ suc k = omega arith in e) (item_small k (omega (arith, low, count)))

  numbers : HasNumbers is.g
  numbers = built_numbers (drill_items seed files) image is

  -- the volume, by the numbers of its blocks
  abbrev v : Volume
  v = blocks_in 1024 32768 image

  v_is : blocks_in is.g.fsize is.g.size image ≡ blocks_in 1024 32768 image
  v_is = ap (λ (l : ℕ). blocks_in l is.g.size image) numbers.fsize ∙ ap (λ (n : ℕ). blocks_in 1024 n image) numbers.size

  geometry_is : (geometry_of 1024 32768 (blocks_in 1024 32768 image)).value ≡ Ok is.g
  geometry_is = subst (λ (n : ℕ). (geometry_of 1024 n (blocks_in 1024 n image)).value ≡ Ok is.g) numbers.size (laws.geometry drill_spec (drill_items seed files) image is refl)

  owned : (i b : ℕ) → IsOf 1024 32768 (blocks_in 1024 32768 image) b i → IsOwned is.g (blocks_in is.g.fsize is.g.size image) i b
  unfolding volume_fragments
  owned i b of_inode = (
    of_inode.0,
    subst (λ (w : Volume). IsOwner (IsClaim (source_fragments is.g w)) b i of_inode.0) (sym v_is)
        (subst (λ (found : Result Geometry BadSuper). IsOwner (IsClaim (source_fragments_in (blocks_in 1024 32768 image) found)) b i of_inode.0) geometry_is of_inode.1),
  )

  -- the blocks of file k
  file_few : (k most : ℕ) (node : Node) → slice_get (nodes_in is) k ≡ Some node → most ≤ 2000 → length node.bytes ≤ 8192 * most
      → AreAtMost (λ b. IsOf 1024 32768 (blocks_in 1024 32768 image) b (2 + k)) (8 * (most + 1))
  file_few k most node e short low =
      let blocks = blocks_few is.g node most numbers.bsize low in
      let all = all_few is.g (blocks_of is.g node) most numbers.nindir blocks short in
      let less : is.g.frag * all_blocks is.g (blocks_of is.g node) ≤ 8 * (most + 1) =
      subst (λ (f : ℕ). f * all_blocks is.g (blocks_of is.g node) ≤ 8 * (most + 1)) (sym numbers.frag) (omega (arith, all)) in
      at_most_more (λ b. IsOf 1024 32768 (blocks_in 1024 32768 image) b (2 + k)) (is.g.frag * all_blocks is.g (blocks_of is.g node)) (8 * (most + 1)) less
      (at_most_as (IsOwned is.g (blocks_in is.g.fsize is.g.size image) (2 + k)) (λ b. IsOf 1024 32768 (blocks_in 1024 32768 image) b (2 + k)) (is.g.frag * all_blocks is.g (blocks_of is.g node))
      (λ b of_inode. owned (2 + k) b of_inode) (laws.few drill_spec (drill_items seed files) image is k node e))

  owner_of : (i b : ℕ) → IsOf 1024 32768 (blocks_in 1024 32768 image) b i → (k : ℕ) × (i ≡ 2 + k) × (k < length (nodes_in is))
  owner_of i b of_inode = laws.owner drill_spec (drill_items seed files) image is i b (owned i b of_inode)

  pub few_files : (i : ℕ) → AreAtMost (λ b. IsWant 1024 32768 (blocks_in 1024 32768 image) b (File i)) 216
  few_files i =
      elim (cases_lt (i - 2) (length (nodes_in is))) as (λ _. AreAtMost (λ b. IsWant 1024 32768 (blocks_in 1024 32768 image) b (File i)) 216) [
        | inr past ↦ at_most_none (λ b. IsWant 1024 32768 (blocks_in 1024 32768 image) b (File i)) 216
            (λ b want. let own = owner_of i b want.0 in let e = own.1 in let low = own.2 in omega (arith, past, e, low))
        | inl inside ↦ elim (cases_lt i 2) as (λ _. AreAtMost (λ b. IsWant 1024 32768 (blocks_in 1024 32768 image) b (File i)) 216) [
          | inl first ↦ at_most_none (λ b. IsWant 1024 32768 (blocks_in 1024 32768 image) b (File i)) 216
              (λ b want. let own = owner_of i b want.0 in let e = own.1 in omega (arith, first, e))
          | inr later ↦
              let found = node_small (i - 2) inside in
              let small = found.2 in
              let number : 2 + (i - 2) ≡ i = omega (arith, later) in
              at_most_as (λ b. IsOf 1024 32768 (blocks_in 1024 32768 image) b i) (λ b. IsWant 1024 32768 (blocks_in 1024 32768 image) b (File i)) 216 (λ b want. want.0)
              (subst (λ (n : ℕ). AreAtMost (λ b. IsOf 1024 32768 (blocks_in 1024 32768 image) b n) 216) number (file_few (i - 2) 26 found.0 found.1 (omega arith) small.short))
        ]
      ]

  -- ---- kept blocks

  -- the blocks of the first n files, which are directories
  directories_few : (n : ℕ) → n ≤ 11 → AreAtMost (λ b. (k : ℕ) × (k < n) × IsOf 1024 32768 (blocks_in 1024 32768 image) b (2 + k)) (120 * n)
  directories_few zero low = at_most_none (λ b. (k : ℕ) × (k < 0) × IsOf 1024 32768 (blocks_in 1024 32768 image) b (2 + k)) (120 * 0) (λ b such. let none = such.1 in omega (arith, none))
  directories_few (suc n) low =
      let count = laws.count drill_spec (drill_items seed files) image is in
      let items = item_count seed files in
      let found = node_small n (omega (arith, low, count, items)) in
      let small = found.2 in
      at_most_more (λ b. (k : ℕ) × (k < suc n) × IsOf 1024 32768 (blocks_in 1024 32768 image) b (2 + k)) (120 * n + 120) (120 * suc n) (omega arith)
      (at_most_both (λ b. (k : ℕ) × (k < n) × IsOf 1024 32768 (blocks_in 1024 32768 image) b (2 + k)) (λ b. IsOf 1024 32768 (blocks_in 1024 32768 image) b (2 + n))
      (λ b. (k : ℕ) × (k < suc n) × IsOf 1024 32768 (blocks_in 1024 32768 image) b (2 + k)) (120 * n) 120
      (λ b such. elim (cases_lt such.0 n) as (λ _. ((k : ℕ) × (k < n) × IsOf 1024 32768 (blocks_in 1024 32768 image) b (2 + k)) ⊎ IsOf 1024 32768 (blocks_in 1024 32768 image) b (2 + n)) [
        | inl less ↦ inl (such.0, less, such.2)
        | inr more ↦ let last = such.1 in let same : such.0 ≡ n = omega (arith, more, last) in inr (subst (λ (k : ℕ). IsOf 1024 32768 (blocks_in 1024 32768 image) b (2 + k)) same such.2)
      ])
      (directories_few n (omega (arith, low))) (file_few n 14 found.0 found.1 (omega arith) (small.directory (omega (arith, low)))))

  -- each other file is a regular one
  regular : (k : ℕ) → 11 ≤ k → k < length (nodes_in is) → IsRegularFile 1024 32768 (blocks_in 1024 32768 image) (2 + k)
  unfolding kind_of
  regular k high low =
      let found = node_small k low in
      let small = found.2 in
      let count = laws.count drill_spec (drill_items seed files) image is in
      let items = item_count seed files in
      let long = laws.addresses drill_spec (drill_items seed files) image is in
      let none : Addresses = record { data_blocks = []; ones = []; twos = []; threes = [] } in
      let inode = laws.inodes drill_spec (drill_items seed files) image is k found.0 (get_or is.all.files k none) found.1 (slice_get-get_or is.all.files k none (omega (arith, long, low))) in
      let mode : inode.inode.mode ≡ 0x81a4 = inode.mode ∙ small.regular high in
      let kind : kind_of inode.inode.mode ≡ Regular = ap kind_of mode ∙ kind_is in
      let inodes = numbers.inodes in
      let test : is_inode_number is.g (2 + k) ≡ true = let h : 2 + k < is.g.ncg * is.g.ipg = omega (arith, low, count, items, inodes, few) in grind (arith, nat_tests) in
      let there : (if is_inode_number is.g (2 + k) then (inode_of is.g (2 + k) (blocks_in 1024 32768 image)).value else None) ≡ Some inode.inode =
      ap (λ (b : Bool). if b then (inode_of is.g (2 + k) (blocks_in 1024 32768 image)).value else None) test
      ∙ subst (λ (w : Volume). (inode_of is.g (2 + k) w).value ≡ Some inode.inode) v_is inode.is in
      subst (λ (found : Result Geometry BadSuper). IsOkAnd found (λ g. IsInode g (blocks_in 1024 32768 image) (2 + k) (λ inode. kind_of inode.mode ≡ Regular))) (sym geometry_is)
      (subst (λ (o : Option Inode). MatchOption o ⊥ (λ inode. kind_of inode.mode ≡ Regular)) (sym there) kind)
    where
      kind_is : kind_of 0x81a4 ≡ Regular
      kind_is = refl

  -- ---- the file system's own blocks

  system_few : AreAtMost (IsSystemBlock 1024 32768 (blocks_in 1024 32768 image)) 1280
  system_few =
      at_most_as (λ b. is_own b ≡ true) (IsSystemBlock 1024 32768 (blocks_in 1024 32768 image)) 1280 (λ b such.
      let here : is_system (role is.g b) ≡ true = subst (λ (found : Result Geometry BadSuper). IsOkAnd found (λ g. is_system (role g b) ≡ true)) geometry_is such in
      ap (λ (g : Geometry). is_system (role g b)) (sym numbers.is) ∙ here)
      own_few

  pub few_kept : AreAtMost (λ b. IsWant 1024 32768 (blocks_in 1024 32768 image) b Kept) 2600
  few_kept =
      at_most_both (IsSystemBlock 1024 32768 (blocks_in 1024 32768 image)) (λ b. (k : ℕ) × (k < 11) × IsOf 1024 32768 (blocks_in 1024 32768 image) b (2 + k))
      (λ b. IsWant 1024 32768 (blocks_in 1024 32768 image) b Kept) 1280 1320
      (λ b want. elim want as (λ _. IsSystemBlock 1024 32768 (blocks_in 1024 32768 image) b ⊎ ((k : ℕ) × (k < 11) × IsOf 1024 32768 (blocks_in 1024 32768 image) b (2 + k))) [
        | inl own ↦ inl own
        | inr other ↦
            let owner = owner_of other.0 b other.1 in
            let of_file = subst (λ (i : ℕ). IsOf 1024 32768 (blocks_in 1024 32768 image) b i) owner.1 other.1 in
            elim (cases_lt owner.0 11) as (λ _. IsSystemBlock 1024 32768 (blocks_in 1024 32768 image) b ⊎ ((k : ℕ) × (k < 11) × IsOf 1024 32768 (blocks_in 1024 32768 image) b (2 + k))) [
              | inl first ↦ inr (owner.0, first, of_file)
              | inr later ↦ absurd (other.2 (subst (λ (i : ℕ). IsRegularFile 1024 32768 (blocks_in 1024 32768 image) i) (sym owner.1) (regular owner.0 later owner.2)))
            ]
      ])
      system_few (directories_few 11 (omega arith))
