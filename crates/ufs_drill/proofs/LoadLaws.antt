-- How many halves of file blocks the files of a drill take.
use Rattle.std.proofs.Common.{◌≡◌, ◌∙◌, ◌⊎◌, ℕ, zero, suc, ◌+◌, ◌-◌, ◌*◌, ◌%◌, ◌<◌, ◌≤◌, ◌==◌, Bool, true, false, List, [], ◌∷◌, ◌++◌, length, map, inl, inr, refl, sym, ap, subst, arith}
use Rattle.std.specs.Prelude.{All, ◌||◌, if◌then◌else◌, nat_le, nat_lt}
use Rattle.std.specs.Int.{div_ceil}
use Rattle.std.specs.List.{list_any, range_with_len}
use Rattle.std.proofs.lemmas.Bool.{cases_lt, false≢true}
use Rattle.std.proofs.lemmas.Bool.Decides.{nat_tests}
use Rattle.std.proofs.lemmas.Grind.{div_ceil_times}
use Rattle.std.proofs.lemmas.List.{map_push}
use Rattle.ufs_model.specs.declared.geometries.Geometry.{Geometry}
use Rattle.ufs_model.specs.declared.numbers.Endian.{Endian}
use Rattle.ufs_build.specs.Directories.{directories_from, directories_of, directory_bytes}
use Rattle.ufs_build.specs.Items.{is_dir, is_slash, name_of}
use Rattle.ufs_build.specs.Nodes.{Node, item_nodes, node_of, nodes_of}
use Rattle.ufs_build.specs.Placements.{blocks_of, fragments_of}
use Rattle.ufs_build.specs.declared.items.Item.{Item}
use Rattle.ufs_drill.proofs.ItemLaws.{range_more}
use Rattle.ufs_drill.proofs.PathLaws.{bytes_length, files_to, parent_list, size_low, ten}
use Rattle.ufs_drill.specs.Items.{directory_item, drill_items, file_item, size_of}
use Rattle.ufs_image_laws.specs.Rooms.{HaveShort, all_halves, block_halves, first_halves, halves, hits}

-- ---- single blocks

halves_by : (b : Bool) → (if b then 1 else 2) ≤ 2
halves_by true = omega arith
halves_by false = omega arith

halves_most : (k : ℕ) → halves k ≤ 2
halves_most k = halves_by (nat_le k 4)

abbrev above_of : Bool → ℕ
above_of b = if b then 0 else 2

above_by : (b : Bool) → (if b then 0 else 2) ≤ 2
above_by true = omega arith
above_by false = omega arith

block_most : (g : Geometry) (size n : ℕ) → block_halves g size n ≤ 4
block_most g size n =
    let one : (if nat_lt n 12 then 0 else 2) ≤ 2 = above_by (nat_lt n 12) in
    let own = halves_most (fragments_of g size n) in
    omega (arith, one, own)

block_low : (g : Geometry) (size n : ℕ) → n < 12 → block_halves g size n ≤ 2
block_low g size n low =
    let is : nat_lt n 12 ≡ true = grind (arith, nat_tests) in
    let none : ◌≡◌ {A = ℕ} (if nat_lt n 12 then 0 else 2) 0 = ap (λ (b : Bool). above_of b) is in
    let own = halves_most (fragments_of g size n) in
    omega (arith, none, own)

first_low : (g : Geometry) (size n : ℕ) → n ≤ 12 → first_halves g size n ≤ 2 * n
first_low g size zero low = omega arith
first_low g size (suc n) low =
    let before = first_low g size n (omega arith) in
    let here = block_low g size n (omega arith) in
    let sum : first_halves g size n + block_halves g size n ≤ 2 * suc n = omega (arith, before, here) in sum

first_high : (g : Geometry) (size n : ℕ) → 12 ≤ n → first_halves g size n + 24 ≤ 4 * n
first_high g size zero high = absurd (omega arith)
first_high g size (suc n) high = elim (cases_lt n 12) as (λ _. first_halves g size (suc n) + 24 ≤ 4 * suc n) [
  | inl low ↦ let all = first_low g size (suc n) (omega arith) in omega (arith, all, high)
  | inr past ↦
      let before = first_high g size n past in
      let here = block_most g size n in
      let sum : first_halves g size n + block_halves g size n + 24 ≤ 4 * suc n = omega (arith, before, here) in sum
]

-- ---- files

pub ceil_low : (size most : ℕ) → size ≤ 8192 * most → div_ceil size 8192 ≤ most
ceil_low size most low =
    let round : div_ceil size 8192 * 8192 < size + 8192 = (div_ceil_times size 8192 (omega arith)).1 in
    omega (arith, round, low)

-- files of up to twelve and a half thousand bytes, directories, and long files
few_halves : (g : Geometry) (size c : ℕ) → c ≤ 14 → first_halves g size c ≤ 32
few_halves g size c low = elim (cases_lt c 12) as (λ _. first_halves g size c ≤ 32) [
  | inl few ↦ let h = first_low g size c (omega arith) in omega (arith, h, few)
  | inr more ↦ let h = first_high g size c more in omega (arith, h, low)
]

long_halves : (g : Geometry) (size c : ℕ) → c ≤ 26 → first_halves g size c ≤ 80
long_halves g size c low = elim (cases_lt c 12) as (λ _. first_halves g size c ≤ 80) [
  | inl few ↦ let h = first_low g size c (omega arith) in omega (arith, h, few)
  | inr more ↦ let h = first_high g size c more in omega (arith, h, low)
]

rest_by : (b : Bool) (x y : ℕ) → b ≡ false → y ≤ 4 → (if nat_le 12 1 || b then x else y) ≤ 4
rest_by true x y none few = absurd (false≢true (sym none))
rest_by false x y none few = few

tail_few : (g : Geometry) (size : ℕ) → g.bsize ≡ 8192 → g.fsize ≡ 1024 → size < 12000 → fragments_of g size 1 ≤ 4
unfolding fragments_of
tail_few g size bsize fsize low =
    let past : nat_le ((1 + 1) * g.bsize) size ≡ false = grind (arith, nat_tests) in
    let round : div_ceil (size - 1 * g.bsize) 1024 * 1024 < size - 1 * g.bsize + 1024 = (div_ceil_times (size - 1 * g.bsize) 1024 (omega arith)).1 in
    let few : div_ceil (size - 1 * g.bsize) 1024 ≤ 4 = omega (arith, round, bsize, low) in
    rest_by (nat_le ((1 + 1) * g.bsize) size) g.frag (div_ceil (size - 1 * g.bsize) g.fsize) past
    (subst (λ (f : ℕ). div_ceil (size - 1 * g.bsize) f ≤ 4) (sym fsize) few)

small_is : (k : ℕ) → k ≤ 4 → halves k ≡ 1
small_is k low = let e : nat_le k 4 ≡ true = grind (arith, nat_tests) in ap (λ (b : Bool). if b then 1 else 2) e

short_halves : (g : Geometry) (size c : ℕ) → g.bsize ≡ 8192 → g.fsize ≡ 1024 → size < 12000 → c ≤ 2 → first_halves g size c ≤ 3
short_halves g size zero bsize fsize low few = omega arith
short_halves g size (suc zero) bsize fsize low few = let h = first_low g size 1 (omega arith) in omega (arith, h)
short_halves g size (suc (suc zero)) bsize fsize low few =
    let first = first_low g size 1 (omega arith) in
    let tail = small_is (fragments_of g size 1) (tail_few g size bsize fsize low) in
    let sum : first_halves g size 1 + (0 + halves (fragments_of g size 1)) ≤ 3 = omega (arith, first, tail) in sum
short_halves g size (suc (suc (suc c))) bsize fsize low few = absurd (omega arith)

-- what a file takes
pub record IsLight (g : Geometry) (node : Node) (load : ℕ) : Type 0 where
  pub blocks : blocks_of g node ≤ 12 + g.nindir
  pub most : first_halves g (length node.bytes) (blocks_of g node) ≤ load

light_by : (g : Geometry) (size c load : ℕ) (inside : Bool) → c ≤ 12 + g.nindir → first_halves g size c ≤ load
    → ((if inside then 0 else c) ≤ 12 + g.nindir) × (first_halves g size (if inside then 0 else c) ≤ load)
light_by g size c load true blocks most = (omega arith, omega arith)
light_by g size c load false blocks most = (blocks, most)

light_node : (g : Geometry) (node : Node) (load : ℕ) → div_ceil (length node.bytes) g.bsize ≤ 12 + g.nindir
    → first_halves g (length node.bytes) (div_ceil (length node.bytes) g.bsize) ≤ load → IsLight g node load
unfolding blocks_of
light_node g node load blocks most =
    let both = light_by g (length node.bytes) (div_ceil (length node.bytes) g.bsize) load node.inside blocks most in
    record { blocks = both.0; most = both.1 }

-- ---- all files

abbrev pub total : List ℕ → ℕ
total [] = 0
total (load ∷ loads) = load + total loads

-- each item takes no more than its load, whatever its inode and its directory are
abbrev pub AreLight : Geometry → Endian → List Item → List ℕ → List Item → List ℕ → Type 0
AreLight g endian all above [] [] = Unit {0}
AreLight g endian all above (item ∷ items) (load ∷ loads) =
    ((inode up : ℕ) → IsLight g (node_of item (if is_dir item.kind then directory_bytes endian all above inode up else [])) load) × AreLight g endian all above items loads
AreLight g endian all above [] (load ∷ loads) = ⊥
AreLight g endian all above (item ∷ items) [] = ⊥

-- so do all of them
pub record TakeFew (g : Geometry) (nodes : List Node) (load : ℕ) : Type 0 where
  pub blocks : All (λ node. blocks_of g node ≤ 12 + g.nindir) nodes
  pub most : all_halves g nodes ≤ load

all_none : (g : Geometry) → All (λ (node : Node). blocks_of g node ≤ 12 + g.nindir) []
all_none g k d low = absurd (omega (arith, low))

all_more : (g : Geometry) (node : Node) (nodes : List Node) → blocks_of g node ≤ 12 + g.nindir → All (λ (n : Node). blocks_of g n ≤ 12 + g.nindir) nodes
    → All (λ (n : Node). blocks_of g n ≤ 12 + g.nindir) (node ∷ nodes)
all_more g node nodes first rest zero d low = first
all_more g node nodes first rest (suc k) d low = rest k d (omega (arith, low))

few_more : (g : Geometry) (node : Node) (nodes : List Node) (load loads : ℕ) → IsLight g node load → TakeFew g nodes loads → TakeFew g (node ∷ nodes) (load + loads)
few_more g node nodes load loads first rest = record {
  blocks = all_more g node nodes first.blocks rest.blocks;
  most = let a = first.most in let b = rest.most in
      let sum : first_halves g (length node.bytes) (blocks_of g node) + all_halves g nodes ≤ load + loads = omega (arith, a, b) in sum;
}

items_take : (g : Geometry) (endian : Endian) (all : List Item) (above : List ℕ) (inode : ℕ) (items : List Item) (parents loads : List ℕ)
    → AreLight g endian all above items loads → TakeFew g (item_nodes items (directories_from endian all above inode items parents)) (total loads)
items_take g endian all above inode [] parents loads light = record { blocks = all_none g; most = omega arith }
items_take g endian all above inode (item ∷ items) parents [] light = absurd light
items_take g endian all above inode (item ∷ items) [] (load ∷ loads) light = record { blocks = all_none g; most = omega arith }
items_take g endian all above inode (item ∷ items) (parent ∷ parents) (load ∷ loads) light =
    few_more g (node_of item (if is_dir item.kind then directory_bytes endian all above inode parent else []))
    (item_nodes items (directories_from endian all above (suc inode) items parents)) load (total loads) ((light.0) inode parent)
    (items_take g endian all above (suc inode) items parents loads (light.1))

-- ---- the directories of a drill

hits_push : (d : ℕ) (xs : List ℕ) (x : ℕ) → hits d (xs ++ x ∷ []) ≡ hits d xs + (if x == d then 1 else 0)
hits_push d [] x = omega arith
hits_push d (y ∷ xs) x =
    let later = hits_push d xs x in
    let sum : (if y == d then 1 else 0) + hits d (xs ++ x ∷ []) ≡ (if y == d then 1 else 0) + hits d xs + (if x == d then 1 else 0) = omega (arith, later) in sum

-- of the first n files each tenth stands in a directory
hits_by : (d n h : ℕ) (here : Bool) → (3 + n % 10 == d) ≡ here → ((10 * h + d ≤ n + 12) ⊎ (h ≡ 0))
    → ((10 * (h + (if here then 1 else 0)) + d ≤ suc n + 12) ⊎ (h + (if here then 1 else 0) ≡ 0))
hits_by d n h true is before = let e : 3 + n % 10 ≡ d = grind (arith, nat_tests) in inl (elim before as (λ _. 10 * (h + 1) + d ≤ suc n + 12) [
  | inl some ↦ omega (arith, e, some)
  | inr none ↦ omega (arith, e, none)
])
hits_by d n h false is before = elim before as (λ _. (10 * (h + 0) + d ≤ suc n + 12) ⊎ (h + 0 ≡ 0)) [
  | inl some ↦ inl (omega (arith, some))
  | inr none ↦ inr (omega (arith, none))
]

abbrev file_parents : ℕ → List ℕ
file_parents n = map (λ j. 3 + j % 10) (range_with_len 0 n)

parents_more : (n : ℕ) → file_parents (suc n) ≡ file_parents n ++ (3 + n % 10) ∷ []
parents_more n =
    ap (λ (m : ℕ). map (λ j. 3 + j % 10) (range_with_len 0 m)) (let e : suc n ≡ n + 1 = omega arith in e)
    ∙ ap (map (λ j. 3 + j % 10)) (range_more n) ∙ map_push (λ j. 3 + j % 10) (range_with_len 0 n) n

file_hits : (d n : ℕ) → (10 * hits d (file_parents n) + d ≤ n + 12) ⊎ (hits d (file_parents n) ≡ 0)
file_hits d zero = inr refl
file_hits d (suc n) =
    let more : hits d (file_parents (suc n)) ≡ hits d (file_parents n) + (if (3 + n % 10) == d then 1 else 0) = ap (hits d) (parents_more n) ∙ hits_push d (file_parents n) (3 + n % 10) in
    subst (λ (h : ℕ). (10 * h + d ≤ suc n + 12) ⊎ (h ≡ 0)) (sym more) (hits_by d n (hits d (file_parents n)) (3 + n % 10 == d) refl (file_hits d n))

one_by : (b : Bool) → (if b then 1 else 0) ≤ 1
one_by true = omega arith
one_by false = omega arith

few_files : (d n : ℕ) → n ≤ 2000 → hits d (file_parents n) ≤ 201
few_files d n few = elim (file_hits d n) as (λ _. hits d (file_parents n) ≤ 201) [
  | inl some ↦ omega (arith, some, few)
  | inr none ↦ omega (arith, none)
]

pub few_hits : (d files : ℕ) → files ≤ 2000 → hits d (parent_list files) ≤ 211
few_hits d files few =
    let rest = few_files d files few in
    let two : (if 2 == d then 1 else 0) ≤ 1 = one_by (2 == d) in
    let sum : hits d (parent_list files) ≤ 10 * (if 2 == d then 1 else 0) + hits d (file_parents files) = omega arith in
    omega (arith, rest, two, sum)

-- ---- the items of a drill

abbrev load_by : Bool → ℕ
load_by long = if long then 80 else 3

abbrev load_at : ℕ → ℕ
load_at k = load_by (k % 100 == 0)

abbrev file_loads : ℕ → ℕ → List ℕ
file_loads from n = map load_at (range_with_len from n)

abbrev loads_of : ℕ → List ℕ
loads_of files = map (λ (x : ℕ). 32) (range_with_len 0 10) ++ file_loads 0 files

loads_mono : (from n m : ℕ) → n ≤ m → total (file_loads from n) ≤ total (file_loads from m)
loads_mono from zero m low = omega arith
loads_mono from (suc n) zero low = absurd (omega arith)
loads_mono from (suc n) (suc m) low =
    let rest = loads_mono (from + 1) n m (omega arith) in
    let sum : load_at from + total (file_loads (from + 1) n) ≤ load_at from + total (file_loads (from + 1) m) = omega (arith, rest) in sum

most_files : total (file_loads 0 2000) ≡ 7540
most_files = refl

pub few_loads : (files : ℕ) → files ≤ 2000 → total (loads_of files) ≤ 7860
few_loads files few =
    let up = loads_mono 0 files 2000 few in
    let all = most_files in
    let sum : total (loads_of files) ≤ 320 + total (file_loads 0 files) = omega arith in
    omega (arith, up, all, sum)

-- what a drill's volume has
pub record HasSizes (g : Geometry) : Type 0 where
  pub bsize : g.bsize ≡ 8192
  pub fsize : g.fsize ≡ 1024
  pub nindir : g.nindir ≡ 2048

file_light : (g : Geometry) (seed k : ℕ) → HasSizes g → (long : Bool) → (k % 100 == 0) ≡ long → (node : Node) → length node.bytes ≡ size_of seed k
    → size_of seed k < 12000 + (if long then 200000 else 0) → IsLight g node (load_by long)
file_light g seed k is true e node size low =
    let ceil = ceil_low (length node.bytes) 26 (omega (arith, size, low)) in
    let same = is.bsize in
    let near = is.nindir in
    light_node g node 80 (subst (λ (b : ℕ). div_ceil (length node.bytes) b ≤ 12 + g.nindir) (sym same) (omega (arith, ceil, near)))
    (long_halves g (length node.bytes) (div_ceil (length node.bytes) g.bsize) (subst (λ (b : ℕ). div_ceil (length node.bytes) b ≤ 26) (sym same) ceil))
file_light g seed k is false e node size low =
    let ceil = ceil_low (length node.bytes) 2 (omega (arith, size, low)) in
    let same = is.bsize in
    let near = is.nindir in
    light_node g node 3 (subst (λ (b : ℕ). div_ceil (length node.bytes) b ≤ 12 + g.nindir) (sym same) (omega (arith, ceil, near)))
    (short_halves g (length node.bytes) (div_ceil (length node.bytes) g.bsize) is.bsize is.fsize (omega (arith, size, low))
    (subst (λ (b : ℕ). div_ceil (length node.bytes) b ≤ 2) (sym same) ceil))

-- a directory of so many bytes
directory_light : (g : Geometry) (node : Node) → HasSizes g → length node.bytes ≤ 512 * 213 → IsLight g node 32
directory_light g node is small =
    let ceil = ceil_low (length node.bytes) 14 (omega (arith, small)) in
    let same = is.bsize in
    let near = is.nindir in
    light_node g node 32 (subst (λ (b : ℕ). div_ceil (length node.bytes) b ≤ 12 + g.nindir) (sym same) (omega (arith, ceil, near)))
    (few_halves g (length node.bytes) (div_ceil (length node.bytes) g.bsize) (subst (λ (b : ℕ). div_ceil (length node.bytes) b ≤ 14) (sym same) ceil))

-- ---- names

name_shorter : (path : List ℕ) → length (name_of path) ≤ length path
name_shorter [] = omega arith
name_shorter (b ∷ path) = by_slash (list_any is_slash path) (name_of path) path (name_shorter path)
  where
    by_slash : (more : Bool) (name path : List ℕ) → length name ≤ length path → length (if more then name else path) ≤ suc (length path)
    by_slash true name path less = omega (arith, less)
    by_slash false name path less = omega arith

short_range : (f : ℕ → Item) (from n : ℕ) → ((k : ℕ) → length (f k).path ≤ 255) → HaveShort (map f (range_with_len from n))
short_range f from zero each = tt
short_range f from (suc n) each = (let a = each from in let b = name_shorter (f from).path in omega (arith, a, b), short_range f (from + 1) n each)

short_both : (xs ys : List Item) → HaveShort xs → HaveShort ys → HaveShort (xs ++ ys)
short_both [] ys one other = other
short_both (x ∷ xs) ys one other = (one.0, short_both xs ys (one.1) other)

pub all_short : (seed files : ℕ) → HaveShort (drill_items seed files)
all_short seed files = short_both ten (files_to seed files) (short_range directory_item 0 10 (λ k. omega arith)) (short_range (file_item seed) 0 files (λ k. omega arith))

-- ---- the whole

abbrev pub HaveChunks : Type 0
HaveChunks = (endian : Endian) (items : List Item) (parents : List ℕ) (directory up : ℕ) → HaveShort items
    → length (directory_bytes endian items parents directory up) ≤ 512 * (hits directory parents + 2)

module _ (chunks : HaveChunks) (g : Geometry) (is : HasSizes g) (endian : Endian) (seed files : ℕ) (few : files ≤ 2000) where
  abbrev all : List Item
  all = drill_items seed files

  abbrev above : List ℕ
  above = parent_list files

  small : (inode up : ℕ) → length (directory_bytes endian (drill_items seed files) (parent_list files) inode up) ≤ 512 * 213
  small inode up =
      let size = chunks endian (drill_items seed files) (parent_list files) inode up (all_short seed files) in
      let most = few_hits inode files few in
      omega (arith, size, most)

  files_light : (from n : ℕ) → AreLight g endian (drill_items seed files) (parent_list files) (map (file_item seed) (range_with_len from n)) (file_loads from n)
  files_light from zero = tt
  files_light from (suc n) = (
    (λ inode up. file_light g seed from is (from % 100 == 0) refl (node_of (file_item seed from) []) (bytes_length from (size_of seed from)) (size_low seed from)),
    files_light (from + 1) n,
  )

  directories_light : (from n : ℕ) (rest : List Item) (loads : List ℕ) → AreLight g endian (drill_items seed files) (parent_list files) rest loads
      → AreLight g endian (drill_items seed files) (parent_list files) (map directory_item (range_with_len from n) ++ rest) (map (λ (x : ℕ). 32) (range_with_len from n) ++ loads)
  directories_light from zero rest loads later = later
  directories_light from (suc n) rest loads later = (
    (λ inode up. directory_light g (node_of (directory_item from) (directory_bytes endian (drill_items seed files) (parent_list files) inode up)) is (small inode up)),
    directories_light (from + 1) n rest loads later,
  )

  pub drill_takes : TakeFew g (nodes_of (drill_items seed files) (directories_of endian (drill_items seed files) (parent_list files))) (32 + total (loads_of files))
  unfolding directories_of
  drill_takes =
      let root : Node = record { mode = 0x41ed; bytes = directory_bytes endian (drill_items seed files) (parent_list files) 2 2; sparse = false; inside = false } in
      few_more g root (item_nodes (drill_items seed files) (directories_from endian (drill_items seed files) (parent_list files) 3 (drill_items seed files) (parent_list files)))
      32 (total (loads_of files)) (directory_light g root is (small 2 2))
      (items_take g endian (drill_items seed files) (parent_list files) 3 (drill_items seed files) (parent_list files) (loads_of files)
      (directories_light 0 10 (files_to seed files) (file_loads 0 files) (files_light 0 files)))
