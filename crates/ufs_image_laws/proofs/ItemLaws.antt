-- The files of items.
use Rattle.std.proofs.Common.{◌≡◌, ◌≢◌, ◌∙◌, ℕ, zero, suc, ◌+◌, ◌-◌, ◌*◌, ◌^◌, ◌<◌, ◌≤◌, ◌==◌, ◌&&◌, not, Bool, true, false, List, [], ◌∷◌, ◌++◌, length, refl, sym, ap, arith, Some, None, length-append}
use Rattle.std.specs.Prelude.{Err, Ok, Option, Result, if◌then◌else◌, nat_le, nat_lt, replicate, slice_get}
use Rattle.std.specs.List.{list_any}
use Rattle.std.specs.Option.{is_none}
use Rattle.std.proofs.lemmas.Bool.{and_parts, false≢true, leb-true, ltb-true}
use Rattle.std.proofs.lemmas.List.{length-replicate}
use Rattle.std.proofs.lemmas.Option.{same_Some}
use Rattle.ufs_model.specs.Chunks.{DirEntry}
use Rattle.ufs_model.specs.Paths.{is_path}
use Rattle.ufs_model.specs.declared.numbers.Endian.{Endian}
use Rattle.ufs_build.specs.Directories.{directories_from, directories_of, directory_bytes, directory_entries, entries_from, entry_bytes, entry_if, entry_length, item_entry, packed, reclen_in, room_after}
use Rattle.ufs_build.specs.Items.{directory_at, has_contents, has_place, if_placed, is_dir, is_slash, inode_before, name_of, parent_inode, parent_of, parents_after, parents_of, place_of_path}
use Rattle.ufs_build.specs.Nodes.{Node, is_link, item_nodes, mode_of, node_of, nodes_of}
use Rattle.ufs_build.specs.Parts.{number_bytes}
use Rattle.ufs_build.specs.declared.items.Item.{Item}
use Rattle.ufs_build.specs.declared.items.ItemKind.{ItemKind}
use Rattle.ufs_build.specs.declared.items.ItemKind.TheVariants.{Dir, File, Link}
use Rattle.ufs_image_laws.proofs.ListLaws.{Each}
use Rattle.ufs_image_laws.proofs.NumberLaws.{number_length}

-- ---- what is known of items that can stand where their paths say

pub record IsGoodItem (item : Item) : Type 0 where
  pub place : has_place item.path ≡ true
  pub contents : has_contents item ≡ true

pub record AreGood (items : List Item) (parents : List ℕ) : Type 0 where
  pub each : Each IsGoodItem items
  pub count : length parents ≡ length items

pub same_inodes : (x y : List ℕ) → ◌≡◌ {A = Result (List ℕ) ℕ} (Ok x) (Ok y) → x ≡ y
same_inodes x y e = cc e

good_by : (item : Item) (test : Bool) (found : Option ℕ) (inode : ℕ) → (if test then found else None) ≡ Some inode → test ≡ true
good_by item true found inode e = refl
good_by item false found inode e = absurd (cc e)

good_item : (before : List Item) (item : Item) (inode : ℕ) → parent_inode before item ≡ Some inode → IsGoodItem item
unfolding parent_inode
good_item before item inode e =
    let test = good_by item (has_place item.path && (has_contents item && is_none (place_of_path before item.path))) (directory_at before (parent_of item.path)) inode e in
    let one = and_parts (has_place item.path) _ test in
    let two = and_parts (has_contents item) _ (one.1) in
    record { place = one.0; contents = two.0 }

later_good : (item : Item) (items : List Item) (inode : ℕ) (rest : Result (List ℕ) ℕ) (parents : List ℕ) → IsGoodItem item
    → ((found : List ℕ) → rest ≡ Ok found → AreGood items found) → inode_before inode rest ≡ Ok parents → AreGood (item ∷ items) parents
later_good item items inode (Err k) parents here further e = absurd (cc e)
later_good item items inode (Ok found) parents here further e =
    let others = further found refl in
    let same = same_inodes (inode ∷ found) parents e in
    record { each = (here, others.each); count = sym (ap (λ (xs : List ℕ). length xs) same) ∙ (let n = others.count in let e' : suc (length found) ≡ suc (length items) = omega (arith, n) in e') }

placed_good : (before : List Item) (item : Item) (items : List Item) (found : Option ℕ) (rest : Result (List ℕ) ℕ) (parents : List ℕ) → parent_inode before item ≡ found
    → ((inodes : List ℕ) → rest ≡ Ok inodes → AreGood items inodes) → if_placed (length before) found rest ≡ Ok parents → AreGood (item ∷ items) parents
placed_good before item items None rest parents here further e = absurd (cc e)
placed_good before item items (Some inode) rest parents here further e = later_good item items inode rest parents (good_item before item inode here) further e

good_after : (before items : List Item) (parents : List ℕ) → parents_after before items ≡ Ok parents → AreGood items parents
good_after before [] parents e = record { each = tt; count = sym (ap (λ (xs : List ℕ). length xs) (same_inodes [] parents e)) }
good_after before (item ∷ items) parents e =
    placed_good before item items (parent_inode before item) (parents_after (before ++ item ∷ []) items) parents refl
    (λ inodes is. good_after (before ++ item ∷ []) items inodes is) e

pub good_items : (items : List Item) (parents : List ℕ) → parents_of items ≡ Ok parents → AreGood items parents
unfolding parents_of
good_items items parents e = good_after [] items parents e

-- ---- names

name_length : (path : List ℕ) → length (name_of path) ≤ length path
name_length [] = omega arith
name_length (b ∷ path) = name_by (list_any is_slash path) (name_of path) path (name_length path)
  where
    name_by : (more : Bool) (name path : List ℕ) → length name ≤ length path → length (if more then name else path) ≤ suc (length path)
    name_by true name path h = omega arith
    name_by false name path h = omega arith

path_short : (path : List ℕ) → is_path path ≡ true → length path ≤ 1023
unfolding is_path
path_short [] e = absurd (false≢true e)
path_short (b ∷ bytes) e =
    let one = and_parts (b == 47) _ e in
    let two = and_parts (nat_le (length (b ∷ bytes)) 1023) _ (one.1) in
    leb-true (length (b ∷ bytes)) 1023 (two.0)

pub name_short : (item : Item) → IsGoodItem item → length (name_of item.path) ≤ 1023
unfolding has_place
name_short item is =
    let path = and_parts (is_path item.path) _ is.place in
    let one = path_short item.path (path.0) in
    let two = name_length item.path in
    omega arith

pub contents_small : (item : Item) → IsGoodItem item → length item.bytes < 2 ^ 32
unfolding has_contents
contents_small item is =
    let parts = and_parts (not (is_dir item.kind && nat_lt 0 (length item.bytes))) _ is.contents in
    ltb-true (length item.bytes) (2 ^ 32) (parts.1)

-- ---- the size of a directory

abbrev pub HasShort : DirEntry → Type 0
HasShort entry = length entry.name ≤ 1023

record AreFew (entries : List DirEntry) (n : ℕ) : Type 0 where
  each : Each HasShort entries
  count : length entries ≤ n

few_if : (wanted parent : ℕ) (entry : DirEntry) (further : List DirEntry) (n : ℕ) → HasShort entry → AreFew further n → AreFew (entry_if wanted parent entry further) (suc n)
few_if wanted parent entry further n short is = few_by (parent == wanted) entry further n short is
  where
    few_by : (here : Bool) (entry : DirEntry) (further : List DirEntry) (n : ℕ) → HasShort entry → AreFew further n → AreFew (if here then entry ∷ further else further) (suc n)
    few_by true entry further n short is = record { each = (short, is.each); count = let h = is.count in omega arith }
    few_by false entry further n short is = record { each = is.each; count = let h = is.count in omega arith }

few_entries : (directory inode : ℕ) (items : List Item) (parents : List ℕ) → Each IsGoodItem items → AreFew (entries_from directory inode items parents) (length items)
few_entries directory inode [] parents good = record { each = tt; count = omega arith }
few_entries directory inode (item ∷ items) [] good = record { each = tt; count = omega arith }
few_entries directory inode (item ∷ items) (parent ∷ parents) good =
    few_if directory parent (item_entry inode item) (entries_from directory (suc inode) items parents) (length items) (name_short item (good.0))
    (few_entries directory (suc inode) items parents (good.1))

-- an entry takes no more than a number that holds its name and what is left for it
pub entry_size : (endian : Endian) (entry : DirEntry) (reclen most : ℕ) → reclen ≤ most → 8 + length entry.name ≤ most → length (entry_bytes endian entry reclen) ≤ most
unfolding entry_bytes
entry_size endian entry reclen most small short =
    let inode = number_length endian 4 entry.inode in
    let size = number_length endian 2 reclen in
    let zeros = length-replicate {A = ℕ} (reclen - (8 + length entry.name)) 0 in
    let a = length-append entry.name (replicate (reclen - (8 + length entry.name)) 0) in
    let b = length-append (entry.kind ∷ length entry.name ∷ []) (entry.name ++ replicate (reclen - (8 + length entry.name)) 0) in
    let c = length-append (number_bytes endian 2 reclen) ((entry.kind ∷ length entry.name ∷ []) ++ (entry.name ++ replicate (reclen - (8 + length entry.name)) 0)) in
    let d = length-append (number_bytes endian 4 entry.inode)
    (number_bytes endian 2 reclen ++ ((entry.kind ∷ length entry.name ∷ []) ++ (entry.name ++ replicate (reclen - (8 + length entry.name)) 0))) in
    omega (arith, inode, size, zeros, a, b, c, d, small, short)

pub reclen_small : (room : ℕ) (entry : DirEntry) (further : List DirEntry) → reclen_in room entry further ≤ room
reclen_small room entry [] = omega arith
reclen_small room entry (next ∷ further) = small_by (nat_le (entry_length entry.name + entry_length next.name) room) (entry_length entry.name) (entry_length next.name) room refl
  where
    small_by : (fits : Bool) (one other room : ℕ) → nat_le (one + other) room ≡ fits → (if fits then one else room) ≤ room
    small_by true one other room e = let h = leb-true (one + other) room e in omega arith
    small_by false one other room e = omega arith

pub room_small : (room reclen : ℕ) → room ≤ 512 → room_after room reclen ≤ 512
room_small room reclen h = small_by (reclen == room) room reclen h
  where
    small_by : (same : Bool) (room reclen : ℕ) → room ≤ 512 → (if same then 512 else room - reclen) ≤ 512
    small_by true room reclen h = omega arith
    small_by false room reclen h = omega arith

packed_size : (endian : Endian) (room : ℕ) (entries : List DirEntry) → room ≤ 512 → Each HasShort entries → length (packed endian room entries) ≤ 2048 * length entries
packed_size endian room [] h short = omega arith
packed_size endian room (entry ∷ further) h short =
    let own = reclen_small room entry further in
    let one = entry_size endian entry (reclen_in room entry further) 2048 (omega arith) (let h = short.0 in omega (arith, h)) in
    let rest = packed_size endian (room_after room (reclen_in room entry further)) further (room_small room (reclen_in room entry further) h) (short.1) in
    let sum = length-append (entry_bytes endian entry (reclen_in room entry further)) (packed endian (room_after room (reclen_in room entry further)) further) in
    omega (arith, one, rest, sum)

pub directory_size : (endian : Endian) (items : List Item) (parents : List ℕ) (directory up : ℕ) → Each IsGoodItem items
    → length (directory_bytes endian items parents directory up) ≤ 2048 * (length items + 2)
unfolding directory_bytes directory_entries
directory_size endian items parents directory up good =
    let few = few_entries directory 3 items parents good in
    let count = few.count in
    let size = packed_size endian 512 (directory_entries items parents directory up) (omega arith) (omega arith, (omega arith, few.each)) in
    omega arith

-- ---- the files

-- the numbers of a file that an inode has room for
pub record HasNumbers (node : Node) : Type 0 where
  pub some : node.mode ≢ 0
  pub mode : node.mode < 2 ^ 16
  pub size : length node.bytes < 2 ^ 64

mode_some : (kind : ItemKind) → mode_of kind ≢ 0
mode_some Dir e = omega arith
mode_some File e = omega arith
mode_some Link e = omega arith

mode_small : (kind : ItemKind) → mode_of kind < 2 ^ 16
mode_small Dir = omega arith
mode_small File = omega arith
mode_small Link = omega arith

pub either_small : (here : Bool) (one other : List ℕ) (n : ℕ) → length one < n → length other < n → length (if here then one else other) < n
either_small true one other n h k = h
either_small false one other n h k = k

node_numbers : (item : Item) (directory : List ℕ) → IsGoodItem item → length directory < 2 ^ 64 → HasNumbers (node_of item directory)
node_numbers item directory good small =
    let own = contents_small item good in
    record {
      some = mode_some item.kind;
      mode = mode_small item.kind;
      size = either_small (is_dir item.kind) directory item.bytes (2 ^ 64) small (omega arith);
    }

nodes_numbers : (endian : Endian) (all : List Item) (above : List ℕ) (inode : ℕ) (items : List Item) (parents : List ℕ) → Each IsGoodItem all → 2048 * (length all + 2) < 2 ^ 64
    → Each IsGoodItem items → Each HasNumbers (item_nodes items (directories_from endian all above inode items parents))
nodes_numbers endian all above inode [] parents every few good = tt
nodes_numbers endian all above inode (item ∷ items) [] every few good = tt
nodes_numbers endian all above inode (item ∷ items) (parent ∷ parents) every few good =
    let size = directory_size endian all above inode parent every in (
      node_numbers item (if is_dir item.kind then directory_bytes endian all above inode parent else []) (good.0)
          (either_small (is_dir item.kind) (directory_bytes endian all above inode parent) [] (2 ^ 64) (omega arith) (omega arith)),
      nodes_numbers endian all above (suc inode) items parents every few (good.1),
    )

pub files_numbers : (endian : Endian) (items : List Item) (parents : List ℕ) → Each IsGoodItem items → length items < 2 ^ 32
    → Each HasNumbers (nodes_of items (directories_of endian items parents))
unfolding directories_of
files_numbers endian items parents good few =
    let size = directory_size endian items parents 2 2 good in (
      record { some = λ e. omega arith; mode = omega arith; size = omega arith },
      nodes_numbers endian items parents 3 items parents good (omega arith) good,
    )

-- ---- which file is an item's

same_files : (kind : ItemKind) (own directory : List ℕ) → (if is_dir kind then (if is_dir kind then directory else []) else own) ≡ (if is_dir kind then directory else own)
same_files Dir own directory = refl
same_files File own directory = refl
same_files Link own directory = refl

same_node : (item : Item) (directory : List ℕ) → node_of item (if is_dir item.kind then directory else []) ≡ node_of item directory
same_node item directory =
    ap (λ (bytes : List ℕ). record { mode = mode_of item.kind; bytes = bytes; sparse = item.sparse; inside = is_link item.kind && nat_lt (length item.bytes) 60 })
    (same_files item.kind item.bytes directory)

item_at : (endian : Endian) (all : List Item) (above : List ℕ) (inode : ℕ) (items : List Item) (parents : List ℕ) (k : ℕ) (item : Item) (parent : ℕ)
    → slice_get items k ≡ Some item → slice_get parents k ≡ Some parent
    → slice_get (item_nodes items (directories_from endian all above inode items parents)) k ≡ Some (node_of item (directory_bytes endian all above (inode + k) parent))
item_at endian all above inode [] parents k item parent e f = absurd (cc e)
item_at endian all above inode (first ∷ items) [] k item parent e f = absurd (cc f)
item_at endian all above inode (first ∷ items) (up ∷ parents) zero item parent e f =
    let same : first ≡ item = same_Some first item e in
    let same' : up ≡ parent = same_Some up parent f in
    ap Some (same_node first (directory_bytes endian all above inode up)
    ∙ ap (λ (x : Item). node_of x (directory_bytes endian all above inode up)) same
    ∙ ap (λ (n : ℕ). node_of item (directory_bytes endian all above inode n)) same'
    ∙ ap (λ (n : ℕ). node_of item (directory_bytes endian all above n parent)) (let z : inode ≡ inode + 0 = omega arith in z))
item_at endian all above inode (first ∷ items) (up ∷ parents) (suc k) item parent e f =
    item_at endian all above (suc inode) items parents k item parent e f
    ∙ ap (λ (n : ℕ). Some (node_of item (directory_bytes endian all above n parent))) (let z : suc inode + k ≡ inode + suc k = omega arith in z)

pub file_of_item : (endian : Endian) (items : List Item) (parents : List ℕ) (k : ℕ) (item : Item) (parent : ℕ) → slice_get items k ≡ Some item → slice_get parents k ≡ Some parent
    → slice_get (nodes_of items (directories_of endian items parents)) (suc k) ≡ Some (node_of item (directory_bytes endian items parents (3 + k) parent))
unfolding directories_of
file_of_item endian items parents k item parent e f = item_at endian items parents 3 items parents k item parent e f

pub file_of_root : (endian : Endian) (items : List Item) (parents : List ℕ)
    → slice_get (nodes_of items (directories_of endian items parents)) 0 ≡ Some (record { mode = 0x41ed; bytes = directory_bytes endian items parents 2 2; sparse = false; inside = false })
unfolding directories_of
file_of_root endian items parents = refl

count_by : (endian : Endian) (all : List Item) (above : List ℕ) (inode : ℕ) (items : List Item) (parents : List ℕ) → length parents ≡ length items
    → length (item_nodes items (directories_from endian all above inode items parents)) ≡ length items
count_by endian all above inode [] parents e = refl
count_by endian all above inode (item ∷ items) [] e = absurd (omega (arith, e))
count_by endian all above inode (item ∷ items) (parent ∷ parents) e =
    let rest = count_by endian all above (suc inode) items parents (omega (arith, e)) in omega (arith, rest)

pub count_of_files : (endian : Endian) (items : List Item) (parents : List ℕ) → length parents ≡ length items
    → length (nodes_of items (directories_of endian items parents)) ≡ length items + 1
unfolding directories_of
count_of_files endian items parents e = let rest = count_by endian items parents 3 items parents e in omega (arith, rest)
