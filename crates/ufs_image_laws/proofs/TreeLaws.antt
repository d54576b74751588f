-- Where items stand: each in one directory, under a name that no other has there.
use Rattle.std.proofs.Common.{◌≡◌, ◌≢◌, ◌∙◌, ℕ, zero, suc, ◌+◌, ◌<◌, ◌≤◌, ◌&&◌, ◌||◌, ◌==◌, Bool, true, false, List, [], ◌∷◌, ◌++◌, length, take, get_or, refl, sym, ap, subst, arith, inl, inr, Some, None, append_assoc}
use Rattle.std.specs.Prelude.{Err, Ok, Option, Result, if◌then◌else◌, nat_le, nat_lt, slice_get}
use Rattle.std.specs.Cmp.Lexicographic.{pointwise}
use Rattle.std.specs.List.{list_any, position_or_len}
use Rattle.std.specs.Option.{is_none}
use Rattle.std.proofs.lemmas.Bool.{and_parts, cases_order, eqb-true, false≢true, ltb-false, not-true, or_parts}
use Rattle.std.proofs.lemmas.List.{append-nil, nil_from_length}
use Rattle.std.proofs.lemmas.List.Quantifiers.{position-Some}
use Rattle.std.proofs.lemmas.List.Sums.{fails_before_first}
use Rattle.std.proofs.lemmas.Option.{get_or_from_slice_get, same_Some, slice_get_within}
use Rattle.std.proofs.lemmas.Slice.Eq.{bytes_eq-Decides}
use Rattle.ufs_model.specs.Chunks.{DirEntry}
use Rattle.ufs_model.specs.Paths.{is_path}
use Rattle.ufs_build.specs.Directories.{entries_from, item_entry}
use Rattle.ufs_build.specs.Items.{directory_at, dot, dot_dot, has_contents, has_place, if_placed, inode_if_dir, inode_if_found, inode_of_item, is_dir, is_dots, is_slash, name_of, parent_inode, parent_of, parents_after, parents_of, place_of_path}
use Rattle.ufs_build.specs.declared.items.Item.{Item}
use Rattle.ufs_build.specs.declared.items.ItemKind.{ItemKind}
use Rattle.ufs_build.specs.declared.items.ItemKind.TheVariants.{Dir, File, Link}
use Rattle.ufs_image_laws.proofs.ItemLaws.{same_inodes}

-- ---- each item among those before it

pub record IsStanding (before : List Item) (item : Item) (p : ℕ) : Type 0 where
  pub place : has_place item.path ≡ true
  pub fresh : is_none (place_of_path before item.path) ≡ true
  pub at : directory_at before (parent_of item.path) ≡ Some p

record Parts (before : List Item) (item : Item) (items : List Item) (parents : List ℕ) : Type 0 where
  inode : ℕ
  rest : List ℕ
  first : parent_inode before item ≡ Some inode
  further : parents_after (before ++ item ∷ []) items ≡ Ok rest
  are : inode ∷ rest ≡ parents

parts_by : (before : List Item) (item : Item) (items : List Item) (parents : List ℕ) (found : Option ℕ) (later : Result (List ℕ) ℕ) → parent_inode before item ≡ found
    → parents_after (before ++ item ∷ []) items ≡ later → if_placed (length before) found later ≡ Ok parents → Parts before item items parents
parts_by before item items parents None later e f h = absurd (cc h)
parts_by before item items parents (Some inode) (Err k) e f h = absurd (cc h)
parts_by before item items parents (Some inode) (Ok rest) e f h = record { inode = inode; rest = rest; first = e; further = f; are = same_inodes (inode ∷ rest) parents h }

standing_by : (before : List Item) (item : Item) (p : ℕ) (test : Bool) → (has_place item.path && (has_contents item && is_none (place_of_path before item.path))) ≡ test
    → (if test then directory_at before (parent_of item.path) else None) ≡ Some p → IsStanding before item p
standing_by before item p false e h = absurd (cc h)
standing_by before item p true e h =
    let one = and_parts (has_place item.path) _ e in
    let two = and_parts (has_contents item) _ (one.1) in
    record { place = one.0; fresh = two.1; at = h }

standing_first : (before : List Item) (item : Item) (p : ℕ) → parent_inode before item ≡ Some p → IsStanding before item p
unfolding parent_inode
standing_first before item p h = standing_by before item p (has_place item.path && (has_contents item && is_none (place_of_path before item.path))) refl h

standing_at : (before items : List Item) (parents : List ℕ) (j : ℕ) (item : Item) (p : ℕ) → parents_after before items ≡ Ok parents → slice_get items j ≡ Some item → slice_get parents j ≡ Some p
    → IsStanding (before ++ take j items) item p
standing_at before [] parents j item p e f h = absurd (cc f)
standing_at before (first ∷ items) parents zero item p e f h =
    let parts = parts_by before first items parents (parent_inode before first) (parents_after (before ++ first ∷ []) items) refl refl e in
    let same : first ≡ item = same_Some first item f in
    let own : parts.inode ≡ p = same_Some parts.inode p (ap (λ (ps : List ℕ). slice_get ps 0) parts.are ∙ h) in
    let here = standing_first before first parts.inode parts.first in
    subst (λ (b : List Item). IsStanding b item p) (sym (append-nil before)) (subst (λ (i : Item). IsStanding before i p) same (subst (λ (q : ℕ). IsStanding before first q) own here))
standing_at before (first ∷ items) parents (suc j) item p e f h =
    let parts = parts_by before first items parents (parent_inode before first) (parents_after (before ++ first ∷ []) items) refl refl e in
    let later = standing_at (before ++ first ∷ []) items parts.rest j item p parts.further f (ap (λ (ps : List ℕ). slice_get ps (suc j)) parts.are ∙ h) in
    subst (λ (b : List Item). IsStanding b item p) (append_assoc before (first ∷ []) (take j items)) later

pub standing : (items : List Item) (parents : List ℕ) (j : ℕ) (item : Item) (p : ℕ) → parents_of items ≡ Ok parents → slice_get items j ≡ Some item → slice_get parents j ≡ Some p
    → IsStanding (take j items) item p
unfolding parents_of
standing items parents j item p e f h = standing_at [] items parents j item p e f h

-- ---- paths

get_taken : {X : Type 0} (n : ℕ) (xs : List X) (m : ℕ) (x : X) → slice_get (take n xs) m ≡ Some x → (slice_get xs m ≡ Some x) × (m < n)
get_taken zero xs m x e = absurd (cc e)
get_taken (suc n) [] m x e = absurd (cc e)
get_taken (suc n) (y ∷ xs) zero x e = (e, omega arith)
get_taken (suc n) (y ∷ xs) (suc m) x e = let rest = get_taken n xs m x e in (rest.0, let h = rest.1 in omega arith)

taken_get : {X : Type 0} (n : ℕ) (xs : List X) (m : ℕ) (x : X) → slice_get xs m ≡ Some x → m < n → slice_get (take n xs) m ≡ Some x
taken_get zero xs m x e low = absurd (omega arith)
taken_get (suc n) [] m x e low = absurd (cc e)
taken_get (suc n) (y ∷ xs) zero x e low = e
taken_get (suc n) (y ∷ xs) (suc m) x e low = taken_get n xs m x e (omega arith)

abbrev pub has_path : List ℕ → Item → Bool
has_path path item = pointwise ◌==◌ item.path path

none_by : (xs : List Item) (path : List ℕ) (low : Bool) → nat_lt (position_or_len (has_path path) xs) (length xs) ≡ low
    → is_none (if low then Some (position_or_len (has_path path) xs) else None) ≡ true → low ≡ false
none_by xs path true e h = absurd (false≢true h)
none_by xs path false e h = refl

-- a path that none has
no_place : (xs : List Item) (path : List ℕ) (m : ℕ) (item : Item) → is_none (place_of_path xs path) ≡ true → slice_get xs m ≡ Some item → item.path ≡ path → ⊥
no_place xs path m item none e same =
    let last = none_by xs path (nat_lt (position_or_len (has_path path) xs) (length xs)) refl none in
    let low = slice_get_within xs m item e in
    let past : length xs ≤ position_or_len (has_path path) xs = ltb-false (position_or_len (has_path path) xs) (length xs) last in
    let fails = fails_before_first (has_path path) xs m item (omega arith) in
    let here : get_or xs m item ≡ item = get_or_from_slice_get xs m item item e in
    false≢true (sym fails ∙ ap (has_path path) here ∙ (bytes_eq-Decides item.path path).1 same)

paths_before : (items : List Item) (parents : List ℕ) (i j : ℕ) (one other : Item) (p : ℕ) → parents_of items ≡ Ok parents → i < j → slice_get items i ≡ Some one → slice_get items j ≡ Some other
    → slice_get parents j ≡ Some p → one.path ≡ other.path → ⊥
paths_before items parents i j one other p e low f h k same =
    let is = standing items parents j other p e h k in
    no_place (take j items) other.path i one is.fresh (taken_get j items i one f low) same

-- two items have two paths
pub one_path : (items : List Item) (parents : List ℕ) (i j : ℕ) (one other : Item) (p q : ℕ) → parents_of items ≡ Ok parents → slice_get items i ≡ Some one → slice_get items j ≡ Some other
    → slice_get parents i ≡ Some p → slice_get parents j ≡ Some q → one.path ≡ other.path → i ≡ j
one_path items parents i j one other p q e f h k l same =
    elim (cases_order i j) as (λ _. i ≡ j) [
      | inl equal ↦ equal
      | inr differ ↦ elim differ as (λ _. i ≡ j) [
        | inl less ↦ absurd (paths_before items parents i j one other q e less f h l same)
        | inr more ↦ absurd (paths_before items parents j i other one p e more h f k (sym same))
      ]
    ]

-- ---- directories

-- the directory of an item: the root, or an item before it
pub data ParentIs (items : List Item) (j : ℕ) (path : List ℕ) (p : ℕ) : Type 0 where
  in_root : length path ≡ 0 → p ≡ 2 → ParentIs items j path p
  in_item : (m : ℕ) (above : Item) → m < j → slice_get items m ≡ Some above → above.kind ≡ Dir → above.path ≡ path → p ≡ m + 3 → ParentIs items j path p

dir_by : (kind : ItemKind) → is_dir kind ≡ true → kind ≡ Dir
dir_by Dir e = refl
dir_by File e = absurd (false≢true e)
dir_by Link e = absurd (false≢true e)

parent_if : (items : List Item) (j : ℕ) (path : List ℕ) (p m : ℕ) (above : Item) (here : Bool) → m < j → slice_get items m ≡ Some above → above.path ≡ path → is_dir above.kind ≡ here
    → (if here then Some (inode_of_item m) else None) ≡ Some p → ParentIs items j path p
parent_if items j path p m above true low e same dir h = in_item m above low e (dir_by above.kind dir) same (sym (same_Some (m + 3) p h))
parent_if items j path p m above false low e same dir h = absurd (cc h)

parent_found : (items : List Item) (j : ℕ) (path : List ℕ) (p m : ℕ) (found : Option Item) → slice_get (take j items) m ≡ found → ((above : Item) → found ≡ Some above → above.path ≡ path)
    → inode_if_dir m found ≡ Some p → ParentIs items j path p
parent_found items j path p m None e named h = absurd (cc h)
parent_found items j path p m (Some above) e named h =
    let here = get_taken j items m above e in
    parent_if items j path p m above (is_dir above.kind) (here.1) (here.0) (named above refl) refl h

parent_place : (items : List Item) (j : ℕ) (path : List ℕ) (p : ℕ) (found : Option ℕ) → place_of_path (take j items) path ≡ found → inode_if_found (take j items) found ≡ Some p → ParentIs items j path p
parent_place items j path p None e h = absurd (cc h)
parent_place items j path p (Some m) e h =
    parent_found items j path p m (slice_get (take j items) m) refl
    (λ above is. let at = position-Some (has_path path) (take j items) m above e in
    (bytes_eq-Decides above.path path).0 (ap (has_path path) (sym (get_or_from_slice_get (take j items) m above above is)) ∙ at.1)) h

parent_at : (items : List Item) (j : ℕ) (path : List ℕ) (p : ℕ) (root : Bool) → (length path == 0) ≡ root
    → (if root then Some 2 else inode_if_found (take j items) (place_of_path (take j items) path)) ≡ Some p → ParentIs items j path p
parent_at items j path p true e h = in_root (eqb-true (length path) 0 e) (sym (same_Some 2 p h))
parent_at items j path p false e h = parent_place items j path p (place_of_path (take j items) path) refl h

pub parent_is : (items : List Item) (parents : List ℕ) (j : ℕ) (item : Item) (p : ℕ) → parents_of items ≡ Ok parents → slice_get items j ≡ Some item → slice_get parents j ≡ Some p
    → ParentIs items j (parent_of item.path) p
unfolding directory_at
parent_is items parents j item p e f h =
    let is = standing items parents j item p e f h in
    parent_at items j (parent_of item.path) p (length (parent_of item.path) == 0) refl is.at

-- one directory has one path
one_parent : (items : List Item) (i j : ℕ) (one other : List ℕ) (p : ℕ) → ParentIs items i one p → ParentIs items j other p → one ≡ other
one_parent items i j one other p (in_root a b) (in_root c d) = nil_from_length one a ∙ sym (nil_from_length other c)
one_parent items i j one other p (in_root a b) (in_item m above low e dir same is) = absurd (omega arith)
one_parent items i j one other p (in_item m above low e dir same is) (in_root a b) = absurd (omega arith)
one_parent items i j one other p (in_item m above low e dir same is) (in_item n second low' e' dir' same' is') =
    let number : m ≡ n = omega arith in
    let item : above ≡ second = same_Some above second (sym e ∙ ap (slice_get items) number ∙ e') in
    sym same ∙ ap (λ (x : Item). x.path) item ∙ same'

-- ---- names

path_by : (more : Bool) (b : ℕ) (path parent name : List ℕ) → (is_slash b || more) ≡ true → (more ≡ true → path ≡ parent ++ 47 ∷ name)
    → b ∷ path ≡ (if more then b ∷ parent else []) ++ 47 ∷ (if more then name else path)
path_by true b path parent name e rest = ap (λ (xs : List ℕ). b ∷ xs) (rest refl)
path_by false b path parent name e rest = let slash : b ≡ 47 = slash_by (is_slash b) b e refl in ap (λ (x : ℕ). x ∷ path) slash
  where
    slash_by : (test : Bool) (b : ℕ) → (test || false) ≡ true → (b == 47) ≡ test → b ≡ 47
    slash_by true b e f = eqb-true b 47 f
    slash_by false b e f = absurd (false≢true e)

-- a path is its directory's, a slash and its name
path_is : (path : List ℕ) → list_any is_slash path ≡ true → path ≡ parent_of path ++ 47 ∷ name_of path
path_is [] e = absurd (false≢true e)
path_is (b ∷ path) e = path_by (list_any is_slash path) b path (parent_of path) (name_of path) e (path_is path)

slashed : (path : List ℕ) → is_path path ≡ true → list_any is_slash path ≡ true
unfolding is_path
slashed [] e = absurd (false≢true e)
slashed (b ∷ path) e = let one = and_parts (b == 47) _ e in rw (one.0) refl

pub path_of : (item : Item) → has_place item.path ≡ true → item.path ≡ parent_of item.path ++ 47 ∷ name_of item.path
unfolding has_place
path_of item e = let one = and_parts (is_path item.path) _ e in path_is item.path (slashed item.path (one.0))

-- a name in a directory is one item's
pub one_name : (items : List Item) (parents : List ℕ) (i j : ℕ) (one other : Item) (p : ℕ) → parents_of items ≡ Ok parents → slice_get items i ≡ Some one → slice_get items j ≡ Some other
    → slice_get parents i ≡ Some p → slice_get parents j ≡ Some p → name_of one.path ≡ name_of other.path → i ≡ j
one_name items parents i j one other p e f h k l same =
    let first = standing items parents i one p e f k in
    let second = standing items parents j other p e h l in
    let parent = one_parent items i j (parent_of one.path) (parent_of other.path) p (parent_is items parents i one p e f k) (parent_is items parents j other p e h l) in
    let path : one.path ≡ other.path = path_of one first.place ∙ ap (λ (xs : List ℕ). xs ++ 47 ∷ name_of one.path) parent ∙ ap (λ (xs : List ℕ). parent_of other.path ++ 47 ∷ xs) same
    ∙ sym (path_of other second.place) in
    one_path items parents i j one other p p e f h k l path

-- none of them is one of a directory's own names
pub not_dots : (item : Item) → has_place item.path ≡ true → (name_of item.path ≢ dot) × (name_of item.path ≢ dot_dot)
unfolding has_place
not_dots item e =
    let one = and_parts (is_path item.path) _ e in
    let two = and_parts (nat_le 2 (length item.path)) _ (one.1) in
    let none = not-true (is_dots (name_of item.path)) (two.1) in
    let parts = or_parts (pointwise ◌==◌ (name_of item.path) dot) (pointwise ◌==◌ (name_of item.path) dot_dot) none in (
      (λ same. false≢true (sym (parts.0) ∙ (bytes_eq-Decides (name_of item.path) dot).1 same)),
      (λ same. false≢true (sym (parts.1) ∙ (bytes_eq-Decides (name_of item.path) dot_dot).1 same)),
    )

-- ---- the entries of a directory

pub record IsItemEntry (items : List Item) (parents : List ℕ) (directory inode : ℕ) (entry : DirEntry) : Type 0 where
  pub j : ℕ
  pub item : Item
  pub item_is : slice_get items j ≡ Some item
  pub parent_is : slice_get parents j ≡ Some directory
  pub are : entry ≡ item_entry (inode + j) item

next_entry : (first : Item) (items : List Item) (up : ℕ) (parents : List ℕ) (directory inode : ℕ) (entry : DirEntry) → IsItemEntry items parents directory (suc inode) entry
    → IsItemEntry (first ∷ items) (up ∷ parents) directory inode entry
next_entry first items up parents directory inode entry is = record {
  j = suc is.j;
  item = is.item;
  item_is = is.item_is;
  parent_is = is.parent_is;
  are = is.are ∙ ap (λ (n : ℕ). item_entry n is.item) (let z : suc inode + is.j ≡ inode + suc is.j = omega arith in z);
}

entry_by : (directory inode : ℕ) (first : Item) (items : List Item) (up : ℕ) (parents : List ℕ) (k : ℕ) (entry : DirEntry) (here : Bool) (further : List DirEntry) → (up == directory) ≡ here
    → ((l : ℕ) → slice_get further l ≡ Some entry → IsItemEntry items parents directory (suc inode) entry)
    → slice_get (if here then item_entry inode first ∷ further else further) k ≡ Some entry → IsItemEntry (first ∷ items) (up ∷ parents) directory inode entry
entry_by directory inode first items up parents zero entry true further e rest h = record {
  j = 0;
  item = first;
  item_is = refl;
  parent_is = ap Some (eqb-true up directory e);
  are = sym (same_Some (item_entry inode first) entry h) ∙ ap (λ (n : ℕ). item_entry n first) (let z : inode ≡ inode + 0 = omega arith in z);
}
entry_by directory inode first items up parents (suc k) entry true further e rest h = next_entry first items up parents directory inode entry (rest k h)
entry_by directory inode first items up parents k entry false further e rest h = next_entry first items up parents directory inode entry (rest k h)

pub entry_is : (directory inode : ℕ) (items : List Item) (parents : List ℕ) (k : ℕ) (entry : DirEntry) → slice_get (entries_from directory inode items parents) k ≡ Some entry
    → IsItemEntry items parents directory inode entry
entry_is directory inode [] parents k entry h = absurd (cc h)
entry_is directory inode (first ∷ items) [] k entry h = absurd (cc h)
entry_is directory inode (first ∷ items) (up ∷ parents) k entry h =
    entry_by directory inode first items up parents k entry (up == directory) (entries_from directory (suc inode) items parents) refl
    (λ l e. entry_is directory (suc inode) items parents l entry e) h

order_by : (inode : ℕ) (first : Item) (further : List DirEntry) (k l : ℕ) (one other : DirEntry) (here : Bool) → ((m : ℕ) → slice_get further m ≡ Some other → suc inode ≤ other.inode)
    → ((m n : ℕ) → m < n → slice_get further m ≡ Some one → slice_get further n ≡ Some other → one.inode < other.inode)
    → k < l → slice_get (if here then item_entry inode first ∷ further else further) k ≡ Some one → slice_get (if here then item_entry inode first ∷ further else further) l ≡ Some other
    → one.inode < other.inode
order_by inode first further zero zero one other true low rest less e h = absurd (omega arith)
order_by inode first further zero (suc l) one other true low rest less e h =
    let same : inode ≡ one.inode = ap (λ (x : DirEntry). x.inode) (same_Some (item_entry inode first) one e) in
    let most = low l h in
    omega arith
order_by inode first further (suc k) zero one other true low rest less e h = absurd (omega arith)
order_by inode first further (suc k) (suc l) one other true low rest less e h = rest k l (omega arith) e h
order_by inode first further k l one other false low rest less e h = rest k l less e h

-- later entries have greater inodes
pub entries_order : (directory inode : ℕ) (items : List Item) (parents : List ℕ) (k l : ℕ) (one other : DirEntry) → k < l → slice_get (entries_from directory inode items parents) k ≡ Some one
    → slice_get (entries_from directory inode items parents) l ≡ Some other → one.inode < other.inode
entries_order directory inode [] parents k l one other less e h = absurd (cc e)
entries_order directory inode (first ∷ items) [] k l one other less e h = absurd (cc e)
entries_order directory inode (first ∷ items) (up ∷ parents) k l one other less e h =
    order_by inode first (entries_from directory (suc inode) items parents) k l one other (up == directory)
    (λ m f. let is = entry_is directory (suc inode) items parents m other f in let same : other.inode ≡ suc inode + is.j = ap (λ (x : DirEntry). x.inode) is.are in omega arith)
    (λ m n low f f'. entries_order directory (suc inode) items parents m n one other low f f') less e h
