-- The entries of a directory name its items.
use Rattle.std.proofs.Common.{◌≡◌, ◌∙◌, ℕ, suc, ◌+◌, ◌^◌, ◌<◌, ◌≤◌, ◌||◌, ◌==◌, Bool, true, false, List, [], ◌∷◌, length, refl, sym, ap, arith}
use Rattle.std.specs.Prelude.{if◌then◌else◌, nat_le}
use Rattle.std.specs.List.{list_all, list_any}
use Rattle.std.proofs.lemmas.Bool.{and_parts, false≢true, leb-true, or_parts}
use Rattle.ufs_model.specs.Chunks.{DirEntry, is_name}
use Rattle.ufs_model.specs.Paths.{in_part, is_path, is_path_name, parts_of}
use Rattle.ufs_model.specs.declared.numbers.Endian.{Endian}
use Rattle.ufs_build.specs.Directories.{directory_bytes, directory_entries, entries_from, entry_if, item_entry}
use Rattle.ufs_build.specs.Items.{dot, dot_dot, has_place, is_slash, name_of}
use Rattle.ufs_build.specs.declared.items.Item.{Item}
use Rattle.ufs_image_laws.proofs.ChunkLaws.{IsGoodEntry}
use Rattle.ufs_image_laws.proofs.DirectoryReads.{AreChunks, are_chunks}
use Rattle.ufs_image_laws.proofs.ItemLaws.{IsGoodItem}
use Rattle.ufs_image_laws.proofs.ListLaws.{Each}

-- ---- the name of a path is its last part

last_of : List (List ℕ) → List ℕ
last_of [] = []
last_of (p ∷ []) = p
last_of (p ∷ q ∷ rest) = last_of (q ∷ rest)

pub record AreSome (parts : List (List ℕ)) : Type 0 where
  pub first : List ℕ
  pub others : List (List ℕ)
  pub are : parts ≡ first ∷ others

record AreTwo (parts : List (List ℕ)) : Type 0 where
  first : List ℕ
  second : List ℕ
  others : List (List ℕ)
  are : parts ≡ first ∷ second ∷ others

some_by : (slash : Bool) (b : ℕ) (parts : List (List ℕ)) → AreSome (if slash then [] ∷ parts else in_part b parts)
some_by true b parts = record { first = []; others = parts; are = refl }
some_by false b [] = record { first = b ∷ []; others = []; are = refl }
some_by false b (p ∷ parts) = record { first = b ∷ p; others = parts; are = refl }

pub some_parts : (xs : List ℕ) → AreSome (parts_of xs)
some_parts [] = record { first = []; others = []; are = refl }
some_parts (b ∷ xs) = some_by (b == 47) b (parts_of xs)

pub no_slash : (xs : List ℕ) → list_any is_slash xs ≡ false → parts_of xs ≡ xs ∷ []
no_slash [] e = refl
no_slash (b ∷ xs) e =
    let tests = or_parts (b == 47) (list_any is_slash xs) e in
    let rest = no_slash xs (tests.1) in
    rw (tests.0, rest) refl

two_by : (slash : Bool) (b : ℕ) (xs : List ℕ) → (slash || list_any is_slash xs) ≡ true → (list_any is_slash xs ≡ true → AreTwo (parts_of xs))
    → AreTwo (if slash then [] ∷ parts_of xs else in_part b (parts_of xs))
two_by true b xs e rest = let some = some_parts xs in record { first = []; second = some.first; others = some.others; are = ap (λ (ps : List (List ℕ)). [] ∷ ps) some.are }
two_by false b xs e rest = let two = rest e in record { first = b ∷ two.first; second = two.second; others = two.others; are = ap (in_part b) two.are }

two_parts : (xs : List ℕ) → list_any is_slash xs ≡ true → AreTwo (parts_of xs)
two_parts [] e = absurd (false≢true e)
two_parts (b ∷ xs) e = two_by (b == 47) b xs e (two_parts xs)

last_slash : (parts : List (List ℕ)) → AreSome parts → last_of ([] ∷ parts) ≡ last_of parts
unfolding last_of
last_slash parts is = rw is.are refl

last_part : (b : ℕ) (parts : List (List ℕ)) → AreTwo parts → last_of (in_part b parts) ≡ last_of parts
unfolding last_of
last_part b parts is = rw is.are refl

last_more : (slash : Bool) (c : ℕ) (ys : List ℕ) → (slash || list_any is_slash ys) ≡ true → last_of (if slash then [] ∷ parts_of ys else in_part c (parts_of ys)) ≡ last_of (parts_of ys)
last_more true c ys e = last_slash (parts_of ys) (some_parts ys)
last_more false c ys e = last_part c (parts_of ys) (two_parts ys e)

last_alone : (xs : List ℕ) → last_of (xs ∷ []) ≡ xs
unfolding last_of
last_alone xs = refl

name_is_last : (b : ℕ) (xs : List ℕ) → name_of (b ∷ xs) ≡ last_of (parts_of xs)
name_is_last b [] = sym (last_alone [])
name_is_last b (c ∷ ys) =
    last_by (list_any is_slash (c ∷ ys)) (c ∷ ys) (name_of (c ∷ ys)) refl (λ e. name_is_last c ys ∙ sym (last_more (c == 47) c ys e))
  where
    last_by : (more : Bool) (xs name : List ℕ) → list_any is_slash xs ≡ more → (more ≡ true → name ≡ last_of (parts_of xs)) → (if more then name else xs) ≡ last_of (parts_of xs)
    last_by true xs name e further = further refl
    last_by false xs name e further = sym (ap last_of (no_slash xs e) ∙ last_alone xs)

last_passes : (test : List ℕ → Bool) (parts : List (List ℕ)) → AreSome parts → list_all test parts ≡ true → test (last_of parts) ≡ true
unfolding last_of
last_passes test [] is e = absurd (let clash : [] ≡ is.first ∷ is.others = is.are in cc clash)
last_passes test (p ∷ []) is e = (and_parts (test p) _ e).0
last_passes test (p ∷ q ∷ rest) is e = last_passes test (q ∷ rest) (record { first = q; others = rest; are = refl }) ((and_parts (test p) _ e).1)

path_name : (path : List ℕ) → is_path path ≡ true → 2 ≤ length path → is_path_name (name_of path) ≡ true
unfolding is_path
path_name [] e long = absurd (false≢true e)
path_name (b ∷ bytes) e long =
    let one = and_parts (b == 47) _ e in
    let two = and_parts (nat_le (length (b ∷ bytes)) 1023) _ (one.1) in
    let all : list_all is_path_name (parts_of bytes) ≡ true = names_by (nat_le (length (b ∷ bytes)) 1) (list_all is_path_name (parts_of bytes)) (length bytes) (two.1) refl (omega arith) in
    ap is_path_name (name_is_last b bytes) ∙ last_passes is_path_name (parts_of bytes) (some_parts bytes) all
  where
    names_by : (root names : Bool) (n : ℕ) → (root || names) ≡ true → nat_le (suc n) 1 ≡ root → 1 ≤ n → names ≡ true
    names_by true names n e f long = absurd (let h = leb-true (suc n) 1 f in omega arith)
    names_by false names n e f long = e

-- the name of an item
pub record IsGoodName (name : List ℕ) : Type 0 where
  pub is : is_name name ≡ true
  pub short : length name ≤ 255

pub item_name : (item : Item) → IsGoodItem item → IsGoodName (name_of item.path)
unfolding has_place is_path_name
item_name item good =
    let one = and_parts (is_path item.path) _ good.place in
    let two = and_parts (nat_le 2 (length item.path)) _ (one.1) in
    let name = and_parts (is_name (name_of item.path)) _ (path_name item.path (one.0) (leb-true 2 (length item.path) (two.0))) in
    record { is = name.0; short = leb-true (length (name_of item.path)) 255 (name.1) }

-- ---- the entries

good_if : (wanted parent : ℕ) (entry : DirEntry) (further : List DirEntry) → IsGoodEntry entry → Each IsGoodEntry further → Each IsGoodEntry (entry_if wanted parent entry further)
good_if wanted parent entry further good others = good_by (parent == wanted) entry further good others
  where
    good_by : (here : Bool) (entry : DirEntry) (further : List DirEntry) → IsGoodEntry entry → Each IsGoodEntry further → Each IsGoodEntry (if here then entry ∷ further else further)
    good_by true entry further good others = (good, others)
    good_by false entry further good others = others

good_entries : (directory inode : ℕ) (items : List Item) (parents : List ℕ) → Each IsGoodItem items → 1 ≤ inode → inode + length items < 2 ^ 32
    → Each IsGoodEntry (entries_from directory inode items parents)
good_entries directory inode [] parents good some small = tt
good_entries directory inode (item ∷ items) [] good some small = tt
good_entries directory inode (item ∷ items) (parent ∷ parents) good some small =
    let name = item_name item (good.0) in
    good_if directory parent (item_entry inode item) (entries_from directory (suc inode) items parents)
    (record { some = λ e. omega arith; small = omega arith; name = name.is; short = name.short })
    (good_entries directory (suc inode) items parents (good.1) (omega arith) (omega arith))

dot_good : (inode : ℕ) → 1 ≤ inode → inode < 2 ^ 32 → IsGoodEntry (record { inode = inode; kind = 4; name = dot })
unfolding is_name
dot_good inode some small = record { some = λ e. omega arith; small = small; name = refl; short = omega arith }

dot_dot_good : (inode : ℕ) → 1 ≤ inode → inode < 2 ^ 32 → IsGoodEntry (record { inode = inode; kind = 4; name = dot_dot })
unfolding is_name
dot_dot_good inode some small = record { some = λ e. omega arith; small = small; name = refl; short = omega arith }

pub directory_good : (items : List Item) (parents : List ℕ) (directory up : ℕ) → Each IsGoodItem items → 1 ≤ directory → directory < 2 ^ 32 → 1 ≤ up → up < 2 ^ 32
    → 3 + length items < 2 ^ 32 → Each IsGoodEntry (directory_entries items parents directory up)
unfolding directory_entries
directory_good items parents directory up good one small two small' few =
    (dot_good directory one small, (dot_dot_good up two small', good_entries directory 3 items parents good (omega arith) few))

pub directory_chunks : (endian : Endian) (items : List Item) (parents : List ℕ) (directory up : ℕ) → Each IsGoodEntry (directory_entries items parents directory up)
    → AreChunks endian (directory_entries items parents directory up) (directory_bytes endian items parents directory up)
unfolding directory_bytes
directory_chunks endian items parents directory up good =
    are_chunks endian (length (directory_entries items parents directory up)) (directory_entries items parents directory up)
    (let r : length (directory_entries items parents directory up) ≤ length (directory_entries items parents directory up) = omega arith in r) good
