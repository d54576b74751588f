-- The paths of a drill's items: each has a place, no two are the same, and each file's directory is there.
use Rattle.std.proofs.Common.{◌≡◌, ◌≢◌, ◌∙◌, ◌==◌, ◌/◌, ◌%◌, ◌+◌, ◌<◌, ◌≤◌, ◌&&◌, not, ℕ, zero, suc, Bool, true, false, List, [], ◌∷◌, ◌++◌, length, map, cond, refl, sym, ap, subst, arith, Some, None}
use Rattle.std.specs.Prelude.{Ok, ◌^◌, if◌then◌else◌, nat_le, nat_lt, slice_get}
use Rattle.std.specs.Cmp.Lexicographic.{pointwise}
use Rattle.std.specs.List.{position, position_or_len, range_with_len}
use Rattle.std.specs.Option.{is_none}
use Rattle.std.proofs.lemmas.Bool.{and_parts, false≢true, ne_eqb}
use Rattle.std.proofs.lemmas.Bool.Decides.{nat_tests}
use Rattle.std.proofs.lemmas.List.{append-nil, append_assoc, length-append, length-map, map_push}
use Rattle.std.proofs.lemmas.List.FromFn.{length-range_with_len}
use Rattle.ufs_model.specs.Chunks.{is_name}
use Rattle.ufs_model.specs.Paths.{is_path, is_path_name}
use Rattle.ufs_build.specs.Items.{directory_at, has_contents, has_place, inode_if_dir, inode_if_found, is_dots, name_of, parent_inode, parent_of, parents_after, parents_of, place_of_path}
use Rattle.ufs_build.specs.declared.items.Item.{Item}
use Rattle.ufs_drill.proofs.ItemLaws.{range_more}
use Rattle.ufs_drill.specs.Items.{bytes_of, byte_of, digit_of, directory_item, directory_path, drill_items, extra_of, file_item, file_path, size_of}

refute : (b : Bool) → (b ≡ true → ⊥) → b ≡ false
refute true never = absurd (never refl)
refute false never = refl

-- ---- places

-- a byte that a name may have
record IsPlain (d : ℕ) : Type 0 where
  zero_not : (d == 0) ≡ false
  slash_not : (d == 47) ≡ false

digit_plain : (n : ℕ) → IsPlain (digit_of n)
digit_plain n = record {
  zero_not = ne_eqb (digit_of n) 0 (λ e. omega (arith, e));
  slash_not = ne_eqb (digit_of n) 47 (λ e. omega (arith, e));
}

names_are : (x a b c d : ℕ) → IsPlain x → IsPlain a → IsPlain b → IsPlain c → IsPlain d
    → has_place (47 ∷ 100 ∷ x ∷ 47 ∷ 102 ∷ a ∷ b ∷ c ∷ d ∷ []) ≡ true
unfolding has_place is_path is_path_name is_name
names_are x a b c d px pa pb pc pd =
    simp (px.slash_not, pa.slash_not, pb.slash_not, pc.slash_not, pd.slash_not, px.zero_not, pa.zero_not, pb.zero_not, pc.zero_not, pd.zero_not) refl

pub file_place : (k : ℕ) → has_place (file_path k) ≡ true
file_place k =
    names_are (digit_of k) (digit_of (k / 1000)) (digit_of (k / 100)) (digit_of (k / 10)) (digit_of k)
    (digit_plain k) (digit_plain (k / 1000)) (digit_plain (k / 100)) (digit_plain (k / 10)) (digit_plain k)

pub file_path_is : (k : ℕ) → is_path (file_path k) ≡ true
unfolding has_place
file_path_is k = (and_parts (is_path (file_path k)) (nat_le 2 (length (file_path k)) && not (is_dots (name_of (file_path k)))) (file_place k)).0

-- what a path begins with
parent_is : (x a b c d : ℕ) → IsPlain x → IsPlain a → IsPlain b → IsPlain c → IsPlain d
    → parent_of (47 ∷ 100 ∷ x ∷ 47 ∷ 102 ∷ a ∷ b ∷ c ∷ d ∷ []) ≡ 47 ∷ 100 ∷ x ∷ []
parent_is x a b c d px pa pb pc pd = simp (px.slash_not, pa.slash_not, pb.slash_not, pc.slash_not, pd.slash_not) refl

file_parent : (k : ℕ) → parent_of (file_path k) ≡ directory_path k
file_parent k =
    parent_is (digit_of k) (digit_of (k / 1000)) (digit_of (k / 100)) (digit_of (k / 10)) (digit_of k)
    (digit_plain k) (digit_plain (k / 1000)) (digit_plain (k / 100)) (digit_plain (k / 10)) (digit_plain k)

-- ---- sizes

pub size_low : (seed k : ℕ) → size_of seed k < 12000 + extra_of k
size_low seed k = omega arith

extra_by : (b : Bool) → (if b then 200000 else 0) ≤ 200000
extra_by true = omega arith
extra_by false = omega arith

pub size_most : (seed k : ℕ) → size_of seed k < 212000
size_most seed k = let e = size_low seed k in let m : extra_of k ≤ 200000 = extra_by (k % 100 == 0) in omega (arith, e, m)

pub bytes_length : (k size : ℕ) → length (bytes_of k size) ≡ size
bytes_length k size = length-map (range_with_len 0 size) (byte_of k) ∙ length-range_with_len 0 size

file_contents : (seed k : ℕ) → has_contents (file_item seed k) ≡ true
unfolding has_contents
file_contents seed k =
    let size = size_most seed k in
    let long = bytes_length k (size_of seed k) in
    let low : nat_lt (length (bytes_of k (size_of seed k))) (2 ^ 32) ≡ true = subst (λ (n : ℕ). nat_lt n (2 ^ 32) ≡ true) (sym long) (let h : size_of seed k < 2 ^ 32 = omega (arith, size) in grind (arith, nat_tests)) in
    rw low refl

-- ---- no two paths are the same

-- a test fails of each item
abbrev AllFail : (Item → Bool) → List Item → Type 0
AllFail test [] = Unit {0}
AllFail test (x ∷ xs) = (test x ≡ false) × AllFail test xs

fail_both : (test : Item → Bool) (xs ys : List Item) → AllFail test xs → AllFail test ys → AllFail test (xs ++ ys)
fail_both test [] ys one other = other
fail_both test (x ∷ xs) ys one other = (one.0, fail_both test xs ys (one.1) other)

fail_range : (test : Item → Bool) (f : ℕ → Item) (from n : ℕ) → ((j : ℕ) → from ≤ j → j < from + n → test (f j) ≡ false) → AllFail test (map f (range_with_len from n))
fail_range test f from zero each = tt
fail_range test f from (suc n) each = (each from (omega arith) (omega arith), fail_range test f (from + 1) n (λ j low high. each j (omega arith) (omega arith)))

first_past : (test : Item → Bool) (xs : List Item) → AllFail test xs → position_or_len test xs ≡ length xs
first_past test [] none = refl
first_past test (x ∷ xs) none = rw (none.0) (ap (λ (n : ℕ). 1 + n) (first_past test xs (none.1)) ∙ (let e : 1 + length xs ≡ suc (length xs) = omega arith in e))

not_self : (n : ℕ) → nat_lt n n ≡ false
not_self n = grind (arith, nat_tests)

none_first : (test : Item → Bool) (xs : List Item) → AllFail test xs → is_none (position test xs) ≡ true
none_first test xs none = let past = first_past test xs none in rw (past, not_self (length xs)) refl

same_digit : (a b : ℕ) → (a == b) ≡ true → a ≡ b
same_digit a b e = grind (arith, nat_tests)

directory_differs : (d x : ℕ) (more : List ℕ) → pointwise ◌==◌ (47 ∷ 100 ∷ d ∷ []) (47 ∷ 100 ∷ x ∷ 47 ∷ more) ≡ false
directory_differs d x more = refute (pointwise ◌==◌ (47 ∷ 100 ∷ d ∷ []) (47 ∷ 100 ∷ x ∷ 47 ∷ more)) (λ same. false≢true ((and_parts (d == x) false same).1))

-- the digits of two equal paths
record SameDigits (a b c d a' b' c' d' : ℕ) : Type 0 where
  one : a ≡ a'
  two : b ≡ b'
  three : c ≡ c'
  four : d ≡ d'

digits_same : (x a b c d x' a' b' c' d' : ℕ)
    → pointwise ◌==◌ (47 ∷ 100 ∷ x ∷ 47 ∷ 102 ∷ a ∷ b ∷ c ∷ d ∷ []) (47 ∷ 100 ∷ x' ∷ 47 ∷ 102 ∷ a' ∷ b' ∷ c' ∷ d' ∷ []) ≡ true
    → SameDigits a b c d a' b' c' d'
digits_same x a b c d x' a' b' c' d' same =
    let behind = (and_parts (x == x') ((a == a') && ((b == b') && ((c == c') && ((d == d') && true)))) same).1 in
    let p = and_parts (a == a') ((b == b') && ((c == c') && ((d == d') && true))) behind in
    let q = and_parts (b == b') ((c == c') && ((d == d') && true)) p.1 in
    let r = and_parts (c == c') ((d == d') && true) q.1 in
    let s = and_parts (d == d') true r.1 in
    record { one = same_digit a a' p.0; two = same_digit b b' q.0; three = same_digit c c' r.0; four = same_digit d d' s.0 }

same_number : (j k : ℕ) → j < 10000 → k < 10000 → SameDigits (digit_of (j / 1000)) (digit_of (j / 100)) (digit_of (j / 10)) (digit_of j) (digit_of (k / 1000)) (digit_of (k / 100)) (digit_of (k / 10)) (digit_of k) → j ≡ k
same_number j k low high same =
    let one = same.one in
    let two = same.two in
    let three = same.three in
    let four = same.four in
    omega (arith, one, two, three, four)

file_differs : (j k : ℕ) → j < k → k < 10000 → pointwise ◌==◌ (file_path j) (file_path k) ≡ false
file_differs j k less high = refute (pointwise ◌==◌ (file_path j) (file_path k)) (λ same.
    let equal : j ≡ k = same_number j k (omega arith) high (digits_same (digit_of j) (digit_of (j / 1000)) (digit_of (j / 100)) (digit_of (j / 10)) (digit_of j)
    (digit_of k) (digit_of (k / 1000)) (digit_of (k / 100)) (digit_of (k / 10)) (digit_of k) same) in
    omega (arith, equal, less))

-- ---- parents

-- the directories
abbrev pub ten : List Item
ten = map directory_item (range_with_len 0 10)

abbrev pub files_to : ℕ → ℕ → List Item
files_to seed k = map (file_item seed) (range_with_len 0 k)

file_fresh : (seed k : ℕ) → k < 10000 → is_none (place_of_path (ten ++ files_to seed k) (file_path k)) ≡ true
file_fresh seed k low =
    none_first (λ item. pointwise ◌==◌ item.path (file_path k)) (ten ++ files_to seed k)
    (fail_both (λ item. pointwise ◌==◌ item.path (file_path k)) ten (files_to seed k)
    (fail_range (λ item. pointwise ◌==◌ item.path (file_path k)) directory_item 0 10 (λ j from to. directory_differs (digit_of j) (digit_of k) (102 ∷ digit_of (k / 1000) ∷ digit_of (k / 100) ∷ digit_of (k / 10) ∷ digit_of k ∷ [])))
    (fail_range (λ item. pointwise ◌==◌ item.path (file_path k)) (file_item seed) 0 k (λ j from to. file_differs j k (omega arith) low)))

-- the place of the directory with digit r
directory_first : (r : ℕ) (rest : List Item) → r < 10 → position_or_len (λ item. pointwise ◌==◌ item.path (47 ∷ 100 ∷ (48 + r) ∷ [])) (ten ++ rest) ≡ r
directory_first zero rest low = refl
directory_first (suc zero) rest low = refl
directory_first (suc (suc zero)) rest low = refl
directory_first (suc (suc (suc zero))) rest low = refl
directory_first (suc (suc (suc (suc zero)))) rest low = refl
directory_first (suc (suc (suc (suc (suc zero))))) rest low = refl
directory_first (suc (suc (suc (suc (suc (suc zero)))))) rest low = refl
directory_first (suc (suc (suc (suc (suc (suc (suc zero))))))) rest low = refl
directory_first (suc (suc (suc (suc (suc (suc (suc (suc zero)))))))) rest low = refl
directory_first (suc (suc (suc (suc (suc (suc (suc (suc (suc zero))))))))) rest low = refl
directory_first (suc (suc (suc (suc (suc (suc (suc (suc (suc (suc r)))))))))) rest low = absurd (omega arith)

pub directory_get : (r : ℕ) (rest : List Item) → r < 10 → slice_get (ten ++ rest) r ≡ Some (directory_item r)
directory_get zero rest low = refl
directory_get (suc zero) rest low = refl
directory_get (suc (suc zero)) rest low = refl
directory_get (suc (suc (suc zero))) rest low = refl
directory_get (suc (suc (suc (suc zero)))) rest low = refl
directory_get (suc (suc (suc (suc (suc zero))))) rest low = refl
directory_get (suc (suc (suc (suc (suc (suc zero)))))) rest low = refl
directory_get (suc (suc (suc (suc (suc (suc (suc zero))))))) rest low = refl
directory_get (suc (suc (suc (suc (suc (suc (suc (suc zero)))))))) rest low = refl
directory_get (suc (suc (suc (suc (suc (suc (suc (suc (suc zero))))))))) rest low = refl
directory_get (suc (suc (suc (suc (suc (suc (suc (suc (suc (suc r)))))))))) rest low = absurd (omega arith)

directory_place : (r : ℕ) (rest : List Item) → r < 10 → place_of_path (ten ++ rest) (47 ∷ 100 ∷ (48 + r) ∷ []) ≡ Some r
directory_place r rest low =
    let long = length-append ten rest in
    let inside : nat_lt r (length (ten ++ rest)) ≡ true = let h : r < length (ten ++ rest) = omega (arith, long, low) in grind (arith, nat_tests) in
    ap (λ (p : ℕ). cond (nat_lt p (length (ten ++ rest))) (Some p) None) (directory_first r rest low) ∙ ap (λ (b : Bool). cond b (Some r) None) inside

-- the directory with digit r is there
directory_there : (r : ℕ) (rest : List Item) → r < 10 → directory_at (ten ++ rest) (47 ∷ 100 ∷ (48 + r) ∷ []) ≡ Some (3 + r)
unfolding directory_at
directory_there r rest low =
    ap (inode_if_found (ten ++ rest)) (directory_place r rest low) ∙ ap (inode_if_dir r) (directory_get r rest low) ∙ (let e : Some (r + 3) ≡ Some (3 + r) = ap Some (let n : r + 3 ≡ 3 + r = omega arith in n) in e)

-- a file stands in the directory of its last digit
file_stands : (seed k : ℕ) → k < 10000 → parent_inode (ten ++ files_to seed k) (file_item seed k) ≡ Some (3 + k % 10)
unfolding parent_inode
file_stands seed k low =
    let there : directory_at (ten ++ files_to seed k) (parent_of (file_path k)) ≡ Some (3 + k % 10) =
    ap (directory_at (ten ++ files_to seed k)) (file_parent k) ∙ directory_there (k % 10) (files_to seed k) (omega arith) in
    rw (file_place k, file_contents seed k, file_fresh seed k low) there

next_parent : (before : List Item) (item : Item) (items : List Item) (p : ℕ) (ps : List ℕ) → parent_inode before item ≡ Some p
    → parents_after (before ++ item ∷ []) items ≡ Ok ps → parents_after before (item ∷ items) ≡ Ok (p ∷ ps)
next_parent before item items p ps here later = rw (here, later) refl

files_stand : (seed k n : ℕ) → k + n ≤ 10000 → parents_after (ten ++ files_to seed k) (map (file_item seed) (range_with_len k n)) ≡ Ok (map (λ j. 3 + j % 10) (range_with_len k n))
files_stand seed k zero few = refl
files_stand seed k (suc n) few =
    let more : (ten ++ files_to seed k) ++ file_item seed k ∷ [] ≡ ten ++ files_to seed (k + 1) =
    append_assoc ten (files_to seed k) (file_item seed k ∷ []) ∙ ap (λ l. ten ++ l) (sym (map_push (file_item seed) (range_with_len 0 k) k) ∙ ap (map (file_item seed)) (sym (range_more k))) in
    let later = files_stand seed (k + 1) n (omega arith) in
    next_parent (ten ++ files_to seed k) (file_item seed k) (map (file_item seed) (range_with_len (k + 1) n)) (3 + k % 10) (map (λ j. 3 + j % 10) (range_with_len (k + 1) n))
    (file_stands seed k (omega arith)) (ap (λ l. parents_after l (map (file_item seed) (range_with_len (k + 1) n))) more ∙ later)

-- the root has the ten directories, and each of them its files
abbrev pub parent_list : ℕ → List ℕ
parent_list files = 2 ∷ 2 ∷ 2 ∷ 2 ∷ 2 ∷ 2 ∷ 2 ∷ 2 ∷ 2 ∷ 2 ∷ map (λ j. 3 + j % 10) (range_with_len 0 files)

directory_stands : (x : ℕ) → x < 10 → parent_inode (map directory_item (range_with_len 0 x)) (directory_item x) ≡ Some 2
unfolding parent_inode has_place has_contents directory_at is_path is_path_name is_name
directory_stands zero low = refl
directory_stands (suc zero) low = refl
directory_stands (suc (suc zero)) low = refl
directory_stands (suc (suc (suc zero))) low = refl
directory_stands (suc (suc (suc (suc zero)))) low = refl
directory_stands (suc (suc (suc (suc (suc zero))))) low = refl
directory_stands (suc (suc (suc (suc (suc (suc zero)))))) low = refl
directory_stands (suc (suc (suc (suc (suc (suc (suc zero))))))) low = refl
directory_stands (suc (suc (suc (suc (suc (suc (suc (suc zero)))))))) low = refl
directory_stands (suc (suc (suc (suc (suc (suc (suc (suc (suc zero))))))))) low = refl
directory_stands (suc (suc (suc (suc (suc (suc (suc (suc (suc (suc x)))))))))) low = absurd (omega arith)

abbrev twos : ℕ → List ℕ
twos zero = []
twos (suc n) = 2 ∷ twos n

-- the directories from number x on, and what comes behind them
directories_stand : (x : ℕ) (n : ℕ) (rest : List Item) (ps : List ℕ) → x + n ≡ 10 → parents_after ten rest ≡ Ok ps
    → parents_after (map directory_item (range_with_len 0 x)) (map directory_item (range_with_len x n) ++ rest) ≡ Ok (twos n ++ ps)
directories_stand x zero rest ps all later = let e : x ≡ 10 = omega arith in subst (λ (m : ℕ). parents_after (map directory_item (range_with_len 0 m)) rest ≡ Ok ps) (sym e) later
directories_stand x (suc n) rest ps all later =
    let more : map directory_item (range_with_len 0 x) ++ directory_item x ∷ [] ≡ map directory_item (range_with_len 0 (x + 1)) =
    sym (map_push directory_item (range_with_len 0 x) x) ∙ ap (map directory_item) (sym (range_more x)) in
    next_parent (map directory_item (range_with_len 0 x)) (directory_item x) (map directory_item (range_with_len (x + 1) n) ++ rest) 2 (twos n ++ ps)
    (directory_stands x (omega arith)) (ap (λ l. parents_after l (map directory_item (range_with_len (x + 1) n) ++ rest)) more ∙ directories_stand (x + 1) n rest ps (omega arith) later)

-- each item of a drill stands in its directory
pub parents_are : (seed files : ℕ) → files ≤ 10000 → parents_of (drill_items seed files) ≡ Ok (parent_list files)
unfolding parents_of
parents_are seed files few = directories_stand 0 10 (files_to seed files) (map (λ j. 3 + j % 10) (range_with_len 0 files)) refl
    (ap (λ l. parents_after l (files_to seed files)) (let e : ten ≡ ten ++ [] = sym (append-nil ten) in e) ∙ files_stand seed 0 files (omega arith))
