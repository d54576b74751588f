-- Parts that are put one after the other.
use Rattle.std.proofs.Common.{◌≡◌, ◌∙◌, ℕ, suc, ◌+◌, ◌-◌, ◌*◌, ◌<◌, ◌≤◌, List, [], ◌∷◌, ◌++◌, length, take, drop, get_or, refl, sym, ap, arith, append_assoc}
use Rattle.std.specs.List.{flat_map, range_with_len}
use Rattle.std.proofs.lemmas.List.{append-nil, drop_all, drop_more, take_all}
use Rattle.ufs_model.specs.declared.geometries.Geometry.{Geometry}
use Rattle.ufs_build.specs.Images.{block_parts, file_parts, first_below, inode_parts, inode_place, pointer_parts}
use Rattle.ufs_build.specs.Parts.{Part, number_bytes, put_at, put_parts}
use Rattle.ufs_build.specs.Placements.{Addresses, address_at}
use Rattle.ufs_build.specs.Placings.{file_of, files_of}
use Rattle.ufs_build.specs.declared.files.Node.{Node}
use Rattle.ufs_build.proofs.Ranges.{range_more}

pub joined : (one other : List Part) (bytes : List ℕ) → put_parts (one ++ other) bytes ≡ put_parts other (put_parts one bytes)
joined [] other bytes = refl
joined (part ∷ one) other bytes = joined one other (put_at part.at part.bytes bytes)

flat_joined : {A : Type 0} (f : A → List Part) (xs : List A) (x : A) → flat_map f (xs ++ x ∷ []) ≡ flat_map f xs ++ f x
flat_joined f [] x = append-nil (f x)
flat_joined f (y ∷ xs) x = ap (λ r. f y ++ r) (flat_joined f xs x) ∙ sym (append_assoc (f y) (flat_map f xs) (f x))

-- one more of the parts that a function gives
pub given_parts : (f : ℕ → List Part) (n : ℕ) (start old new : List ℕ) → old ≡ put_parts (flat_map f (range_with_len 0 n)) start → new ≡ put_parts (f n) old
    → new ≡ put_parts (flat_map f (range_with_len 0 (n + 1))) start
given_parts f n start old new e more =
    more ∙ ap (put_parts (f n)) e ∙ sym (joined (flat_map f (range_with_len 0 n)) (f n) start)
    ∙ ap (λ parts. put_parts parts start) (sym (ap (flat_map f) (range_more n) ∙ flat_joined f (range_with_len 0 n) n))

-- fields, and then two parts
pub group_put : (fields : List Part) (one other : Part) (i0 i1 i2 i3 : List ℕ) → i1 ≡ put_parts fields i0 → i2 ≡ put_at one.at one.bytes i1
    → i3 ≡ put_at other.at other.bytes i2 → i3 ≡ put_parts (fields ++ one ∷ other ∷ []) i0
group_put fields one other i0 i1 i2 i3 e f h = rw (h, f, e) (sym (joined fields (one ∷ other ∷ []) i0))

-- ---- pointers

pub pointer_put : (g : Geometry) (addresses : Addresses) (level index i address first pointer : ℕ) (old new : List ℕ) → address ≡ address_at addresses level index
    → first ≡ first_below level + index * g.nindir → pointer ≡ address_at addresses (level - 1) (first + i)
    → new ≡ put_at (address * g.fsize + 4 * i) (number_bytes g.endian 4 pointer) old → new ≡ put_parts (pointer_parts g addresses level index i) old
pointer_put g addresses level index i address first pointer old new here from told put =
    put
    ∙ ap (λ p. put_at (address * g.fsize + 4 * i) (number_bytes g.endian 4 p) old) (told ∙ ap (λ f. address_at addresses (level - 1) (f + i)) from)
    ∙ ap (λ a. put_at (a * g.fsize + 4 * i) (number_bytes g.endian 4 (address_at addresses (level - 1) (first_below level + index * g.nindir + i))) old) here

-- ---- files

pub file_step : (g : Geometry) (nodes : List Node) (files : List Addresses) (k next : ℕ) (node : Node) (addresses : Addresses) (old new : List ℕ)
    → k < length nodes → k < length files → node ≡ get_or nodes k node → addresses ≡ get_or files k addresses → next ≡ k + 1
    → new ≡ put_parts (block_parts g (file_of node) addresses) (put_parts (inode_parts g (inode_place g (k + 2)) (file_of node) addresses) old)
    → put_parts (file_parts g (next + 2) (files_of (drop next nodes)) (drop next files)) new
    ≡ put_parts (file_parts g (k + 2) (files_of (drop k nodes)) (drop k files)) old
file_step g nodes files k next node addresses old new low low' here there e put =
    let first : drop k nodes ≡ node ∷ drop next nodes = rw e (drop_more nodes k node low ∙ ap (λ x. x ∷ drop (k + 1) nodes) (sym here)) in
    let second : drop k files ≡ addresses ∷ drop next files = rw e (drop_more files k addresses low' ∙ ap (λ x. x ∷ drop (k + 1) files) (sym there)) in
    let inode : suc (k + 2) ≡ next + 2 = omega arith in
    let one = inode_parts g (inode_place g (k + 2)) (file_of node) addresses in
    let two = block_parts g (file_of node) addresses in
    let others = file_parts g (next + 2) (files_of (drop next nodes)) (drop next files) in
    let whole : put_parts (file_parts g (k + 2) (files_of (drop k nodes)) (drop k files)) old ≡ put_parts ((one ++ two) ++ others) old = rw (first, second, inode) refl in
    ap (put_parts others) (put ∙ sym (joined one two old)) ∙ sym (joined (one ++ two) others old) ∙ sym whole

-- ---- three in a row

pub three_put : (one two three : List Part) (i0 i1 i2 i3 : List ℕ) → i1 ≡ put_parts one i0 → i2 ≡ put_parts two i1 → i3 ≡ put_parts three i2
    → i3 ≡ put_parts ((one ++ two) ++ three) i0
three_put one two three i0 i1 i2 i3 e f h =
    h ∙ ap (put_parts three) (f ∙ ap (put_parts two) e ∙ sym (joined one two i0)) ∙ sym (joined (one ++ two) three i0)

-- what was put in all of a list
pub all_put : (n : ℕ) (old new : List ℕ) → length old ≡ n → length new ≡ length old → take n (new ++ drop (length new) old) ≡ new
all_put n old new e f = rw (drop_all (length new) old (let h : length old ≤ length new = omega arith in h), append-nil new) (take_all n new (omega arith))
