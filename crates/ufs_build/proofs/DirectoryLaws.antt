-- The entries and the bytes of directories, one after the other.
use Rattle.std.proofs.Common.{◌≡◌, ◌∙◌, ℕ, suc, ◌+◌, ◌<◌, List, [], ◌∷◌, ◌++◌, length, drop, get_or, refl, sym, ap, append_assoc, arith, lit≤}
use Rattle.std.specs.Prelude.{if◌then◌else◌}
use Rattle.std.proofs.lemmas.List.{drop_more}
use Rattle.ufs_model.specs.Chunks.{DirEntry}
use Rattle.ufs_model.specs.declared.numbers.Endian.{Endian}
use Rattle.ufs_build.specs.Directories.{directories_from, directory_bytes, directory_entries, entries_from, entry_if, item_entry}
use Rattle.ufs_build.specs.Entries.{HasRoom}
use Rattle.ufs_build.specs.Items.{is_dir}
use Rattle.ufs_build.specs.declared.items.Item.{Item}

pub five : (o n1 n2 n3 n4 n5 a b c d e : List ℕ) → n1 ≡ o ++ a → n2 ≡ n1 ++ b → n3 ≡ n2 ++ c → n4 ≡ n3 ++ d → n5 ≡ n4 ++ e
    → n5 ≡ o ++ (a ++ (b ++ (c ++ (d ++ e))))
five o n1 n2 n3 n4 n5 a b c d e p q r s t = rw (t, s, r, q, p) (simp append_assoc)

pub entries_begun : (directory k next : ℕ) (items : List Item) (parents : List ℕ) (item : Item) → k < length items → k < length parents
    → item ≡ get_or items k item → next ≡ k + 1
    → entries_from directory (k + 3) (drop k items) (drop k parents)
    ≡ entry_if directory (get_or parents k 0) (item_entry (k + 3) item) (entries_from directory (next + 3) (drop next items) (drop next parents))
entries_begun directory k next items parents item low low' here e =
    let first : drop k items ≡ item ∷ drop next items = rw e (drop_more items k item low ∙ ap (λ x. x ∷ drop (k + 1) items) (sym here)) in
    let second : drop k parents ≡ get_or parents k 0 ∷ drop next parents = rw e (drop_more parents k 0 low') in
    let inode : suc (k + 3) ≡ next + 3 = omega arith in
    rw (first, second, inode) refl

pub directories_begun : (endian : Endian) (all : List Item) (above : List ℕ) (k next : ℕ) (items : List Item) (parents : List ℕ) (item : Item)
    → k < length items → k < length parents → item ≡ get_or items k item → next ≡ k + 1
    → directories_from endian all above (k + 3) (drop k items) (drop k parents)
    ≡ (if is_dir item.kind then directory_bytes endian all above (k + 3) (get_or parents k 0) else [])
    ∷ directories_from endian all above (next + 3) (drop next items) (drop next parents)
directories_begun endian all above k next items parents item low low' here e =
    let first : drop k items ≡ item ∷ drop next items = rw e (drop_more items k item low ∙ ap (λ x. x ∷ drop (k + 1) items) (sym here)) in
    let second : drop k parents ≡ get_or parents k 0 ∷ drop next parents = rw e (drop_more parents k 0 low') in
    let inode : suc (k + 3) ≡ next + 3 = omega arith in
    rw (first, second, inode) refl

pub has_room : (items : List Item) (parents : List ℕ) (directory up : ℕ) (entries : List DirEntry) → entries ≡ directory_entries items parents directory up
    → HasRoom 512 entries
unfolding directory_entries
has_room items parents directory up entries e = rw e (lit≤ tt)

pub two_begun : (none one two rest : List DirEntry) (a b x y : DirEntry) → none ≡ [] → one ≡ none ++ a ∷ [] → two ≡ one ++ b ∷ [] → a ≡ x → b ≡ y
    → two ++ rest ≡ x ∷ y ∷ rest
two_begun none one two rest a b x y e f g p q = rw (g, f, e, p, q) refl

pub one_begun : (none one rest : List (List ℕ)) (a x : List ℕ) → none ≡ [] → one ≡ none ++ a ∷ [] → a ≡ x → one ++ rest ≡ x ∷ rest
one_begun none one rest a x e f p = rw (f, e, p) refl
