-- What is kept of inodes, one entry and one directory after another.
use Rattle.std.proofs.Common.{◌≡◌, ◌∙◌, ◌+◌, ◌*◌, ◌<◌, ◌≤◌, inl, inr, ℕ, zero, suc, Bool, true, false, List, [], ◌∷◌, ◌++◌, Option, Some, None, Ok, refl, sym, ap, subst, arith, length}
use Rattle.std.specs.Prelude.{◌==◌, ◌&&◌, ◌||◌, if◌then◌else◌, MatchOption, map, nat_le, nat_lt, slice_get}
use Rattle.std.specs.BTreeMap.{BTreeMap, IsOrdered, is_at}
use Rattle.std.specs.Cmp.{nat_cmp_is}
use Rattle.std.specs.Map.{keys_of}
use Rattle.std.specs.Ordering.{is_eq, nat_cmp}
use Rattle.std.specs.declared.cmp.Ordering.TheVariants.{Less, Greater}
use Rattle.std.specs.List.Sorted.{IsStrictlyIncreasing}
use Rattle.std.proofs.lemmas.List.Elements.{All-contains, All-map}
use Rattle.std.proofs.lemmas.Map.Keys.{IsStrictlyIncreasing-from_sorted}
use Rattle.std.proofs.lemmas.Map.Views.{Contains-from_lookup}
use Rattle.std.specs.Bool.{Decides}
use Rattle.std.specs.Cmp.Lexicographic.{pointwise}
use Rattle.std.specs.List.{All, Contains}
use Rattle.std.specs.Option.{is_some}
use Rattle.std.proofs.lemmas.Bool.{and_parts, cases_Bool, cases_order}
use Rattle.std.proofs.lemmas.Bool.Decides.{Decides-and, Decides-eqb, Decides-like, Decides-not, Decides-or, nat_tests}
use Rattle.std.proofs.lemmas.List.Folds.{Any-from_list_any, list_any-append, list_any_at}
use Rattle.std.proofs.lemmas.Option.{get_or_from_slice_get, slice_get_read, slice_get_within}
use Rattle.std.proofs.lemmas.Slice.Eq.{bytes_eq-Decides}
use Rattle.dg_model.specs.declared.parents.Parent.{Parent}
use Rattle.ufs_model.specs.Blocks.{Volume}
use Rattle.ufs_model.specs.Chunks.{DirEntry}
use Rattle.ufs_model.specs.Inodes.{inode_of, kind_of}
use Rattle.ufs_model.specs.Malformations.{HasEntries, IsParent, IsPlain, PlainAt, dot, dot_dot, inode_at}
use Rattle.ufs_model.specs.Paths.{entries_before, entries_of}
use Rattle.ufs_model.specs.Trees.{is_plain}
use Rattle.ufs_model.specs.declared.geometries.Geometry.{Geometry}
use Rattle.ufs_model.specs.declared.inodes.Inode.{Inode}
use Rattle.ufs_model.specs.declared.inodes.Kind.TheVariants.{Directory}
use Rattle.ufs_path.proofs.RunLaws.{before_first}
use Rattle.ufs_path.specs.declared.naming.NamingTable.{NamingTable}
use Rattle.ufs_path.specs.Parents.{AddsEntries, AddsEntry, AreKept, AreParentsBy, Enters, IsKept, KeptAre, directory_kept, kept_in, kept_with, names_inode, parent_of}

-- ---- entries one after another

kept_both_by : (i : ℕ) (xs ys : List DirEntry) (n : ℕ) (x : Bool) → names_inode xs n ≡ x
    → (if (x || names_inode ys n) then Some i else None) ≡ kept_with i ys (if x then Some i else None) n
kept_both_by i xs ys n true is = refl
kept_both_by i xs ys n false is = refl

kept_both : (i : ℕ) (xs ys : List DirEntry) (o : Option ℕ) (n : ℕ) → kept_with i (xs ++ ys) o n ≡ kept_with i ys (kept_with i xs o n) n
kept_both i xs ys (Some d) n = refl
kept_both i xs ys None n =
    ap (λ (b : Bool). if b then Some i else None) (list_any-append (λ entry. is_plain entry && (entry.inode == n)) xs ys)
    ∙ kept_both_by i xs ys n (names_inode xs n) refl

kept_none : (i : ℕ) (o : Option ℕ) (n : ℕ) → o ≡ kept_with i [] o n
kept_none i (Some d) n = refl
kept_none i None n = refl

pub adds_none : (i : ℕ) (kept : ℕ → Option ℕ) → AddsEntries i [] kept kept
adds_none i kept n = kept_none i (kept n) n

pub adds_both : (i : ℕ) (xs ys : List DirEntry) (a b c : ℕ → Option ℕ) → AddsEntries i xs a b → AddsEntries i ys b c → AddsEntries i (xs ++ ys) a c
adds_both i xs ys a b c first second n =
    second n ∙ ap (λ o. kept_with i ys o n) (first n) ∙ sym (kept_both i xs ys (a n) n)

-- one entry
one_by : (i n : ℕ) (entry : DirEntry) (old : ℕ → Option ℕ) (b : Bool) → (is_plain entry && (entry.inode == n)) ≡ b
    → (if b then Some (directory_kept (old entry.inode) i) else old n) ≡ kept_with i (entry ∷ []) (old n) n
one_by i n entry old true is =
    let same : entry.inode ≡ n = (Decides-eqb entry.inode n).0 ((and_parts (is_plain entry) (entry.inode == n) is).1) in
    ap (λ (m : ℕ). Some (directory_kept (old m) i)) same ∙ with_true (old n)
  where
    named : names_inode (entry ∷ []) n ≡ true
    named = ap (λ (v : Bool). v || false) is

    with_true : (o : Option ℕ) → Some (directory_kept o i) ≡ kept_with i (entry ∷ []) o n
    with_true (Some d) = refl
    with_true None = sym (ap (λ (v : Bool). if v then Some i else None) named)
one_by i n entry old false is = with_false (old n)
  where
    named : names_inode (entry ∷ []) n ≡ false
    named = ap (λ (v : Bool). v || false) is

    with_false : (o : Option ℕ) → o ≡ kept_with i (entry ∷ []) o n
    with_false (Some d) = refl
    with_false None = sym (ap (λ (v : Bool). if v then Some i else None) named)

pub adds_one : (i : ℕ) (entry : DirEntry) (old new : BTreeMap ℕ ℕ) → AddsEntry i entry old new → AddsEntries i (entry ∷ []) (kept_in old) (kept_in new)
adds_one i entry old new adds n = adds n ∙ one_by i n entry (kept_in old) (is_plain entry && (entry.inode == n)) refl

-- inodes that are kept stay, and those that entries name are kept then
stays_by : (i : ℕ) (entries : List DirEntry) (o : Option ℕ) (n : ℕ) → is_some o ≡ true → is_some (kept_with i entries o n) ≡ true
stays_by i entries (Some d) n is = refl
stays_by i entries None n is = let no : false ≡ true = is in cc

pub adds_stays : (i : ℕ) (entries : List DirEntry) (old new : ℕ → Option ℕ) → AddsEntries i entries old new → (n : ℕ) → is_some (old n) ≡ true → is_some (new n) ≡ true
adds_stays i entries old new adds n is = ap (λ o. is_some o) (adds n) ∙ stays_by i entries (old n) n is

named_by : (i : ℕ) (entries : List DirEntry) (o : Option ℕ) (n : ℕ) → names_inode entries n ≡ true → is_some (kept_with i entries o n) ≡ true
named_by i entries (Some d) n is = refl
named_by i entries None n is = ap (λ (b : Bool). is_some (if b then Some i else None)) is

pub adds_named : (i : ℕ) (entries : List DirEntry) (old new : ℕ → Option ℕ) → AddsEntries i entries old new → (n : ℕ) → names_inode entries n ≡ true → is_some (new n) ≡ true
adds_named i entries old new adds n is = ap (λ o. is_some o) (adds n) ∙ named_by i entries (old n) n is

-- where each inode that entries name is kept, they add nothing
again_by : (i : ℕ) (entries : List DirEntry) (o : Option ℕ) (n : ℕ) → (names_inode entries n ≡ true → is_some o ≡ true) → o ≡ kept_with i entries o n
again_by i entries (Some d) n kept = refl
again_by i entries None n kept = elim (cases_Bool (names_inode entries n)) [
  | inl named ↦ let no : false ≡ true = kept named in cc
  | inr none ↦ sym (ap (λ (b : Bool). if b then Some i else None) none)
]

pub adds_again : (i : ℕ) (entries : List DirEntry) (kept : ℕ → Option ℕ) → ((n : ℕ) → names_inode entries n ≡ true → is_some (kept n) ≡ true) → AddsEntries i entries kept kept
adds_again i entries kept each n = again_by i entries (kept n) n (each n)

-- ---- entries that name an inode

pub plain_decides : (g : Geometry) (v : Volume) (entry : DirEntry) → Decides (is_plain entry) (IsPlain g v entry)
plain_decides g v entry = Decides-like (is_plain entry) (λ none. record { dot = λ e. none (inl e); dot_dot = λ e. none (inr e) }) (λ plain h. elim h [ inl e ↦ plain.dot e | inr e ↦ plain.dot_dot e ])
    (Decides-not (pointwise ◌==◌ entry.name dot || pointwise ◌==◌ entry.name dot_dot)
    (Decides-or (pointwise ◌==◌ entry.name dot) (pointwise ◌==◌ entry.name dot_dot) (bytes_eq-Decides entry.name dot) (bytes_eq-Decides entry.name dot_dot)))

same_read : (g : Geometry) (v : Volume) (o : Option Inode) (entries others : List DirEntry)
    → MatchOption o ⊥ (λ inode. (kind_of inode.mode ≡ Directory) × ((entries_of g inode v).value ≡ Ok entries))
    → MatchOption o ⊥ (λ inode. (kind_of inode.mode ≡ Directory) × ((entries_of g inode v).value ≡ Ok others)) → others ≡ entries
same_read g v (Some inode) entries others one other = let both : Ok others ≡ Ok entries = sym other.1 ∙ one.1 in cc
same_read g v None entries others one other = absurd one

-- a directory has one list of entries
same_entries : (g : Geometry) (v : Volume) (i : ℕ) (entries others : List DirEntry) → HasEntries g v i entries → HasEntries g v i others → others ≡ entries
same_entries g v i entries others one other = same_read g v (inode_at g v i) entries others one other

-- whether the entries of a directory name an inode
pub named_at : (g : Geometry) (v : Volume) (i n : ℕ) (entries : List DirEntry) → HasEntries g v i entries → names_inode entries n ≡ true → (k : ℕ) × PlainAt g v i k n
named_at g v i n entries has named =
    let found = Any-from_list_any (λ entry. is_plain entry && (entry.inode == n)) entries named in
    let parts = (Decides-and (is_plain (found.1)) ((found.1).inode == n) (plain_decides g v (found.1)) (Decides-eqb (found.1).inode n)).0 found.4 in (
      found.0,
      record {
        entry = found.1;
        here = record { entries = entries; are = has; here = slice_get_read entries (length entries) found.0 found.1 refl found.2 (sym found.3) };
        plain = parts.0;
        names = parts.1;
      },
    )

pub names_at : (g : Geometry) (v : Volume) (i k n : ℕ) (entries : List DirEntry) → HasEntries g v i entries → PlainAt g v i k n → names_inode entries n ≡ true
names_at g v i k n entries has at =
    let same = same_entries g v i entries (at.here.entries) has at.here.are in
    let here : slice_get entries k ≡ Some at.entry = subst (λ es. slice_get es k ≡ Some at.entry) same at.here.here in
    list_any_at (λ entry. is_plain entry && (entry.inode == n)) entries k (at.entry) (slice_get_within entries k (at.entry) here)
    (ap (λ (e : DirEntry). is_plain e && (e.inode == n)) (get_or_from_slice_get entries k (at.entry) (at.entry) here)
    ∙ (Decides-and (is_plain at.entry) (at.entry.inode == n) (plain_decides g v at.entry) (Decides-eqb at.entry.inode n)).1 (at.plain, at.names))

-- ---- directories one after another

within : (g : Geometry) (v : Volume) (i : ℕ) (low high : Bool) (holds : Inode → Type 0) → nat_le 2 i ≡ low → nat_lt i (g.ncg * g.ipg) ≡ high
    → MatchOption (if low && high then (inode_of g i v).value else None) ⊥ holds → (2 ≤ i) × (i < g.ncg * g.ipg)
within g v i true true holds low high h = (grind (arith, nat_tests), grind (arith, nat_tests))
within g v i true false holds low high h = absurd h
within g v i false true holds low high h = absurd h
within g v i false false holds low high h = absurd h

-- a directory with entries is an inode from 2 to the last
entries_within : (g : Geometry) (v : Volume) (d : ℕ) (entries : List DirEntry) → HasEntries g v d entries → (2 ≤ d) × (d < g.ncg * g.ipg)
entries_within g v d entries has =
    within g v d (nat_le 2 d) (nat_lt d (g.ncg * g.ipg)) (λ inode. (kind_of inode.mode ≡ Directory) × ((entries_of g inode v).value ≡ Ok entries)) refl refl has

pub kept_empty : (g : Geometry) (v : Volume) (kept : ℕ → Option ℕ) → ((n : ℕ) → kept n ≡ None) → AreKept g v 2 kept
kept_empty g v kept none n =
    subst (IsKept g v 2 n) (sym (none n)) (λ d k below at. let low = (entries_within g v d (at.here.entries) at.here.are).0 in absurd (omega (arith, low, below)))

plain_to : (g : Geometry) (v : Volume) (i d k n : ℕ) → d ≡ i → PlainAt g v d k n → PlainAt g v i k n
plain_to g v i d k n same at = subst (λ d. PlainAt g v d k n) same at

-- a directory that doesn't name the inode
passed_one : (g : Geometry) (v : Volume) (i n : ℕ) (o : Option ℕ) → ((k : ℕ) → PlainAt g v i k n → ⊥) → IsKept g v i n o → IsKept g v (i + 1) n o
passed_one g v i n None none h = λ d k below at. elim (cases_order d i) [
  | inl same ↦ none k (plain_to g v i d k n same at)
  | inr order ↦ elim order [
    | inl less ↦ h d k less at
    | inr greater ↦ absurd (omega (arith, below, greater))
  ]
]
passed_one g v i n (Some d) none h = (let low = h.0 in omega (arith, low), h.1)

named_one : (g : Geometry) (v : Volume) (i n k : ℕ) (o : Option ℕ) → PlainAt g v i k n → IsKept g v i n o → IsKept g v (i + 1) n (Some (directory_kept o i))
named_one g v i n k None at h = (omega arith, record { k = k; entry = at; least = λ other j less. h other j less })
named_one g v i n k (Some d) at h = (let low = h.0 in omega (arith, low), h.1)

with_named : (i : ℕ) (entries : List DirEntry) (o : Option ℕ) (n : ℕ) → names_inode entries n ≡ true → kept_with i entries o n ≡ Some (directory_kept o i)
with_named i entries (Some d) n named = refl
with_named i entries None n named = ap (λ (b : Bool). if b then Some i else None) named

with_unnamed : (i : ℕ) (entries : List DirEntry) (o : Option ℕ) (n : ℕ) → names_inode entries n ≡ false → kept_with i entries o n ≡ o
with_unnamed i entries (Some d) n none = refl
with_unnamed i entries None n none = ap (λ (b : Bool). if b then Some i else None) none

pub kept_next : (g : Geometry) (v : Volume) (i : ℕ) (entries : List DirEntry) (old new : ℕ → Option ℕ) → HasEntries g v i entries → AddsEntries i entries old new
    → AreKept g v i old → AreKept g v (i + 1) new
kept_next g v i entries old new has adds kept n = elim (cases_Bool (names_inode entries n)) [
  | inl named ↦
      let at = named_at g v i n entries has named in
      subst (IsKept g v (i + 1) n) (sym (adds n ∙ with_named i entries (old n) n named)) (named_one g v i n at.0 (old n) at.1 (kept n))
  | inr none ↦
      subst (IsKept g v (i + 1) n) (sym (adds n ∙ with_unnamed i entries (old n) n none))
      (passed_one g v i n (old n) (λ k at. let no : true ≡ false = sym (names_at g v i k n entries has at) ∙ none in cc) (kept n))
]

pub kept_passed : (g : Geometry) (v : Volume) (i : ℕ) (old new : ℕ → Option ℕ) → ((entries : List DirEntry) → HasEntries g v i entries → ⊥) → ((n : ℕ) → new n ≡ old n)
    → AreKept g v i old → AreKept g v (i + 1) new
kept_passed g v i old new none same kept n =
    subst (IsKept g v (i + 1) n) (sym (same n)) (passed_one g v i n (old n) (λ k at. none (at.here.entries) at.here.are) (kept n))

-- ---- all directories

is_parent : (g : Geometry) (v : Volume) (bound n d : ℕ) (o : Option ℕ) → g.ncg * g.ipg ≤ bound → IsKept g v bound n o → IsParent g v n d → o ≡ Some d
is_parent g v bound n d None last h parent = absurd (h d (parent.k) (let low = (entries_within g v d (parent.entry.here.entries) parent.entry.here.are).1 in omega (arith, low, last)) parent.entry)
is_parent g v bound n d (Some e) last h parent = elim (cases_order e d) [
  | inl same ↦ ap Some same
  | inr order ↦ elim order [
    | inl less ↦ absurd (parent.least e (h.1.k) less h.1.entry)
    | inr greater ↦ absurd (h.1.least d (parent.k) greater parent.entry)
  ]
]

parent_is : (g : Geometry) (v : Volume) (bound n d : ℕ) (o : Option ℕ) → IsKept g v bound n o → o ≡ Some d → IsParent g v n d
parent_is g v bound n d None h is = let no : None ≡ Some d = is in cc
parent_is g v bound n d (Some e) h is = let same : e ≡ d = cc in subst (IsParent g v n) same h.1

pub parents_of : (g : Geometry) (v : Volume) (bound : ℕ) (kept : ℕ → Option ℕ) (parents : List Parent) → g.ncg * g.ipg ≤ bound → AreKept g v bound kept → KeptAre kept parents → AreParentsBy g v parents
parents_of g v bound kept parents last are list = record {
  ascend = list.ascend;
  each = λ i d. (
    λ here. parent_is g v bound i d (kept i) (are i) ((list.each i d).0 here),
    λ parent. (list.each i d).1 (is_parent g v bound i d (kept i) last (are i) parent),
  );
}

-- ---- the table

-- entries, and then others
pub enters_both : (g : Geometry) (v : Volume) (i : ℕ) (xs ys entries : List DirEntry) (a b c : NamingTable) → entries ≡ xs ++ ys → Enters g v i xs a b → Enters g v i ys b c → Enters g v i entries a c
enters_both g v i xs ys entries a b c whole first second known =
    let one = first known in
    let two = second one.0 in (
      two.0,
      subst (λ es. AddsEntries i es (kept_in a.directories) (kept_in c.directories)) (sym whole)
          (adds_both i xs ys (kept_in a.directories) (kept_in b.directories) (kept_in c.directories) one.1 two.1),
    )

pub nothing_entered : (g : Geometry) (inode : Inode) (v : Volume) (i : ℕ) (entries : List DirEntry) (table : NamingTable) → (entries_before g inode 0 v).value ≡ Ok entries → Enters g v i entries table table
nothing_entered g inode v i entries table said known =
    let both : Ok [] ≡ Ok entries = sym (before_first g inode v) ∙ said in
    let none : [] ≡ entries = cc in
    (known, subst (λ es. AddsEntries i es (kept_in table.directories) (kept_in table.directories)) none (adds_none i (kept_in table.directories)))

-- ---- the list of what is kept

nat_exact : (x y : ℕ) → is_at (nat_cmp x) y ≡ true → x ≡ y
nat_exact x y e = elim (cases_order x y) [
  | inl same ↦ same
  | inr order ↦ elim order [
    | inl less ↦ let no : false ≡ true = ap (λ r. is_eq r) (nat_cmp_is x y Less less) ∙ e in cc
    | inr more ↦ let no : false ≡ true = ap (λ r. is_eq r) (nat_cmp_is x y Greater more) ∙ e in cc
  ]
]

in_map : {X Y : Type 0} (f : X → Y) (xs : List X) (x : X) → Contains xs x → Contains (map f xs) (f x)
in_map f [] x (k, low, at) = absurd (omega (arith, low))
in_map f (y ∷ ys) x (zero, low, at) = (0, omega arith, ap f at)
in_map f (y ∷ ys) x (suc k, low, at) = let rest = in_map f ys x (k, omega (arith, low), at) in (suc rest.0, omega (arith, rest.1), rest.2)

inodes_are : (es : List (ℕ × ℕ)) → map (λ (p : Parent). p.inode) (map parent_of es) ≡ keys_of es
inodes_are [] = refl
inodes_are (e ∷ es) = ap (λ (xs : List ℕ). e.0 ∷ xs) (inodes_are es)

pub kept_list : (m : BTreeMap ℕ ℕ) → IsOrdered nat_cmp m → All (λ (e : ℕ × ℕ). kept_in m e.0 ≡ Some e.1) m.entries → KeptAre (kept_in m) (map parent_of m.entries)
kept_list m ordered found = record {
  ascend = subst IsStrictlyIncreasing (sym (inodes_are m.entries)) (IsStrictlyIncreasing-from_sorted (keys_of m.entries) ordered);
  each = λ i d. (
    λ here. All-contains (λ (p : Parent). kept_in m p.inode ≡ Some p.directory) (map parent_of m.entries) (record { inode = i; directory = d })
        (All-map (λ (p : Parent). kept_in m p.inode ≡ Some p.directory) parent_of m.entries found) here,
    λ is. in_map parent_of m.entries (i, d) (Contains-from_lookup {eq = λ q k. is_at (nat_cmp q) k} nat_exact i d m.entries is),
  );
}

pub map_both : {X Y Z : Type 0} (f : X → Y) (h : Y → Z) (xs : List X) → map h (map f xs) ≡ map (λ x. h (f x)) xs
map_both f h [] = refl
map_both f h (x ∷ xs) = ap (λ ys. h (f x) ∷ ys) (map_both f h xs)
