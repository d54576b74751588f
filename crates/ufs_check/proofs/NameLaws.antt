-- The names of a directory's entries.
use Rattle.std.proofs.Common.{◌≡◌, ◌≢◌, ◌∙◌, ℕ, ◌+◌, ◌<◌, ◌≤◌, inl, inr, ◌⊎◌, Bool, true, false, List, Option, Some, length, refl, sym, ap, subst, arith}
use Rattle.std.specs.Prelude.{◌==◌, ◌||◌, ◌&&◌, cond, not, slice_get}
use Rattle.std.specs.Bool.{Decides}
use Rattle.std.specs.Cmp.Lexicographic.{pointwise, slice_cmp}
use Rattle.std.specs.List.{list_any}
use Rattle.std.specs.Option.{is_some}
use Rattle.std.specs.Ordering.{is_eq, nat_cmp}
use Rattle.std.proofs.lemmas.Bool.{cases_order}
use Rattle.std.proofs.lemmas.Bool.Decides.{Decides-and, Decides-eqb, Decides-like, Decides-not, Decides-or}
use Rattle.std.proofs.lemmas.Map.Text.{is_eq-slice_cmp}
use Rattle.std.proofs.lemmas.Option.{slice_get_within}
use Rattle.std.proofs.lemmas.Slice.Eq.{bytes_eq-Decides}
use Rattle.ufs_model.specs.Blocks.{Volume}
use Rattle.ufs_model.specs.Chunks.{DirEntry}
use Rattle.ufs_model.specs.Malformations.{EntryAt, HasSameNames, IsBad, IsInode, IsNamed, IsPlain, dot, dot_dot, inode_at}
use Rattle.ufs_model.specs.Trees.{is_plain}
use Rattle.ufs_model.specs.declared.geometries.Geometry.{Geometry}
use Rattle.ufs_model.specs.declared.malformations.BadKind.TheVariants.{RootNamed}
use Rattle.ufs_check.specs.Names.{HasSameIn, names_root}
use Rattle.ufs_check.specs.OwnedEntries.{AreOwned, kind_in, owned_all, owned_of}
use Rattle.ufs_check.specs.declared.owned_entries.OwnedEntry.{OwnedEntry}
use Rattle.ufs_check.proofs.OwnedLaws.{any_decides, at_owned, kind_some, owned_at}

-- ---- the names that were met

-- one of the first i entries names an inode, and has the name
pub record IsMet (entries : List OwnedEntry) (i : ℕ) (name : List ℕ) : Type 0 where
  pub j : ℕ
  pub entry : OwnedEntry
  pub below : j < i
  pub here : slice_get entries j ≡ Some entry
  pub named : is_some entry.named ≡ true
  pub same : entry.name.items ≡ name

pub met_none : (entries : List OwnedEntry) (name : List ℕ) → Decides false (IsMet entries 0 name)
met_none entries name = (λ h. let no : false ≡ true = h in cc, λ h. let lt = h.below in absurd (omega arith))

same_key : (k q name : List ℕ) → k ≡ name → Decides (is_eq (slice_cmp nat_cmp k q)) (name ≡ q)
same_key k q name is = subst (λ name. Decides (is_eq (slice_cmp nat_cmp k q)) (name ≡ q)) is (rw (is_eq-slice_cmp k q) (bytes_eq-Decides k q))

-- the entry at a place is one
same_entry : (entries : List OwnedEntry) (j i : ℕ) (one other : OwnedEntry) → slice_get entries j ≡ Some one → slice_get entries i ≡ Some other → j ≡ i → one ≡ other
same_entry entries j i one other first second same = let both : Some one ≡ Some other = sym first ∙ ap (slice_get entries) same ∙ second in cc

met_further : (entries : List OwnedEntry) (i : ℕ) (entry : OwnedEntry) (name : List ℕ) → slice_get entries i ≡ Some entry → (met : IsMet entries (i + 1) name)
    → (entry ≡ met.entry → ⊥) → IsMet entries i name
met_further entries i entry name here met other = elim (cases_order (met.j) i) [
  | inl same ↦ absurd (other (sym (same_entry entries (met.j) i (met.entry) entry met.here here same)))
  | inr order ↦ elim order [
    | inl less ↦ record { j = met.j; entry = met.entry; below = less; here = met.here; named = met.named; same = met.same }
    | inr greater ↦ let lt = met.below in absurd (omega arith)
  ]
]

met_more : (entries : List OwnedEntry) (i : ℕ) (name : List ℕ) → IsMet entries i name → IsMet entries (i + 1) name
met_more entries i name old = record { j = old.j; entry = old.entry; below = let lt = old.below in omega arith; here = old.here; named = old.named; same = old.same }

met_by : (entries : List OwnedEntry) (i : ℕ) (entry : OwnedEntry) (name : List ℕ) (test before : Bool) → slice_get entries i ≡ Some entry → is_some entry.named ≡ true
    → Decides test (entry.name.items ≡ name) → Decides before (IsMet entries i name) → Decides (cond test true before) (IsMet entries (i + 1) name)
met_by entries i entry name true before here some test met = (λ h. record { j = i; entry = entry; below = omega arith; here = here; named = some; same = test.0 refl }, λ h. refl)
met_by entries i entry name false before here some test met = (
  λ h. met_more entries i name (met.0 h),
  λ h. met.1 (met_further entries i entry name here h
      (λ equal. let no : false ≡ true = test.1 (ap (λ (e : OwnedEntry). e.name.items) equal ∙ h.same) in cc)),
)

pub met_next : (entries : List OwnedEntry) (i : ℕ) (entry : OwnedEntry) (name k : List ℕ) (before after : Bool) → slice_get entries i ≡ Some entry → is_some entry.named ≡ true
    → k ≡ entry.name.items → after ≡ cond (is_eq (slice_cmp nat_cmp k name)) true before → Decides before (IsMet entries i name) → Decides after (IsMet entries (i + 1) name)
met_next entries i entry name k before after here some key is met =
    subst (λ b. Decides b (IsMet entries (i + 1) name)) (sym is)
    (met_by entries i entry name (is_eq (slice_cmp nat_cmp k name)) before here some (same_key k name entry.name.items key) met)

-- an entry that names nothing is passed
pub met_passed : (entries : List OwnedEntry) (i : ℕ) (entry : OwnedEntry) (name : List ℕ) (before : Bool) → slice_get entries i ≡ Some entry → is_some entry.named ≡ false
    → Decides before (IsMet entries i name) → Decides before (IsMet entries (i + 1) name)
met_passed entries i entry name before here none met = (
  λ h. met_more entries i name (met.0 h),
  λ h. met.1 (met_further entries i entry name here h
      (λ equal. let no : false ≡ true = sym none ∙ ap (λ (e : OwnedEntry). is_some e.named) equal ∙ h.named in cc)),
)

not_false : (b : Bool) → not b ≡ false → b ≡ true
not_false true is = refl
not_false false is = sym is

not_true : (b : Bool) → not b ≡ true → b ≡ false
not_true true is = sym is
not_true false is = refl

-- a name that was there already was met
pub met_before : (entries : List OwnedEntry) (i : ℕ) (k name : List ℕ) (added held : Bool) → k ≡ name → added ≡ not held → added ≡ false → Decides held (IsMet entries i k) → IsMet entries i name
met_before entries i k name added held key is old met = subst (IsMet entries i) key (met.0 (not_false held (sym is ∙ old)))

-- one that was added wasn't
pub met_never : (entries : List OwnedEntry) (i : ℕ) (k name : List ℕ) (added held : Bool) → k ≡ name → added ≡ not held → added ≡ true → Decides held (IsMet entries i k) → IsMet entries i name → ⊥
met_never entries i k name added held key is new met h =
    let no : false ≡ true = sym (not_true held (sym is ∙ new)) ∙ met.1 (subst (IsMet entries i) (sym key) h) in cc

-- ---- entries of different names

-- no two of the first i entries that name inodes have one name
pub record AreDistinct (entries : List OwnedEntry) (i : ℕ) : Type 0 where
  pub differ : (j k : ℕ) (one other : OwnedEntry) → j < k → k < i → slice_get entries j ≡ Some one → slice_get entries k ≡ Some other
      → is_some one.named ≡ true → is_some other.named ≡ true → one.name.items ≡ other.name.items → ⊥

pub distinct_none : (entries : List OwnedEntry) → AreDistinct entries 0
distinct_none entries = record { differ = λ j k one other less below first second named too same. absurd (omega arith) }

distinct_more : (entries : List OwnedEntry) (i : ℕ) (entry : OwnedEntry) → slice_get entries i ≡ Some entry
    → (is_some entry.named ≡ true → IsMet entries i entry.name.items → ⊥) → AreDistinct entries i → AreDistinct entries (i + 1)
distinct_more entries i entry here new so_far = record {
  differ = λ j k one other less below first second named too same. elim (cases_order k i) [
    | inl last ↦
        let equal = same_entry entries k i other entry second here last in
        new (subst (λ (e : OwnedEntry). is_some e.named ≡ true) equal too) (record {
          j = j;
          entry = one;
          below = omega arith;
          here = first;
          named = named;
          same = same ∙ ap (λ (e : OwnedEntry). e.name.items) equal;
        })
    | inr order ↦ elim order [
      | inl front ↦ so_far.differ j k one other less front first second named too same
      | inr past ↦ absurd (omega arith)
    ]
  ];
}

pub distinct_next : (entries : List OwnedEntry) (i : ℕ) (entry : OwnedEntry) → slice_get entries i ≡ Some entry → (IsMet entries i entry.name.items → ⊥) → AreDistinct entries i → AreDistinct entries (i + 1)
distinct_next entries i entry here new so_far = distinct_more entries i entry here (λ named. new) so_far

pub distinct_passed : (entries : List OwnedEntry) (i : ℕ) (entry : OwnedEntry) → slice_get entries i ≡ Some entry → is_some entry.named ≡ false → AreDistinct entries i → AreDistinct entries (i + 1)
distinct_passed entries i entry here none so_far =
    distinct_more entries i entry here (λ named met. let no : false ≡ true = sym none ∙ named in cc) so_far

pub met_same : (entries : List OwnedEntry) (i : ℕ) (entry : OwnedEntry) → slice_get entries i ≡ Some entry → is_some entry.named ≡ true → IsMet entries i entry.name.items → HasSameIn entries
met_same entries i entry here some met = record {
  j = met.j;
  k = i;
  one = met.entry;
  other = entry;
  differ = λ same. let lt = met.below in absurd (omega arith);
  first = met.here;
  second = here;
  one_named = met.named;
  other_named = some;
  same = met.same;
}

pub distinct_all : (entries : List OwnedEntry) (i : ℕ) → length entries ≤ i → AreDistinct entries i → HasSameIn entries → ⊥
distinct_all entries i end distinct h =
    let first = slice_get_within entries (h.j) (h.one) h.first in
    let second = slice_get_within entries (h.k) (h.other) h.second in
    elim (cases_order (h.j) (h.k)) [
      | inl same ↦ h.differ same
      | inr order ↦ elim order [
        | inl less ↦ distinct.differ (h.j) (h.k) (h.one) (h.other) less (omega arith) h.first h.second h.one_named h.other_named h.same
        | inr greater ↦ distinct.differ (h.k) (h.j) (h.other) (h.one) greater (omega arith) h.second h.first h.other_named h.one_named (sym h.same)
      ]
    ]

-- ---- plain entries

plain_parts : (g : Geometry) (v : Volume) (entry : DirEntry) → ((entry.name ≡ dot) ⊎ (entry.name ≡ dot_dot) → ⊥) → IsPlain g v entry
plain_parts g v entry h = record { dot = λ is. h (inl is); dot_dot = λ is. h (inr is) }

plain_none : (g : Geometry) (v : Volume) (entry : DirEntry) → IsPlain g v entry → (entry.name ≡ dot) ⊎ (entry.name ≡ dot_dot) → ⊥
plain_none g v entry h (inl is) = h.dot is
plain_none g v entry h (inr is) = h.dot_dot is

pub plain_decides : (g : Geometry) (v : Volume) (entry : DirEntry) → Decides (is_plain entry) (IsPlain g v entry)
plain_decides g v entry = Decides-like (is_plain entry) (plain_parts g v entry) (plain_none g v entry)
    (Decides-not (pointwise ◌==◌ entry.name dot || pointwise ◌==◌ entry.name dot_dot)
    (Decides-or (pointwise ◌==◌ entry.name dot) (pointwise ◌==◌ entry.name dot_dot) (bytes_eq-Decides entry.name dot) (bytes_eq-Decides entry.name dot_dot)))

-- ---- what is wrong with the names of one directory

-- an entry in memory names an inode
named_by : (g : Geometry) (v : Volume) (owned : OwnedEntry) → owned.named ≡ kind_in (inode_at g v owned.inode) → Decides (is_some owned.named) (IsNamed g v (owned_of owned))
named_by g v owned is = subst (λ o. Decides (is_some o) (IsNamed g v (owned_of owned))) (sym is) (kind_some (inode_at g v owned.inode))

pub names_decides : (g : Geometry) (v : Volume) (i : ℕ) (entries : List OwnedEntry) (b : Bool) → AreOwned g v i entries → Decides b (HasSameIn entries) → Decides b (HasSameNames g v i)
names_decides g v i entries b all decides = Decides-like b
    (λ h. record {
      j = h.j;
      k = h.k;
      one = owned_of (h.one);
      other = owned_of (h.other);
      differ = h.differ;
      first = owned_at g v i (h.j) entries (h.one) all h.first;
      second = owned_at g v i (h.k) entries (h.other) all h.second;
      one_named = (named_by g v (h.one) (all.named (h.j) (h.one) h.first)).0 h.one_named;
      other_named = (named_by g v (h.other) (all.named (h.k) (h.other) h.second)).0 h.other_named;
      same = h.same;
    })
    (λ h.
    let one = at_owned g v i (h.j) entries (h.one) all h.first in
    let other = at_owned g v i (h.k) entries (h.other) all h.second in
    let name : (owned_of (one.owned)).name ≡ (owned_of (other.owned)).name =
    ap (λ (e : DirEntry). e.name) one.is ∙ h.same ∙ sym (ap (λ (e : DirEntry). e.name) other.is) in
    record {
      j = h.j;
      k = h.k;
      one = one.owned;
      other = other.owned;
      differ = h.differ;
      first = one.here;
      second = other.here;
      one_named = (named_by g v (one.owned) (all.named (h.j) (one.owned) one.here)).1 (subst (IsNamed g v) (sym one.is) h.one_named);
      other_named = (named_by g v (other.owned) (all.named (h.k) (other.owned) other.here)).1 (subst (IsNamed g v) (sym other.is) h.other_named);
      same = name;
    })
    decides

-- a plain entry for the root, which is there
abbrev NamesRoot : Geometry → Volume → DirEntry → Type 0
NamesRoot g v entry = (IsPlain g v entry × (entry.inode ≡ 2)) × IsNamed g v entry

root_decides : (g : Geometry) (v : Volume) (owned : OwnedEntry) → owned.named ≡ kind_in (inode_at g v owned.inode) → Decides (names_root owned) (NamesRoot g v (owned_of owned))
root_decides g v owned is =
    Decides-and (is_plain (owned_of owned) && (owned.inode == 2)) (is_some owned.named)
    (Decides-and (is_plain (owned_of owned)) (owned.inode == 2) (plain_decides g v (owned_of owned)) (Decides-eqb owned.inode 2)) (named_by g v owned is)

pub root_named_decides : (g : Geometry) (v : Volume) (i : ℕ) (entries : List OwnedEntry) → AreOwned g v i entries → Decides (list_any names_root entries) (IsBad g v RootNamed i)
root_named_decides g v i entries all =
    Decides-like (list_any names_root entries)
    (λ h. (
      subst (λ n. IsInode g v n (λ _. Unit {0})) h.is.0.1 h.is.1,
      (h.k, record { entry = h.entry; here = h.here; plain = h.is.0.0; names = h.is.0.1 }),
    ))
    (λ bad.
    let at = bad.1.1 in
    record {
      k = bad.1.0;
      entry = at.entry;
      here = at.here;
      is = ((at.plain, at.names), subst (λ n. IsInode g v n (λ _. Unit {0})) (sym at.names) bad.0);
    })
    (any_decides g v i entries names_root (NamesRoot g v) all (root_decides g v))
