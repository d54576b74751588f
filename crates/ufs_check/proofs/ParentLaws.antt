-- Keeping what the entries of directories say, one entry and one directory after the other.
use Rattle.std.proofs.Common.{◌≡◌, ◌≢◌, ◌∙◌, ℕ, ◌+◌, ◌*◌, ◌<◌, ◌≤◌, inl, inr, ◌⊎◌, Bool, true, false, List, Option, Some, None, length, refl, sym, ap, subst, arith}
use Rattle.std.specs.Prelude.{◌==◌, ◌&&◌, if◌then◌else◌, slice_get}
use Rattle.std.specs.Bool.{Decides}
use Rattle.std.specs.BTreeMap.{BTreeMap, get}
use Rattle.std.specs.Ordering.{nat_cmp}
use Rattle.std.proofs.lemmas.Bool.{cases_order}
use Rattle.std.proofs.lemmas.Bool.Decides.{Decides-and, Decides-eqb, Decides-like}
use Rattle.ufs_model.specs.Blocks.{Volume}
use Rattle.ufs_model.specs.Chunks.{DirEntry}
use Rattle.ufs_model.specs.Malformations.{EntryAt, HasDots, HasEntries, IsNamed, IsPlain, IsUp, PlainAt, dot, dot_dot, inode_at}
use Rattle.ufs_model.specs.Trees.{is_plain}
use Rattle.ufs_model.specs.declared.geometries.Geometry.{Geometry}
use Rattle.ufs_model.specs.declared.inodes.Kind.{Kind}
use Rattle.ufs_model.specs.declared.inodes.Kind.TheVariants.{Directory}
use Rattle.ufs_check.specs.Links.{AddsEntry, FitsOwn, IsDirectoryAt, IsEmptyTable, MayLead, ParentAt, ParentKept, ParentsBefore, PlainBefore, SaysDots, SaysUp, SetsUp, TableBelow, TwoBefore, UpAt, UpKept, UpsBelow, linked}
use Rattle.ufs_check.specs.OwnedEntries.{AreOwned, kind_in, owned_all, owned_of}
use Rattle.ufs_check.specs.declared.owned_entries.OwnedEntry.{OwnedEntry}
use Rattle.ufs_check.specs.declared.parents.LinkTable.{LinkTable}
use Rattle.ufs_check.specs.declared.parents.Parent.{Parent}
use Rattle.ufs_check.specs.declared.parents.Up.{Up}
use Rattle.ufs_check.specs.declared.parents.Up.TheVariants.{Wrong, Unjudged, Leads}
use Rattle.ufs_check.proofs.FaultLaws.{entries_within}
use Rattle.ufs_check.proofs.NameLaws.{plain_decides}
use Rattle.ufs_check.proofs.OwnedLaws.{at_owned, directory_kind, entry_here, kind_directory, kind_missing, kind_there, owned_at, owned_within}

-- ---- the order of entries

abbrev Before : ℕ → ℕ → ℕ → ℕ → Type 0
Before i k d j = (d < i) ⊎ ((d ≡ i) × (j < k))

before_more : (i k d j : ℕ) → Before i k d j → Before i (k + 1) d j
before_more i k d j (inl less) = inl less
before_more i k d j (inr at) = inr (at.0, let lt = at.1 in omega arith)

before_or : (i k d j : ℕ) → Before i (k + 1) d j → Before i k d j ⊎ ((d ≡ i) × (j ≡ k))
before_or i k d j (inl less) = inl (inl less)
before_or i k d j (inr at) = elim (cases_order j k) [
  | inl same ↦ inr (at.0, same)
  | inr order ↦ elim order [
    | inl less ↦ inl (inr (at.0, less))
    | inr greater ↦ let lt = at.1 in absurd (omega arith)
  ]
]

before_all : (i k d j : ℕ) → Before i k d j → Before (i + 1) 0 d j
before_all i k d j (inl less) = inl (omega arith)
before_all i k d j (inr at) = let same = at.0 in inl (omega arith)

before_le : (i k d j : ℕ) → Before i k d j → d ≤ i
before_le i k d j (inl less) = omega arith
before_le i k d j (inr at) = let same = at.0 in omega arith

before_differ : (i k d j : ℕ) → Before i k d j → (d ≢ i) ⊎ (j ≢ k)
before_differ i k d j (inl less) = inl (λ same. absurd (omega arith))
before_differ i k d j (inr at) = inr (λ same. let lt = at.1 in absurd (omega arith))

-- ---- a plain entry

link_decides : (g : Geometry) (v : Volume) (entry : OwnedEntry) (n : ℕ) → Decides (is_plain (owned_of entry) && (entry.inode == n)) (IsPlain g v (owned_of entry) × (entry.inode ≡ n))
link_decides g v entry n = Decides-and (is_plain (owned_of entry)) (entry.inode == n) (plain_decides g v (owned_of entry)) (Decides-eqb entry.inode n)

-- the inode that is named is a directory
names_decides : (g : Geometry) (v : Volume) (n : ℕ) (entry : OwnedEntry) (b : Bool) → entry.named ≡ kind_in (inode_at g v entry.inode) → entry.inode ≡ n
    → Decides b (entry.named ≡ Some Directory) → Decides b (IsDirectoryAt g v n)
names_decides g v n entry b named is decides =
    subst (λ n. Decides b (IsDirectoryAt g v n)) is
    (Decides-like b (λ h. kind_directory (inode_at g v entry.inode) (sym named ∙ h)) (λ h. named ∙ directory_kind (inode_at g v entry.inode) h) decides)

plain_is : (g : Geometry) (v : Volume) (i k n : ℕ) (entries : List OwnedEntry) (entry : OwnedEntry) → AreOwned g v i entries → slice_get entries k ≡ Some entry → PlainAt g v i k n
    → IsPlain g v (owned_of entry) × (entry.inode ≡ n)
plain_is g v i k n entries entry all here at =
    let found = at_owned g v i k entries (at.entry) all at.here in
    let both : Some (found.owned) ≡ Some entry = sym found.here ∙ here in
    let equal : found.owned ≡ entry = cc in
    let same : at.entry ≡ owned_of entry = sym found.is ∙ ap owned_of equal in
    (subst (λ e. IsPlain g v e) same at.plain, subst (λ (e : DirEntry). e.inode ≡ n) same at.names)

plain_to : (g : Geometry) (v : Volume) (i k d j n : ℕ) → (d ≡ i) × (j ≡ k) → PlainAt g v d j n → PlainAt g v i k n
plain_to g v i k d j n at plain = subst (λ k. PlainAt g v i k n) at.1 (subst (λ d. PlainAt g v d j n) at.0 plain)

-- ---- the same entries, before another place

two_move : (g : Geometry) (v : Volume) (i k m l n : ℕ) → ((d j : ℕ) → PlainBefore g v i k n d j → PlainBefore g v m l n d j) → TwoBefore g v i k n → TwoBefore g v m l n
two_move g v i k m l n to two = record {
  one = two.one;
  one_place = two.one_place;
  other = two.other;
  other_place = two.other_place;
  differ = two.differ;
  first = to (two.one) (two.one_place) two.first;
  second = to (two.other) (two.other_place) two.second;
}

kept_move : (g : Geometry) (v : Volume) (i k m l n : ℕ) (kept : Option Parent) → ((d j : ℕ) → PlainBefore g v i k n d j → PlainBefore g v m l n d j)
    → ((d j : ℕ) → PlainBefore g v m l n d j → PlainBefore g v i k n d j) → ParentAt g v i k n kept → ParentAt g v m l n kept
kept_move g v i k m l n None to back h = λ d j before. h d j (back d j before)
kept_move g v i k m l n (Some parent) to back h = record {
  j = h.j;
  entry = to parent.directory (h.j) h.entry;
  least = λ d j before. h.least d j (back d j before);
  twice = Decides-like parent.twice (two_move g v i k m l n to) (two_move g v m l i k n back) h.twice;
  of_directory = h.of_directory;
}

-- ---- one more entry

grown : (g : Geometry) (v : Volume) (i k n d j : ℕ) → PlainBefore g v i k n d j → PlainBefore g v i (k + 1) n d j
grown g v i k n d j h = record { plain = h.plain; before = before_more i k d j h.before }

shrunk : (g : Geometry) (v : Volume) (i k n : ℕ) → (PlainAt g v i k n → ⊥) → (d j : ℕ) → PlainBefore g v i (k + 1) n d j → PlainBefore g v i k n d j
shrunk g v i k n none d j h = elim (before_or i k d j h.before) [
  | inl before ↦ record { plain = h.plain; before = before }
  | inr at ↦ absurd (none (plain_to g v i k d j n at h.plain))
]

last_only : (g : Geometry) (v : Volume) (i k n : ℕ) → ((d j : ℕ) → PlainBefore g v i k n d j → ⊥) → (d j : ℕ) → PlainBefore g v i (k + 1) n d j → (d ≡ i) × (j ≡ k)
last_only g v i k n none d j h = elim (before_or i k d j h.before) [
  | inl before ↦ absurd (none d j (record { plain = h.plain; before = before }))
  | inr at ↦ at
]

alone : (g : Geometry) (v : Volume) (i k n : ℕ) → ((d j : ℕ) → PlainBefore g v i k n d j → ⊥) → TwoBefore g v i (k + 1) n → ⊥
alone g v i k n none two =
    let first = last_only g v i k n none (two.one) (two.one_place) two.first in
    let second = last_only g v i k n none (two.other) (two.other_place) two.second in
    elim two.differ [
      | inl apart ↦ apart (first.0 ∙ sym second.0)
      | inr apart ↦ apart (first.1 ∙ sym second.1)
    ]

linked_kept : (g : Geometry) (v : Volume) (i k n : ℕ) (kept : Option Parent) (of_directory : Bool) → PlainAt g v i k n → Decides of_directory (IsDirectoryAt g v n) → ParentAt g v i k n kept
    → ParentKept g v i (k + 1) n (linked kept i of_directory)
linked_kept g v i k n None of_directory plain decides h = record {
  j = k;
  entry = record { plain = plain; before = inr (refl, omega arith) };
  least = λ d j before. let same = (last_only g v i k n h d j before).0 in omega arith;
  twice = (λ is. let no : false ≡ true = is in cc, λ two. absurd (alone g v i k n h two));
  of_directory = decides;
}
linked_kept g v i k n (Some parent) of_directory plain decides h = record {
  j = h.j;
  entry = grown g v i k n parent.directory (h.j) h.entry;
  least = λ d j before. elim (before_or i k d j before.before) [
    | inl old ↦ h.least d j (record { plain = before.plain; before = old })
    | inr at ↦ let low = before_le i k parent.directory (h.j) h.entry.before in let same = at.0 in omega arith
  ];
  twice = (
    λ is. record {
      one = parent.directory;
      one_place = h.j;
      other = i;
      other_place = k;
      differ = before_differ i k parent.directory (h.j) h.entry.before;
      first = grown g v i k n parent.directory (h.j) h.entry;
      second = record { plain = plain; before = inr (refl, omega arith) };
    },
    λ two. refl,
  );
  of_directory = h.of_directory;
}

next_by : (g : Geometry) (v : Volume) (i k n : ℕ) (entries : List OwnedEntry) (entry : OwnedEntry) (old : BTreeMap ℕ Parent) (of_directory b : Bool) → AreOwned g v i entries
    → slice_get entries k ≡ Some entry → Decides of_directory (entry.named ≡ Some Directory) → (is_plain (owned_of entry) && (entry.inode == n)) ≡ b → ParentAt g v i k n (get nat_cmp old n)
    → ParentAt g v i (k + 1) n (if b then Some (linked (get nat_cmp old entry.inode) i of_directory) else get nat_cmp old n)
next_by g v i k n entries entry old of_directory true all here decides is h =
    let parts = (link_decides g v entry n).0 is in
    let plain : PlainAt g v i k n = record { entry = owned_of entry; here = owned_at g v i k entries entry all here; plain = parts.0; names = parts.1 } in
    subst (λ m. ParentKept g v i (k + 1) n (linked (get nat_cmp old m) i of_directory)) (sym parts.1)
    (linked_kept g v i k n (get nat_cmp old n) of_directory plain (names_decides g v n entry of_directory (all.named k entry here) parts.1 decides) h)
next_by g v i k n entries entry old of_directory false all here decides is h =
    kept_move g v i k i (k + 1) n (get nat_cmp old n) (grown g v i k n)
    (shrunk g v i k n (λ at. let no : true ≡ false = sym ((link_decides g v entry n).1 (plain_is g v i k n entries entry all here at)) ∙ is in cc)) h

pub parents_next : (g : Geometry) (v : Volume) (i k : ℕ) (entries : List OwnedEntry) (entry : OwnedEntry) (old new : BTreeMap ℕ Parent) → AreOwned g v i entries
    → slice_get entries k ≡ Some entry → AddsEntry old new i entry → ParentsBefore g v i k old → ParentsBefore g v i (k + 1) new
parents_next g v i k entries entry old new all here one so_far = record {
  each = λ n. subst (ParentAt g v i (k + 1) n) (sym (one.adds n))
      (next_by g v i k n entries entry old (one.of_directory) (is_plain (owned_of entry) && (entry.inode == n)) all here one.decides refl (so_far.each n));
}

-- ---- one more directory

whole : (g : Geometry) (v : Volume) (i k n d j : ℕ) → PlainBefore g v i k n d j → PlainBefore g v (i + 1) 0 n d j
whole g v i k n d j h = record { plain = h.plain; before = before_all i k d j h.before }

-- an entry before the next directory, which isn't of a lower one
before_last : (i k d j : ℕ) → (d ≡ i → j < k) → Before (i + 1) 0 d j → Before i k d j
before_last i k d j last (inl less) = elim (cases_order d i) [
  | inl same ↦ inr (same, last same)
  | inr order ↦ elim order [
    | inl lower ↦ inl lower
    | inr greater ↦ absurd (omega arith)
  ]
]
before_last i k d j last (inr at) = let lt = at.1 in absurd (omega arith)

pub parents_end : (g : Geometry) (v : Volume) (i k : ℕ) (entries : List OwnedEntry) (parents : BTreeMap ℕ Parent) → HasEntries g v i (owned_all entries) → length entries ≤ k
    → ParentsBefore g v i k parents → ParentsBefore g v (i + 1) 0 parents
parents_end g v i k entries parents has end so_far = record {
  each = λ n. kept_move g v i k (i + 1) 0 n (get nat_cmp parents n) (whole g v i k n)
      (λ d j h. record {
        plain = h.plain;
        before = before_last i k d j (λ same.
            let here = entry_here g v i j (owned_all entries) (h.plain.entry) has (subst (λ d. EntryAt g v d j (h.plain.entry)) same h.plain.here) in
            let lt = owned_within entries j (h.plain.entry) here in omega arith) h.before;
      })
      (so_far.each n);
}

pub parents_passed : (g : Geometry) (v : Volume) (i : ℕ) (parents : BTreeMap ℕ Parent) → ((entries : List DirEntry) → HasEntries g v i entries → ⊥)
    → ParentsBefore g v i 0 parents → ParentsBefore g v (i + 1) 0 parents
parents_passed g v i parents none so_far = record {
  each = λ n. kept_move g v i 0 (i + 1) 0 n (get nat_cmp parents n) (whole g v i 0 n)
      (λ d j h. record {
        plain = h.plain;
        before = before_last i 0 d j (λ same. absurd (none (h.plain.here.entries) (subst (λ d. HasEntries g v d (h.plain.here.entries)) same h.plain.here.are))) h.before;
      })
      (so_far.each n);
}

-- ---- the first two entries

-- the entry that stands there on the volume is the one in memory
dots_entry : (g : Geometry) (v : Volume) (i k : ℕ) (entries : List OwnedEntry) (entry : OwnedEntry) (at : DirEntry) → AreOwned g v i entries → slice_get entries k ≡ Some entry
    → EntryAt g v i k at → at ≡ owned_of entry
dots_entry g v i k entries entry at all here is =
    let found = at_owned g v i k entries at all is in
    let both : Some (found.owned) ≡ Some entry = sym found.here ∙ here in
    let equal : found.owned ≡ entry = cc in sym found.is ∙ ap owned_of equal

-- a directory with fewer entries
pub dots_short : (g : Geometry) (v : Volume) (i : ℕ) (entries : List OwnedEntry) → AreOwned g v i entries → length entries < 2 → HasDots g v i → ⊥
dots_short g v i entries all short dots =
    let within = owned_within entries 1 (dots.up) (entry_here g v i 1 (owned_all entries) (dots.up) all.are dots.second) in absurd (omega arith)

own_by : (g : Geometry) (v : Volume) (i : ℕ) (own : OwnedEntry) (named : Option Kind) → own.named ≡ named → own.named ≡ kind_in (inode_at g v own.inode)
    → (IsNamed g v (owned_of own) → ((owned_of own).name ≡ dot) × ((owned_of own).inode ≡ i)) → FitsOwn i own
own_by g v i own None is named fits = inl is
own_by g v i own (Some kind) is named fits =
    inr (fits (kind_there (inode_at g v own.inode) (λ none. let no : Some kind ≡ None = sym is ∙ named ∙ none in cc)))

-- the first entry doesn't fit
pub dots_unfit : (g : Geometry) (v : Volume) (i : ℕ) (entries : List OwnedEntry) (own : OwnedEntry) → AreOwned g v i entries → slice_get entries 0 ≡ Some own
    → (FitsOwn i own → ⊥) → HasDots g v i → ⊥
dots_unfit g v i entries own all here unfit dots =
    let same = dots_entry g v i 0 entries own (dots.own) all here dots.first in
    unfit (own_by g v i own own.named refl (all.named 0 own here)
    (subst (λ (e : DirEntry). IsNamed g v e → (e.name ≡ dot) × (e.inode ≡ i)) same dots.is_own))

own_fits : (g : Geometry) (v : Volume) (i : ℕ) (own : OwnedEntry) → own.named ≡ kind_in (inode_at g v own.inode) → FitsOwn i own
    → IsNamed g v (owned_of own) → ((owned_of own).name ≡ dot) × ((owned_of own).inode ≡ i)
own_fits g v i own named (inl none) is = absurd (kind_missing (inode_at g v own.inode) (sym named ∙ none) is)
own_fits g v i own named (inr parts) is = parts

-- what the second entry says, where the first one fits
pub dots_say : (g : Geometry) (v : Volume) (i : ℕ) (entries : List OwnedEntry) (own up : OwnedEntry) (r : Up) → AreOwned g v i entries → slice_get entries 0 ≡ Some own
    → slice_get entries 1 ≡ Some up → FitsOwn i own → SaysUp up r → SaysDots g v i r
dots_say g v i entries own up Wrong all first second fits says = λ dots.
    let same = dots_entry g v i 1 entries up (dots.up) all second dots.second in
    let named = all.named 1 up second in
    let there : IsNamed g v (owned_of up) = kind_there (inode_at g v up.inode) (λ none. says.0 (named ∙ none)) in
    let is = subst (λ (e : DirEntry). IsNamed g v e → (e.name ≡ dot_dot) × IsUp g v i e.inode) same dots.is_up there in
    says.1 (named ∙ directory_kind (inode_at g v up.inode) (is.1).directory, is.0)
dots_say g v i entries own up Unjudged all first second fits says = record {
  own = owned_of own;
  up = owned_of up;
  first = owned_at g v i 0 entries own all first;
  second = owned_at g v i 1 entries up all second;
  is_own = own_fits g v i own (all.named 0 own first) fits;
  is_up = λ is. absurd (kind_missing (inode_at g v up.inode) (sym (all.named 1 up second) ∙ says) is);
}
dots_say g v i entries own up (Leads p) all first second fits says =
    let named = all.named 1 up second in
    let directory = kind_directory (inode_at g v up.inode) (sym named ∙ says.0.0) in
    let there : IsNamed g v (owned_of up) = kind_there (inode_at g v up.inode) (λ none. let no : Some Directory ≡ None = sym says.0.0 ∙ named ∙ none in cc) in (
      λ dots.
          let same = dots_entry g v i 1 entries up (dots.up) all second dots.second in
          let is = (subst (λ (e : DirEntry). IsNamed g v e → (e.name ≡ dot_dot) × IsUp g v i e.inode) same dots.is_up there).1 in
          subst (MayLead g v i) says.1 (is.root, is.parent),
      λ may.
          let leads : MayLead g v i up.inode = subst (MayLead g v i) (sym says.1) may in record {
            own = owned_of own;
            up = owned_of up;
            first = owned_at g v i 0 entries own all first;
            second = owned_at g v i 1 entries up all second;
            is_own = own_fits g v i own (all.named 0 own first) fits;
            is_up = λ is. (says.0.1, record { directory = directory; root = leads.0; parent = leads.1 });
          },
    )

-- ---- one more directory

up_more : (g : Geometry) (v : Volume) (i d : ℕ) (kept : Option Up) → ((entries : List DirEntry) → d ≡ i → HasEntries g v d entries → ⊥) → UpAt g v i d kept → UpAt g v (i + 1) d kept
up_more g v i d None none h = λ entries lt has. elim (cases_order d i) [
  | inl same ↦ none entries same has
  | inr order ↦ elim order [
    | inl less ↦ h entries less has
    | inr greater ↦ absurd (omega arith)
  ]
]
up_more g v i d (Some up) none h = record { within = let lt = h.within in omega arith; entries = h.entries; are = h.are; up_is = h.up_is }

up_by : (g : Geometry) (v : Volume) (i d : ℕ) (entries : List DirEntry) (up : Up) (kept : Option Up) (b : Bool) → HasEntries g v i entries → SaysDots g v i up → (i == d) ≡ b
    → UpAt g v i d kept → UpAt g v (i + 1) d (if b then Some up else kept)
up_by g v i d entries up kept true has up_is is h =
    let same = (Decides-eqb i d).0 is in
    subst (λ d. UpKept g v (i + 1) d up) same (record { within = omega arith; entries = entries; are = has; up_is = up_is })
up_by g v i d entries up kept false has up_is is h =
    up_more g v i d kept (λ entries same has. let no : true ≡ false = sym ((Decides-eqb i d).1 (sym same)) ∙ is in cc) h

pub ups_next : (g : Geometry) (v : Volume) (i : ℕ) (entries : List DirEntry) (up : Up) (old new : BTreeMap ℕ Up) → HasEntries g v i entries → SaysDots g v i up → SetsUp old new i up
    → UpsBelow g v i old → UpsBelow g v (i + 1) new
ups_next g v i entries up old new has up_is sets so_far = record {
  each = λ d. subst (UpAt g v (i + 1) d) (sym (sets d)) (up_by g v i d entries up (get nat_cmp old d) (i == d) has up_is refl (so_far.each d));
}

ups_passed : (g : Geometry) (v : Volume) (i : ℕ) (ups : BTreeMap ℕ Up) → ((entries : List DirEntry) → HasEntries g v i entries → ⊥) → UpsBelow g v i ups → UpsBelow g v (i + 1) ups
ups_passed g v i ups none so_far = record {
  each = λ d. up_more g v i d (get nat_cmp ups d) (λ entries same has. none entries (subst (λ d. HasEntries g v d entries) same has)) (so_far.each d);
}

-- ---- the whole table

pub table_passed : (g : Geometry) (v : Volume) (i : ℕ) (table : LinkTable) → ((entries : List DirEntry) → HasEntries g v i entries → ⊥) → TableBelow g v i table → TableBelow g v (i + 1) table
table_passed g v i table none so_far = record {
  ups = ups_passed g v i table.ups none so_far.ups;
  parents = parents_passed g v i table.parents none so_far.parents;
}

none_low : (g : Geometry) (v : Volume) (n d j : ℕ) → PlainBefore g v 2 0 n d j → ⊥
none_low g v n d j h =
    let low = (entries_within g v d (h.plain.here.entries) h.plain.here.are).0 in
    elim h.before [
      | inl less ↦ absurd (omega arith)
      | inr at ↦ let lt = at.1 in absurd (omega arith)
    ]

-- no directory is below the root
pub table_empty : (g : Geometry) (v : Volume) (table : LinkTable) → IsEmptyTable table → TableBelow g v 2 table
table_empty g v table empty = record {
  ups = record { each = λ d. subst (UpAt g v 2 d) (sym (empty.ups d)) (λ entries lt has. let low = (entries_within g v d entries has).0 in absurd (omega arith)) };
  parents = record { each = λ n. subst (ParentAt g v 2 0 n) (sym (empty.parents n)) (none_low g v n) };
}
