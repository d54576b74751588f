-- Entries in memory, and what they name on the volume.
use Rattle.std.proofs.Common.{◌≡◌, ◌≢◌, ◌∙◌, ℕ, ◌<◌, inl, inr, Bool, true, false, List, [], ◌∷◌, Option, Some, None, Result, Ok, Err, length, get_or, refl, sym, ap, subst}
use Rattle.std.specs.Prelude.{map, IfOk, MatchOption, OnOk, slice_get}
use Rattle.std.specs.Bool.{Decides}
use Rattle.std.specs.List.{list_any}
use Rattle.std.specs.Option.{is_none, is_some, option_map}
use Rattle.std.proofs.lemmas.Bool.Decides.{Decides-like}
use Rattle.std.proofs.lemmas.List.Folds.{Any-from_list_any, list_any-from_Any}
use Rattle.std.proofs.lemmas.Option.{get_or_from_slice_get, slice_get-map, slice_get_read, slice_get_within}
use Rattle.ufs_model.specs.Blocks.{Volume}
use Rattle.ufs_model.specs.Chunks.{DirEntry}
use Rattle.ufs_model.specs.Inodes.{kind_of}
use Rattle.ufs_model.specs.Malformations.{EntryAt, HasEntries, IsDirectory, IsInode, inode_at}
use Rattle.ufs_model.specs.Paths.{entries_of}
use Rattle.ufs_model.specs.declared.geometries.Geometry.{Geometry}
use Rattle.ufs_model.specs.declared.inodes.Inode.{Inode}
use Rattle.ufs_model.specs.declared.inodes.Kind.{Kind}
use Rattle.ufs_model.specs.declared.inodes.Kind.TheVariants.{Directory}
use Rattle.ufs_check.specs.OwnedEntries.{AreOwned, kind_in, owned_all, owned_of, seen_all, seen_in, seen_of}
use Rattle.ufs_check.specs.declared.owned_entries.OwnedEntry.{OwnedEntry}

-- ---- answers

pub if_ok : {A E : Type 0} (r : Result A E) (P Q : A → Type 0) → ((a : A) → P a → Q a) → IfOk r P → IfOk r Q
if_ok (Ok a) P Q more h = more a h
if_ok (Err e) P Q more h = tt

pub on_ok : {A E : Type 0} (r : Result A E) (P Q : Type 0) → (P → Q) → OnOk r P → OnOk r Q
on_ok (Ok a) P Q more h = more h
on_ok (Err e) P Q more h = tt

-- ---- entries in memory

pub owned_read : (entries : List OwnedEntry) (k : ℕ) (owned : OwnedEntry) → k < length entries → owned ≡ get_or entries k owned → slice_get entries k ≡ Some owned
owned_read entries k owned below is = slice_get_read entries (length entries) k owned refl below is

-- an entry in memory at a place, of which this is said
pub record IsOwned (entries : List OwnedEntry) (k : ℕ) (entry : DirEntry) : Type 0 where
  pub owned : OwnedEntry
  pub here : slice_get entries k ≡ Some owned
  pub is : owned_of owned ≡ entry

mapped_some : (entries : List OwnedEntry) (k : ℕ) (o : Option OwnedEntry) (entry : DirEntry) → slice_get entries k ≡ o → option_map owned_of o ≡ Some entry → IsOwned entries k entry
mapped_some entries k (Some owned) entry here is = record { owned = owned; here = here; is = let both : Some (owned_of owned) ≡ Some entry = is in cc }
mapped_some entries k None entry here is = let no : None ≡ Some entry = is in cc

pub owned_from : (entries : List OwnedEntry) (k : ℕ) (entry : DirEntry) → slice_get (owned_all entries) k ≡ Some entry → IsOwned entries k entry
owned_from entries k entry is = mapped_some entries k (slice_get entries k) entry refl (sym (slice_get-map owned_of entries k) ∙ is)

pub owned_to : (entries : List OwnedEntry) (k : ℕ) (owned : OwnedEntry) → slice_get entries k ≡ Some owned → slice_get (owned_all entries) k ≡ Some (owned_of owned)
owned_to entries k owned here = slice_get-map owned_of entries k ∙ ap (option_map owned_of) here

pub owned_within : (entries : List OwnedEntry) (k : ℕ) (entry : DirEntry) → slice_get (owned_all entries) k ≡ Some entry → k < length entries
owned_within entries k entry is = let found = owned_from entries k entry is in slice_get_within entries k (found.owned) found.here

-- ---- the entries of a directory

same_read : (g : Geometry) (v : Volume) (o : Option Inode) (entries others : List DirEntry)
    → MatchOption o ⊥ (λ inode. (kind_of inode.mode ≡ Directory) × ((entries_of g inode v).value ≡ Ok entries))
    → MatchOption o ⊥ (λ inode. (kind_of inode.mode ≡ Directory) × ((entries_of g inode v).value ≡ Ok others)) → others ≡ entries
same_read g v (Some inode) entries others one other = let both : Ok others ≡ Ok entries = sym other.1 ∙ one.1 in cc
same_read g v None entries others one other = absurd one

-- a directory has one list of entries
pub same_entries : (g : Geometry) (v : Volume) (i : ℕ) (entries others : List DirEntry) → HasEntries g v i entries → HasEntries g v i others → others ≡ entries
same_entries g v i entries others one other = same_read g v (inode_at g v i) entries others one other

pub entry_here : (g : Geometry) (v : Volume) (i k : ℕ) (entries : List DirEntry) (entry : DirEntry) → HasEntries g v i entries → EntryAt g v i k entry → slice_get entries k ≡ Some entry
entry_here g v i k entries entry has at = subst (λ es. slice_get es k ≡ Some entry) (same_entries g v i entries (at.entries) has at.are) at.here

-- ---- what is gathered

seen_heads : (g : Geometry) (v : Volume) (owned : OwnedEntry) (entry : DirEntry) → seen_of owned ≡ seen_in g v entry → owned_of owned ≡ entry
seen_heads g v owned entry is = ap (λ (seen : DirEntry × Option Kind). seen.0) is

seen_first : {A : Type 0} (x y : A) (xs ys : List A) → x ∷ xs ≡ y ∷ ys → x ≡ y
seen_first x y xs ys is = cc

seen_rest : {A : Type 0} (x y : A) (xs ys : List A) → x ∷ xs ≡ y ∷ ys → xs ≡ ys
seen_rest x y xs ys is = cc

pub seen_entries : (g : Geometry) (v : Volume) (owned : List OwnedEntry) (entries : List DirEntry) → seen_all owned ≡ map (seen_in g v) entries → owned_all owned ≡ entries
seen_entries g v [] [] is = refl
seen_entries g v [] (entry ∷ entries) is = let no : [] ≡ seen_in g v entry ∷ map (seen_in g v) entries = is in cc
seen_entries g v (one ∷ owned) [] is = let no : seen_of one ∷ seen_all owned ≡ [] = is in cc
seen_entries g v (one ∷ owned) (entry ∷ entries) is =
    let first = seen_heads g v one entry (seen_first _ _ _ _ is) in
    let rest = seen_entries g v owned entries (seen_rest _ _ _ _ is) in
    ap (λ (e : DirEntry). e ∷ owned_all owned) first ∙ ap (λ es. entry ∷ es) rest

seen_by : (g : Geometry) (v : Volume) (owned : OwnedEntry) (entry : Option DirEntry) → Some (seen_of owned) ≡ option_map (seen_in g v) entry → owned.named ≡ kind_in (inode_at g v owned.inode)
seen_by g v owned None is = let no : Some (seen_of owned) ≡ None = is in cc
seen_by g v owned (Some entry) is =
    let both : Some (seen_of owned) ≡ Some (seen_in g v entry) = is in
    let same : seen_of owned ≡ seen_in g v entry = cc in
    let kind : owned.named ≡ kind_in (inode_at g v entry.inode) = ap (λ (seen : DirEntry × Option Kind). seen.1) same in
    kind ∙ ap (λ (e : DirEntry). kind_in (inode_at g v e.inode)) (sym (seen_heads g v owned entry same))

seen_named : (g : Geometry) (v : Volume) (entries : List OwnedEntry) (said : List DirEntry) (k : ℕ) (owned : OwnedEntry) → seen_all entries ≡ map (seen_in g v) said
    → slice_get entries k ≡ Some owned → owned.named ≡ kind_in (inode_at g v owned.inode)
seen_named g v entries said k owned seen here =
    seen_by g v owned (slice_get said k)
    (sym (slice_get-map seen_of entries k ∙ ap (option_map seen_of) here) ∙ ap (λ list. slice_get list k) seen ∙ slice_get-map (seen_in g v) said k)

-- the entries that were gathered are those of the directory
pub owned_are : (g : Geometry) (v : Volume) (i : ℕ) (owned : List OwnedEntry) (entries : List DirEntry) → seen_all owned ≡ map (seen_in g v) entries → HasEntries g v i entries → AreOwned g v i owned
owned_are g v i owned entries seen has = record {
  are = subst (HasEntries g v i) (sym (seen_entries g v owned entries seen)) has;
  named = λ k one here. seen_named g v owned entries k one seen here;
}

-- ---- entries of the volume

pub owned_at : (g : Geometry) (v : Volume) (i k : ℕ) (entries : List OwnedEntry) (owned : OwnedEntry) → AreOwned g v i entries → slice_get entries k ≡ Some owned → EntryAt g v i k (owned_of owned)
owned_at g v i k entries owned all here = record { entries = owned_all entries; are = all.are; here = owned_to entries k owned here }

pub at_owned : (g : Geometry) (v : Volume) (i k : ℕ) (entries : List OwnedEntry) (entry : DirEntry) → AreOwned g v i entries → EntryAt g v i k entry → IsOwned entries k entry
at_owned g v i k entries entry all at = owned_from entries k entry (entry_here g v i k (owned_all entries) entry all.are at)

-- ---- what an entry names

pub kind_some : (o : Option Inode) → Decides (is_some (kind_in o)) (MatchOption o ⊥ (λ _. Unit {0}))
kind_some None = (λ h. let no : false ≡ true = h in cc, λ h. absurd h)
kind_some (Some inode) = (λ h. tt, λ h. refl)

pub kind_none : (o : Option Inode) → Decides (is_none (kind_in o)) (o ≡ None)
kind_none None = (λ h. refl, λ h. refl)
kind_none (Some inode) = (λ h. let no : false ≡ true = h in cc, λ h. let no : Some inode ≡ None = h in cc)

pub kind_there : (o : Option Inode) → (kind_in o ≢ None) → MatchOption o ⊥ (λ _. Unit {0})
kind_there None h = h refl
kind_there (Some inode) h = tt

pub kind_missing : (o : Option Inode) → kind_in o ≡ None → MatchOption o ⊥ (λ _. Unit {0}) → ⊥
kind_missing None none h = absurd h
kind_missing (Some inode) none h = let no : Some (kind_of inode.mode) ≡ None = none in cc

pub kind_directory : (o : Option Inode) → kind_in o ≡ Some Directory → MatchOption o ⊥ (λ inode. (kind_of inode.mode ≡ Directory) × Unit {0})
kind_directory None is = let no : None ≡ Some Directory = is in cc
kind_directory (Some inode) is = (let both : Some (kind_of inode.mode) ≡ Some Directory = is in cc, tt)

pub directory_kind : (o : Option Inode) → MatchOption o ⊥ (λ inode. (kind_of inode.mode ≡ Directory) × Unit {0}) → kind_in o ≡ Some Directory
directory_kind None h = absurd h
directory_kind (Some inode) h = ap Some h.0

-- ---- one of the entries

-- an entry of a directory of which something holds
pub record HasEntryOf (g : Geometry) (v : Volume) (i : ℕ) (holds : DirEntry → Type 0) : Type 0 where
  pub k : ℕ
  pub entry : DirEntry
  pub here : EntryAt g v i k entry
  pub is : holds entry

-- what a test of each entry in memory tells
pub any_decides : (g : Geometry) (v : Volume) (i : ℕ) (entries : List OwnedEntry) (test : OwnedEntry → Bool) (holds : DirEntry → Type 0) → AreOwned g v i entries
    → ((owned : OwnedEntry) → owned.named ≡ kind_in (inode_at g v owned.inode) → Decides (test owned) (holds (owned_of owned))) → Decides (list_any test entries) (HasEntryOf g v i holds)
any_decides g v i entries test holds all each = (
  λ h.
      let any = Any-from_list_any test entries h in
      let here = slice_get_read entries (length entries) any.0 any.1 refl any.2 (sym any.3) in
      record { k = any.0; entry = owned_of any.1; here = owned_at g v i any.0 entries any.1 all here; is = (each any.1 (all.named any.0 any.1 here)).0 any.4 },
  λ h.
      let k = h.k in
      let found = at_owned g v i (h.k) entries (h.entry) all h.here in
      let is : test (found.owned) ≡ true = (each (found.owned) (all.named (h.k) (found.owned) found.here)).1 (subst holds (sym found.is) h.is) in
      list_any-from_Any test entries
      (k, found.owned, slice_get_within entries k (found.owned) found.here, get_or_from_slice_get entries k (found.owned) (found.owned) found.here, is),
)
