-- What is wrong between the entries of directories. The words of this file are this crate's own.
use Rattle.std.specs.Prelude.{◌≡◌, ◌≢◌, ◌⊎◌, ◌↔◌, ℕ, ◌*◌, ◌<◌, ◌≤◌, ◌==◌, ◌&&◌, not, Bool, true, false, List, Option, Some, None, MatchOption, if◌then◌else◌}
use Rattle.std.specs.Bool.{Decides}
use Rattle.std.specs.BTreeMap.{BTreeMap, get}
use Rattle.std.specs.Ordering.{nat_cmp}
use Rattle.ufs_model.specs.Audits.{AreAll}
use Rattle.ufs_model.specs.Blocks.{Volume}
use Rattle.ufs_model.specs.Chunks.{DirEntry}
use Rattle.ufs_model.specs.Malformations.{HasDots, HasEntries, IsBad, IsDirectory, IsParent, PlainAt, dot, dot_dot}
use Rattle.ufs_model.specs.Trees.{is_plain}
use Rattle.ufs_model.specs.declared.geometries.Geometry.{Geometry}
use Rattle.ufs_model.specs.declared.inodes.Kind.TheVariants.{Directory}
use Rattle.ufs_model.specs.declared.malformations.BadKind.TheVariants.{Dots, DirTwice}
use Rattle.ufs_check.specs.Directories.{AreDirectoryFaultsBelow}
use Rattle.ufs_check.specs.OwnedEntries.{owned_of}
use Rattle.ufs_check.specs.declared.links.LinkFaults.{LinkFaults}
use Rattle.ufs_check.specs.declared.owned_entries.OwnedEntry.{OwnedEntry}
use Rattle.ufs_check.specs.declared.parents.LinkTable.{LinkTable}
use Rattle.ufs_check.specs.declared.parents.Parent.{Parent}
use Rattle.ufs_check.specs.declared.parents.Up.{Up}
use Rattle.ufs_check.specs.declared.parents.Up.TheVariants.{Wrong, Unjudged, Leads}
use Rattle.ufs_check.specs.declared.verdicts.DirectoryFaults.{DirectoryFaults}

-- ---- the pass

-- of each kind all directories
pub record AreLinkFaults (g : Geometry) (v : Volume) (faults : LinkFaults) : Type 0 where
  pub dots : AreAll (IsBad g v Dots) faults.dots.items
  pub dir_twice : AreAll (IsBad g v DirTwice) faults.dir_twice.items

-- ---- the first two entries of a directory

-- an entry is `.` for directory i, or names no inode
abbrev pub FitsOwn : ℕ → OwnedEntry → Type 0
FitsOwn i own = (own.named ≡ None) ⊎ ((own.name.items ≡ dot) × (own.inode ≡ i))

-- an entry is `..` for a directory
abbrev pub IsDotDot : OwnedEntry → Type 0
IsDotDot up = (up.named ≡ Some Directory) × (up.name.items ≡ dot_dot)

-- what the second entry says by itself
abbrev pub SaysUp : OwnedEntry → Up → Type 0
SaysUp up Wrong = (up.named ≢ None) × (IsDotDot up → ⊥)
SaysUp up Unjudged = up.named ≡ None
SaysUp up (Leads p) = IsDotDot up × (up.inode ≡ p)

-- `..` of directory i may name directory p
abbrev pub MayLead : Geometry → Volume → ℕ → ℕ → Type 0
MayLead g v i p = (i ≡ 2 → p ≡ 2) × (i ≢ 2 → (d : ℕ) → IsParent g v i d → p ≡ d)

-- what both say of directory i
abbrev pub SaysDots : Geometry → Volume → ℕ → Up → Type 0
SaysDots g v i Wrong = HasDots g v i → ⊥
SaysDots g v i Unjudged = HasDots g v i
SaysDots g v i (Leads p) = HasDots g v i ↔ MayLead g v i p

-- what is kept of a directory below a bound
pub record UpKept (g : Geometry) (v : Volume) (bound d : ℕ) (up : Up) : Type 0 where
  pub within : d < bound
  pub entries : List DirEntry
  pub are : HasEntries g v d entries
  pub up_is : SaysDots g v d up

-- what is kept of an inode, of which none is a directory below the bound whose entries are read
abbrev pub UpAt : Geometry → Volume → ℕ → ℕ → Option Up → Type 0
UpAt g v bound d kept = MatchOption kept ((entries : List DirEntry) → d < bound → HasEntries g v d entries → ⊥) (UpKept g v bound d)

-- the directories below a bound are kept
pub record UpsBelow (g : Geometry) (v : Volume) (bound : ℕ) (ups : BTreeMap ℕ Up) : Type 0 where
  pub each : (d : ℕ) → UpAt g v bound d (get nat_cmp ups d)

-- directory i has this kept
abbrev pub SetsUp : BTreeMap ℕ Up → BTreeMap ℕ Up → ℕ → Up → Type 0
SetsUp old new i up = (d : ℕ) → get nat_cmp new d ≡ (if i == d then Some up else get nat_cmp old d)

-- ---- plain entries

-- plain entry number j of directory d is for inode n, and comes before entry number k of directory i
pub record PlainBefore (g : Geometry) (v : Volume) (i k n d j : ℕ) : Type 0 where
  pub plain : PlainAt g v d j n
  pub before : (d < i) ⊎ ((d ≡ i) × (j < k))

-- two such entries
pub record TwoBefore (g : Geometry) (v : Volume) (i k n : ℕ) : Type 0 where
  pub one : ℕ
  pub one_place : ℕ
  pub other : ℕ
  pub other_place : ℕ
  pub differ : (one ≢ other) ⊎ (one_place ≢ other_place)
  pub first : PlainBefore g v i k n one one_place
  pub second : PlainBefore g v i k n other other_place

-- an inode is a directory
abbrev pub IsDirectoryAt : Geometry → Volume → ℕ → Type 0
IsDirectoryAt g v n = IsDirectory g v n (λ _. Unit {0})

-- what is kept of an inode with such an entry
pub record ParentKept (g : Geometry) (v : Volume) (i k n : ℕ) (parent : Parent) : Type 0 where
  pub j : ℕ
  pub entry : PlainBefore g v i k n parent.directory j
  pub least : (d j : ℕ) → PlainBefore g v i k n d j → parent.directory ≤ d
  pub twice : Decides parent.twice (TwoBefore g v i k n)
  pub of_directory : Decides parent.of_directory (IsDirectoryAt g v n)

abbrev pub ParentAt : Geometry → Volume → ℕ → ℕ → ℕ → Option Parent → Type 0
ParentAt g v i k n kept = MatchOption kept ((d j : ℕ) → PlainBefore g v i k n d j → ⊥) (ParentKept g v i k n)

-- the entries before number k of directory i are kept
pub record ParentsBefore (g : Geometry) (v : Volume) (i k : ℕ) (parents : BTreeMap ℕ Parent) : Type 0 where
  pub each : (n : ℕ) → ParentAt g v i k n (get nat_cmp parents n)

-- with one more entry, of directory i
abbrev pub linked : Option Parent → ℕ → Bool → Parent
linked None i of_directory = record { directory = i; twice = false; of_directory = of_directory }
linked (Some parent) i of_directory = record { directory = parent.directory; twice = true; of_directory = parent.of_directory }

-- an entry of directory i was added, if it is plain; it names a directory, or doesn't
abbrev pub AddsLink : BTreeMap ℕ Parent → BTreeMap ℕ Parent → ℕ → OwnedEntry → Bool → Type 0
AddsLink old new i entry of_directory = (n : ℕ)
    → get nat_cmp new n
    ≡ (if is_plain (owned_of entry) && (entry.inode == n) then Some (linked (get nat_cmp old entry.inode) i of_directory) else get nat_cmp old n)

-- the same, by the kind of the inode that the entry names
pub record AddsEntry (old new : BTreeMap ℕ Parent) (i : ℕ) (entry : OwnedEntry) : Type 0 where
  pub of_directory : Bool
  pub decides : Decides of_directory (entry.named ≡ Some Directory)
  pub adds : AddsLink old new i entry of_directory

-- ---- all that is kept

pub record TableBelow (g : Geometry) (v : Volume) (bound : ℕ) (table : LinkTable) : Type 0 where
  pub ups : UpsBelow g v bound table.ups
  pub parents : ParentsBefore g v bound 0 table.parents

-- nothing is kept
pub record IsEmptyTable (table : LinkTable) : Type 0 where
  pub ups : (d : ℕ) → get nat_cmp table.ups d ≡ None
  pub parents : (n : ℕ) → get nat_cmp table.parents n ≡ None

-- and what is noted
pub record AreLinksBelow (g : Geometry) (v : Volume) (bound : ℕ) (table : LinkTable) (faults : DirectoryFaults) : Type 0 where
  pub kept : TableBelow g v bound table
  pub noted : AreDirectoryFaultsBelow g v bound faults

-- all entries are kept
pub record AreLinks (g : Geometry) (v : Volume) (table : LinkTable) : Type 0 where
  pub bound : ℕ
  pub last : g.ncg * g.ipg ≤ bound
  pub kept : TableBelow g v bound table

-- a plain entry is for the inode
pub record IsEntered (g : Geometry) (v : Volume) (n : ℕ) : Type 0 where
  pub d : ℕ
  pub k : ℕ
  pub plain : PlainAt g v d k n

-- ---- what it tells

-- the inode has no parent, or this one
abbrev pub fits_parent : Option Parent → ℕ → Bool
fits_parent None p = true
fits_parent (Some parent) p = parent.directory == p

-- `..` of directory i may name p
abbrev pub leads_in : LinkTable → ℕ → ℕ → Bool
leads_in table i p = if i == 2 then p == 2 else fits_parent (get nat_cmp table.parents i) p

-- the entries of a directory are read, and the first ones don't fit
abbrev pub bad_up : Option Up → (ℕ → Bool) → Bool
bad_up None test = false
bad_up (Some Wrong) test = true
bad_up (Some Unjudged) test = false
bad_up (Some (Leads p)) test = not (test p)

abbrev pub bad_dots_in : LinkTable → ℕ → Bool
bad_dots_in table i = bad_up (get nat_cmp table.ups i) (leads_in table i)

abbrev pub is_twice : Option Parent → Bool
is_twice None = false
is_twice (Some parent) = parent.of_directory && parent.twice

abbrev pub named_twice_in : LinkTable → ℕ → Bool
named_twice_in table d = is_twice (get nat_cmp table.parents d)
