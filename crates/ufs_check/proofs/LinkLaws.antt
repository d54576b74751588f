-- What the entries of all directories tell.
use Rattle.std.proofs.Common.{◌≡◌, ◌≢◌, ◌∙◌, ℕ, ◌+◌, ◌*◌, ◌<◌, ◌≤◌, inl, inr, Bool, true, false, List, [], Option, Some, None, refl, sym, subst, arith}
use Rattle.std.specs.Prelude.{◌==◌, ◌&&◌, not, if◌then◌else◌}
use Rattle.std.specs.Bool.{Decides}
use Rattle.std.specs.BTreeMap.{get}
use Rattle.std.specs.Option.{is_some}
use Rattle.std.specs.Ordering.{nat_cmp}
use Rattle.std.proofs.lemmas.Bool.{cases_order}
use Rattle.std.proofs.lemmas.Bool.Decides.{Decides-and, Decides-eqb, Decides-like, Decides-not}
use Rattle.ufs_model.specs.Blocks.{Volume}
use Rattle.ufs_model.specs.Chunks.{DirEntry}
use Rattle.ufs_model.specs.Malformations.{HasEntries, IsBad, IsDirectory, IsParent, PlainAt}
use Rattle.ufs_model.specs.declared.geometries.Geometry.{Geometry}
use Rattle.ufs_model.specs.declared.inodes.Inode.{Inode}
use Rattle.ufs_model.specs.declared.malformations.BadKind.TheVariants.{Dots, DirTwice}
use Rattle.ufs_check.specs.Directories.{AreDirectoryFaultsBelow}
use Rattle.ufs_check.specs.Links.{AreLinkFaults, AreLinks, AreLinksBelow, IsEmptyTable, IsEntered, MayLead, ParentAt, PlainBefore, TwoBefore, UpAt, bad_dots_in, bad_up, fits_parent, is_twice, leads_in, named_twice_in}
use Rattle.ufs_check.specs.Notes.{AreAllBelow}
use Rattle.ufs_check.specs.declared.links.LinkFaults.{LinkFaults}
use Rattle.ufs_check.specs.declared.parents.LinkTable.{LinkTable}
use Rattle.ufs_check.specs.declared.parents.Parent.{Parent}
use Rattle.ufs_check.specs.declared.parents.Up.{Up}
use Rattle.ufs_check.specs.declared.parents.Up.TheVariants.{Wrong, Unjudged, Leads}
use Rattle.ufs_check.specs.declared.verdicts.DirectoryFaults.{DirectoryFaults}
use Rattle.ufs_check.proofs.FaultLaws.{blocks_passed, directory_within, entries_passed, entries_within, long_passed}
use Rattle.ufs_check.proofs.NoteLaws.{all_all, all_empty}
use Rattle.ufs_check.proofs.ParentLaws.{table_empty, table_passed}

-- ---- parents

before_end : (g : Geometry) (v : Volume) (bound n d j : ℕ) → g.ncg * g.ipg ≤ bound → PlainAt g v d j n → PlainBefore g v bound 0 n d j
before_end g v bound n d j last plain = record {
  plain = plain;
  before = inl (let high = (entries_within g v d (plain.here.entries) plain.here.are).1 in omega arith);
}

fits_decides : (g : Geometry) (v : Volume) (bound i p : ℕ) (kept : Option Parent) → g.ncg * g.ipg ≤ bound → ParentAt g v bound 0 i kept
    → Decides (fits_parent kept p) ((d : ℕ) → IsParent g v i d → p ≡ d)
fits_decides g v bound i p None last h = (λ is d parent. absurd (h d (parent.k) (before_end g v bound i d (parent.k) last parent.entry)), λ only. refl)
fits_decides g v bound i p (Some parent) last h =
    let least : (other k : ℕ) → other < parent.directory → PlainAt g v other k i → ⊥ =
    λ other k less plain. let low = h.least other k (before_end g v bound i other k last plain) in absurd (omega arith) in
    let is : IsParent g v i parent.directory = record { k = h.j; entry = h.entry.plain; least = least } in
    Decides-like (parent.directory == p)
    (λ same d other. elim (cases_order parent.directory d) [
      | inl equal ↦ sym same ∙ equal
      | inr order ↦ elim order [
        | inl less ↦ absurd (other.least parent.directory (h.j) less h.entry.plain)
        | inr greater ↦ absurd (least d (other.k) greater other.entry)
      ]
    ])
    (λ only. sym (only parent.directory is))
    (Decides-eqb parent.directory p)

-- ---- where `..` leads

root_by : (g : Geometry) (v : Volume) (i p : ℕ) (root fits : Bool) → (i == 2) ≡ root → Decides fits ((d : ℕ) → IsParent g v i d → p ≡ d)
    → Decides (if root then p == 2 else fits) ((i ≡ 2 → p ≡ 2) × (i ≢ 2 → (d : ℕ) → IsParent g v i d → p ≡ d))
root_by g v i p true fits is decides =
    let two = (Decides-eqb i 2).0 is in
    Decides-like (p == 2) (λ h. (λ same. h, λ other. absurd (other two))) (λ h. h.0 two) (Decides-eqb p 2)
root_by g v i p false fits is decides =
    let other : i ≢ 2 = λ same. let no : true ≡ false = sym ((Decides-eqb i 2).1 same) ∙ is in cc in
    Decides-like fits (λ h. (λ same. absurd (other same), λ _. h)) (λ h. h.1 other) decides

pub leads_decide : (g : Geometry) (v : Volume) (i p : ℕ) (table : LinkTable) → AreLinks g v table → Decides (leads_in table i p) (MayLead g v i p)
leads_decide g v i p table links =
    root_by g v i p (i == 2) (fits_parent (get nat_cmp table.parents i) p) refl
    (fits_decides g v (links.bound) i p (get nat_cmp table.parents i) links.last (links.kept.parents.each i))

-- ---- the first two entries

bad_by : (g : Geometry) (v : Volume) (bound i : ℕ) (kept : Option Up) (test : ℕ → Bool) → g.ncg * g.ipg ≤ bound → UpAt g v bound i kept → ((p : ℕ) → Decides (test p) (MayLead g v i p))
    → Decides (bad_up kept test) (IsBad g v Dots i)
bad_by g v bound i None test last h tests = (
  λ is. let no : false ≡ true = is in cc,
  λ bad. let high = (entries_within g v i bad.0.0 bad.0.1).1 in absurd (h bad.0.0 (omega arith) bad.0.1),
)
bad_by g v bound i (Some Wrong) test last h tests = (λ is. ((h.entries, h.are), h.up_is), λ bad. refl)
bad_by g v bound i (Some Unjudged) test last h tests = (λ is. let no : false ≡ true = is in cc, λ bad. absurd (bad.1 h.up_is))
bad_by g v bound i (Some (Leads p)) test last h tests =
    Decides-like (not (test p)) (λ no. ((h.entries, h.are), λ dots. no (h.up_is.0 dots))) (λ bad may. bad.1 (h.up_is.1 may)) (Decides-not (test p) (tests p))

pub bad_dots_decide : (g : Geometry) (v : Volume) (i : ℕ) (table : LinkTable) → AreLinks g v table → Decides (bad_dots_in table i) (IsBad g v Dots i)
bad_dots_decide g v i table links =
    bad_by g v (links.bound) i (get nat_cmp table.ups i) (leads_in table i) links.last (links.kept.ups.each i) (λ p. leads_decide g v i p table links)

-- ---- directories with two entries

twice_by : (g : Geometry) (v : Volume) (bound d : ℕ) (kept : Option Parent) → g.ncg * g.ipg ≤ bound → ParentAt g v bound 0 d kept → Decides (is_twice kept) (IsBad g v DirTwice d)
twice_by g v bound d None last h = (λ is. let no : false ≡ true = is in cc, λ bad. absurd (h (bad.i) (bad.j) (before_end g v bound d (bad.i) (bad.j) last bad.first)))
twice_by g v bound d (Some parent) last h =
    Decides-like (parent.of_directory && parent.twice)
    (λ is. record {
      i = is.1.one;
      j = is.1.one_place;
      k = is.1.other;
      l = is.1.other_place;
      directory = is.0;
      differ = is.1.differ;
      first = is.1.first.plain;
      second = is.1.second.plain;
    })
    (λ bad. (
      bad.directory,
      record {
        one = bad.i;
        one_place = bad.j;
        other = bad.k;
        other_place = bad.l;
        differ = bad.differ;
        first = before_end g v bound d (bad.i) (bad.j) last bad.first;
        second = before_end g v bound d (bad.k) (bad.l) last bad.second;
      },
    ))
    (Decides-and parent.of_directory parent.twice h.of_directory h.twice)

pub twice_decides : (g : Geometry) (v : Volume) (d : ℕ) (table : LinkTable) → AreLinks g v table → Decides (named_twice_in table d) (IsBad g v DirTwice d)
twice_decides g v d table links = twice_by g v (links.bound) d (get nat_cmp table.parents d) links.last (links.kept.parents.each d)

-- ---- whether an inode is named

entered_by : (g : Geometry) (v : Volume) (bound n : ℕ) (kept : Option Parent) → g.ncg * g.ipg ≤ bound → ParentAt g v bound 0 n kept → Decides (is_some kept) (IsEntered g v n)
entered_by g v bound n None last h = (λ is. let no : false ≡ true = is in cc, λ one. absurd (h (one.d) (one.k) (before_end g v bound n (one.d) (one.k) last one.plain)))
entered_by g v bound n (Some parent) last h = (λ is. record { d = parent.directory; k = h.j; plain = h.entry.plain }, λ one. refl)

pub entered_decides : (g : Geometry) (v : Volume) (n : ℕ) (table : LinkTable) → AreLinks g v table → Decides (is_some (get nat_cmp table.parents n)) (IsEntered g v n)
entered_decides g v n table links = entered_by g v (links.bound) n (get nat_cmp table.parents n) links.last (links.kept.parents.each n)

-- ---- all directories

dots_within : (g : Geometry) (v : Volume) (m : ℕ) → IsBad g v Dots m → (2 ≤ m) × (m < g.ncg * g.ipg)
dots_within g v m bad = entries_within g v m bad.0.0 bad.0.1

twice_within : (g : Geometry) (v : Volume) (m : ℕ) → IsBad g v DirTwice m → (2 ≤ m) × (m < g.ncg * g.ipg)
twice_within g v m bad = directory_within g v m (λ _. Unit {0}) bad.directory

pub dots_none : (g : Geometry) (v : Volume) (numbers : List ℕ) → numbers ≡ [] → AreAllBelow (IsBad g v Dots) 2 numbers
dots_none g v numbers none = all_empty (IsBad g v Dots) 2 numbers none (λ m low bad. let high = (dots_within g v m bad).0 in absurd (omega arith))

pub twice_none : (g : Geometry) (v : Volume) (numbers : List ℕ) → numbers ≡ [] → AreAllBelow (IsBad g v DirTwice) 2 numbers
twice_none g v numbers none = all_empty (IsBad g v DirTwice) 2 numbers none (λ m low bad. let high = (twice_within g v m bad).0 in absurd (omega arith))

pub links_all : (g : Geometry) (v : Volume) (end : ℕ) (faults : LinkFaults) → g.ncg * g.ipg ≤ end → AreAllBelow (IsBad g v Dots) end faults.dots.items
    → AreAllBelow (IsBad g v DirTwice) end faults.dir_twice.items → AreLinkFaults g v faults
links_all g v end faults past dots twice = record {
  dots = all_all (IsBad g v Dots) end faults.dots.items (λ m bad. let high = (dots_within g v m bad).1 in omega arith) dots;
  dir_twice = all_all (IsBad g v DirTwice) end faults.dir_twice.items (λ m bad. let high = (twice_within g v m bad).1 in omega arith) twice;
}

-- ---- one more inode

-- one that is no directory
pub links_passed : (g : Geometry) (v : Volume) (i : ℕ) (table : LinkTable) (faults : DirectoryFaults) → ((holds : Inode → Type 0) → IsDirectory g v i holds → ⊥)
    → ((entries : List DirEntry) → HasEntries g v i entries → ⊥) → AreLinksBelow g v i table faults → AreLinksBelow g v (i + 1) table faults
links_passed g v i table faults none unread so_far = record {
  kept = table_passed g v i table unread so_far.kept;
  noted = record { blocks = blocks_passed g v i faults none so_far.noted.blocks; entries = entries_passed g v i faults unread so_far.noted.entries };
}
