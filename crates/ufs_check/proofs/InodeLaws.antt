-- Where an inode is read, and what is noted of it.
use Rattle.std.proofs.Common.{◌≡◌, ◌∙◌, ℕ, ◌+◌, ◌*◌, ◌/◌, ◌%◌, ◌^◌, ◌<◌, ◌≤◌, List, Bool, true, false, None, Some, nat_lt, if◌then◌else◌, take, drop, refl, sym, subst, arith}
use Rattle.std.specs.Prelude.{MatchOption, nat_le, not}
use Rattle.std.specs.Bool.{Decides}
use Rattle.std.proofs.lemmas.Bool.Decides.{nat_tests}
use Rattle.ufs_model.specs.Blocks.{Volume, area_of, bind, block_at, consult}
use Rattle.ufs_model.specs.GroupMaps.{by_maps, group_bytes, group_in, is_marked_unused, is_used}
use Rattle.ufs_model.specs.Inodes.{has_pointers, kind_of, inode_block, inode_byte, inode_in, inode_of, is_inode_number}
use Rattle.ufs_model.specs.Malformations.{HasCrossing, HasMisaligned, HasPast, HasWild, IsBad, IsInode, IsPointed, inode_at}
use Rattle.ufs_model.specs.declared.inodes.Kind.TheVariants.{Unknown}
use Rattle.ufs_model.specs.declared.malformations.BadKind.TheVariants.{WrongType, Filesize, Past, Wild, Align, Run, Unused}
use Rattle.ufs_check.proofs.NoteLaws.{all_all, all_passed}
use Rattle.ufs_check.specs.Inodes.{AreInodeFaults, AreInodeFaultsBelow}
use Rattle.ufs_check.specs.Notes.{AreAllBelow}
use Rattle.ufs_check.specs.declared.verdicts.InodeFaults.{InodeFaults}
use Rattle.ufs_model.specs.declared.geometries.Geometry.{Geometry}
use Rattle.ufs_model.specs.declared.inodes.Inode.{Inode}

-- an area of one block
pub one_block : (l a : ℕ) → area_of l a 1 ≡ consult l a
unfolding area_of bind
one_block l a = let e : a + 0 ≡ a = omega arith in rw e refl

-- ---- where an inode stands

pub inode_there : (g : Geometry) (v : Volume) (i start : ℕ) (block : List ℕ) → 2 ≤ i → i < g.ncg * g.ipg → start ≡ inode_byte g i
    → block ≡ block_at g.fsize v (inode_block g i) → inode_at g v i ≡ inode_in g.endian (take 128 (drop start block))
unfolding inode_of bind
inode_there g v i start block low high at is =
    let within : is_inode_number g i ≡ true = grind (arith, nat_tests) in rw (within, at, is) refl

pub marked_there : (g : Geometry) (v : Volume) (i : ℕ) (bytes : List ℕ) → bytes ≡ (group_bytes g (i / g.ipg) v).value
    → (is_marked_unused g i v).value ≡ by_maps (group_in g (i / g.ipg) bytes) (λ group. not (is_used bytes group (i % g.ipg)))
unfolding is_marked_unused bind
marked_there g v i bytes is = rw is refl

-- ---- what is noted of an inode that is there

pub inode_decides : (g : Geometry) (v : Volume) (i : ℕ) (holds : Inode → Type 0) (inode : Inode) (b : Bool) → inode_at g v i ≡ Some inode
    → Decides b (holds inode) → Decides b (IsInode g v i holds)
inode_decides g v i holds inode b is decides = subst (λ o. Decides b (MatchOption o ⊥ holds)) (sym is) decides

pub pointed_decides : (g : Geometry) (v : Volume) (i : ℕ) (holds : Inode → Type 0) (inode : Inode) (b : Bool) → inode_at g v i ≡ Some inode
    → has_pointers g inode ≡ true → Decides b (holds inode) → Decides b (IsPointed g v i holds)
pointed_decides g v i holds inode b is pointers decides =
    inode_decides g v i (λ inode. (has_pointers g inode ≡ true) × holds inode) inode b is (λ h. (pointers, decides.0 h), λ h. decides.1 (h.1))

pub long_decides : (n m : ℕ) → Decides (nat_le n m) (n ≤ m)
long_decides n m = (λ h. grind (arith, nat_tests), λ h. grind (arith, nat_tests))

pub unused_decides : (unused marked : Bool) → marked ≡ unused → Decides unused (marked ≡ true)
unused_decides unused marked is = (λ h. is ∙ h, λ h. sym is ∙ h)

-- ---- what isn't noted

no_inode : (g : Geometry) (v : Volume) (i : ℕ) (holds : Inode → Type 0) → inode_at g v i ≡ None → IsInode g v i holds → ⊥
no_inode g v i holds is h = subst (λ o. MatchOption o ⊥ holds) is h

no_pointers : (g : Geometry) (v : Volume) (i : ℕ) (holds : Inode → Type 0) (inode : Inode) → inode_at g v i ≡ Some inode → has_pointers g inode ≡ false → IsPointed g v i holds → ⊥
no_pointers g v i holds inode is none h =
    let one = subst (λ o. MatchOption o ⊥ (λ inode. (has_pointers g inode ≡ true) × holds inode)) is h in
    let no : false ≡ true = sym none ∙ one.0 in cc

-- an inode of which something holds is one up to the last
in_range : (g : Geometry) (v : Volume) (i : ℕ) (holds : Inode → Type 0) (within : Bool) → MatchOption (if within then (inode_of g i v).value else None) ⊥ holds → within ≡ true
in_range g v i holds true h = refl
in_range g v i holds false h = absurd h

inode_inside : (g : Geometry) (v : Volume) (i : ℕ) (holds : Inode → Type 0) → IsInode g v i holds → i < g.ncg * g.ipg
inode_inside g v i holds h = let within = in_range g v i holds (is_inode_number g i) h in grind (arith, nat_tests)

-- an unallocated inode
pub inode_passed : (g : Geometry) (v : Volume) (i : ℕ) (faults : InodeFaults) → inode_at g v i ≡ None → AreInodeFaultsBelow g v i faults → AreInodeFaultsBelow g v (i + 1) faults
inode_passed g v i faults is so_far = let pointed = so_far.pointed in record {
  wrong_type = all_passed (IsBad g v WrongType) i _ (no_inode g v i (λ inode. kind_of inode.mode ≡ Unknown) is) so_far.wrong_type;
  unused = all_passed (IsBad g v Unused) i _ (no_inode g v i (λ inode. (is_marked_unused g i v).value ≡ true) is) so_far.unused;
  pointed = record {
    filesize = all_passed (IsBad g v Filesize) i _ (no_inode g v i (λ inode. (has_pointers g inode ≡ true) × (2 ^ 32 ≤ inode.size)) is) pointed.filesize;
    past = all_passed (IsBad g v Past) i _ (no_inode g v i (λ inode. (has_pointers g inode ≡ true) × HasPast g v inode) is) pointed.past;
    wild = all_passed (IsBad g v Wild) i _ (no_inode g v i (λ inode. (has_pointers g inode ≡ true) × HasWild g v inode) is) pointed.wild;
    align = all_passed (IsBad g v Align) i _ (no_inode g v i (λ inode. (has_pointers g inode ≡ true) × HasMisaligned g v inode) is) pointed.align;
    run = all_passed (IsBad g v Run) i _ (no_inode g v i (λ inode. (has_pointers g inode ≡ true) × HasCrossing g v inode) is) pointed.run;
  };
}

-- an inode without pointers
pub pointed_passed : (g : Geometry) (v : Volume) (i : ℕ) (inode : Inode) (filesize past wild align run : List ℕ) → inode_at g v i ≡ Some inode → has_pointers g inode ≡ false
    → (AreAllBelow (IsBad g v Filesize) i filesize → AreAllBelow (IsBad g v Filesize) (i + 1) filesize)
    × (AreAllBelow (IsBad g v Past) i past → AreAllBelow (IsBad g v Past) (i + 1) past)
    × (AreAllBelow (IsBad g v Wild) i wild → AreAllBelow (IsBad g v Wild) (i + 1) wild)
    × (AreAllBelow (IsBad g v Align) i align → AreAllBelow (IsBad g v Align) (i + 1) align)
    × (AreAllBelow (IsBad g v Run) i run → AreAllBelow (IsBad g v Run) (i + 1) run)
pointed_passed g v i inode filesize past wild align run is none = (
  all_passed (IsBad g v Filesize) i filesize (no_pointers g v i (λ inode. 2 ^ 32 ≤ inode.size) inode is none),
  all_passed (IsBad g v Past) i past (no_pointers g v i (HasPast g v) inode is none),
  all_passed (IsBad g v Wild) i wild (no_pointers g v i (HasWild g v) inode is none),
  all_passed (IsBad g v Align) i align (no_pointers g v i (HasMisaligned g v) inode is none),
  all_passed (IsBad g v Run) i run (no_pointers g v i (HasCrossing g v) inode is none),
)

-- no fault is past the last inode
pub inodes_all : (g : Geometry) (v : Volume) (bound : ℕ) (faults : InodeFaults) → g.ncg * g.ipg ≤ bound → AreInodeFaultsBelow g v bound faults → AreInodeFaults g v faults
inodes_all g v bound faults end so_far = let pointed = so_far.pointed in record {
  wrong_type = all_all (IsBad g v WrongType) bound _ (λ i h. let lt = inode_inside g v i (λ inode. kind_of inode.mode ≡ Unknown) h in omega arith) so_far.wrong_type;
  unused = all_all (IsBad g v Unused) bound _ (λ i h. let lt = inode_inside g v i (λ inode. (is_marked_unused g i v).value ≡ true) h in omega arith) so_far.unused;
  filesize = all_all (IsBad g v Filesize) bound _ (λ i h. let lt = inode_inside g v i (λ inode. (has_pointers g inode ≡ true) × (2 ^ 32 ≤ inode.size)) h in omega arith) pointed.filesize;
  past = all_all (IsBad g v Past) bound _ (λ i h. let lt = inode_inside g v i (λ inode. (has_pointers g inode ≡ true) × HasPast g v inode) h in omega arith) pointed.past;
  wild = all_all (IsBad g v Wild) bound _ (λ i h. let lt = inode_inside g v i (λ inode. (has_pointers g inode ≡ true) × HasWild g v inode) h in omega arith) pointed.wild;
  align = all_all (IsBad g v Align) bound _ (λ i h. let lt = inode_inside g v i (λ inode. (has_pointers g inode ≡ true) × HasMisaligned g v inode) h in omega arith) pointed.align;
  run = all_all (IsBad g v Run) bound _ (λ i h. let lt = inode_inside g v i (λ inode. (has_pointers g inode ≡ true) × HasCrossing g v inode) h in omega arith) pointed.run;
}
