-- The inodes whose entries are read, and what their entries are.
use Rattle.std.proofs.Common.{◌≡◌, ◌∙◌, ◌+◌, ◌*◌, ◌<◌, ℕ, zero, suc, Bool, true, false, List, [], ◌∷◌, Option, Some, None, Result, Ok, Err, refl, sym, ap, subst, arith}
use Rattle.std.specs.Prelude.{◌↔◌, IsOkAnd, MatchOption, if◌then◌else◌, nat_le, nat_lt}
use Rattle.std.specs.List.{Contains}
use Rattle.std.specs.Option.{ok_or, option_map}
use Rattle.std.specs.Result.{is_ok}
use Rattle.std.proofs.lemmas.Bool.{and_parts, ltb-true}
use Rattle.dg_model.specs.Wants.{AreParents}
use Rattle.dg_model.specs.declared.parents.Parent.{Parent}
use Rattle.ufs_model.specs.Superblocks.{geometry_of}
use Rattle.ufs_model.specs.Blocks.{Volume, bind, known}
use Rattle.ufs_model.specs.Chunks.{DirEntry}
use Rattle.ufs_model.specs.Inodes.{block_count, inode_block, inode_of, is_inode_number, kind_of}
use Rattle.ufs_model.specs.Malformations.{HasEntries, IsParent, inode_at}
use Rattle.ufs_model.specs.Paths.{allocated, directory_refusal, entries_before, entries_of, is_directory, named_inode, unless_refused}
use Rattle.ufs_model.specs.declared.geometries.Geometry.{Geometry}
use Rattle.ufs_model.specs.declared.inodes.Inode.{Inode}
use Rattle.ufs_model.specs.declared.inodes.Kind.{Kind}
use Rattle.ufs_model.specs.declared.inodes.Kind.TheVariants.{Regular, Directory, Link, Pipe, Character, Block, Socket, Unknown}
use Rattle.ufs_model.specs.declared.reads.BadRead.TheVariants.{Entry}
use Rattle.ufs_model.specs.declared.reads.PathRefusal.{PathRefusal}
use Rattle.ufs_model.specs.declared.reads.PathRefusal.TheVariants.{NotDirectory, Bad}
use Rattle.ufs_pointer.specs.Fetches.{IsNeeded}
use Rattle.ufs_path.proofs.NamingLaws.{kept_next, kept_passed}
use Rattle.ufs_path.specs.Parents.{AreKnown, AreParentsBy, Enters, EntersIf, EntersWhole, FitsTable, kept_in}
use Rattle.ufs_path.specs.declared.naming.NamingTable.{NamingTable}

-- ---- an inode by its number

named_if : (b : Bool) (g : Geometry) (i : ℕ) (v : Volume) → ((if b then allocated g i else known (Err (Bad Entry))) v).value ≡ ok_or (if b then (inode_of g i v).value else None) (Bad Entry)
unfolding bind
named_if true g i v = refl
named_if false g i v = refl

named_value : (g : Geometry) (i : ℕ) (v : Volume) → (named_inode g i v).value ≡ ok_or (inode_at g v i) (Bad Entry)
unfolding named_inode
named_value g i v = named_if (is_inode_number g i) g i v

some_from : (o : Option Inode) (inode : Inode) → Ok inode ≡ ok_or o (Bad Entry) → o ≡ Some inode
some_from (Some x) inode e = let same : x ≡ inode = cc in ap Some same
some_from None inode e = cc

none_from : (o : Option Inode) → is_ok (ok_or o (Bad Entry)) ≡ false → o ≡ None
none_from (Some x) e = let no : true ≡ false = e in cc
none_from None e = refl

pub inode_found : (g : Geometry) (i : ℕ) (v : Volume) (inode : Inode) → Ok inode ≡ (named_inode g i v).value → inode_at g v i ≡ Some inode
inode_found g i v inode e = some_from (inode_at g v i) inode (e ∙ named_value g i v)

pub inode_missing : (g : Geometry) (i : ℕ) (v : Volume) → is_ok ((named_inode g i v).value) ≡ false → inode_at g v i ≡ None
inode_missing g i v e = none_from (inode_at g v i) (ap (λ r. is_ok r) (sym (named_value g i v)) ∙ e)

only_one : (x b k : ℕ) → Contains (x ∷ []) b → b ≡ x
only_one x b k (zero, low, at) = sym at
only_one x b k (suc j, low, at) = absurd (omega (arith, low))

none_there : (b : ℕ) → Contains [] b → ⊥
none_there b (k, low, at) = absurd (omega (arith, low))

needs_if : (c : Bool) (g : Geometry) (i : ℕ) (v : Volume) (b : ℕ) → is_inode_number g i ≡ c → Contains ((if c then allocated g i else known (Err (Bad Entry))) v).needs b
    → (i < g.ncg * g.ipg) × (b ≡ inode_block g i)
unfolding bind inode_of
needs_if true g i v b is needed = (ltb-true i (g.ncg * g.ipg) ((and_parts (nat_le 2 i) (nat_lt i (g.ncg * g.ipg)) is).1), only_one (inode_block g i) b 0 needed)
needs_if false g i v b is needed = absurd (none_there b needed)

-- what is needed for an inode is its block
pub named_needs : (g : Geometry) (i : ℕ) (v : Volume) (b : ℕ) → IsNeeded (named_inode g i) v b → (i < g.ncg * g.ipg) × (b ≡ inode_block g i)
unfolding named_inode
named_needs g i v b needed = needs_if (is_inode_number g i) g i v b refl needed

-- ---- a directory

kind_is : (k : Kind) (x : Option PathRefusal) → (if is_directory k then x else Some NotDirectory) ≡ None → k ≡ Directory
kind_is Directory x e = refl
kind_is Regular x e = cc
kind_is Link x e = cc
kind_is Pipe x e = cc
kind_is Character x e = cc
kind_is Block x e = cc
kind_is Socket x e = cc
kind_is Unknown x e = cc

directory_is : (inode : Inode) → directory_refusal inode ≡ None → kind_of inode.mode ≡ Directory
unfolding directory_refusal
directory_is inode e = kind_is (kind_of inode.mode) _ e

pub no_refusal : (o : Option PathRefusal) → None ≡ option_map Some o → o ≡ None
no_refusal None e = refl
no_refusal (Some x) e = cc

some_refusal : {A : Type 0} (x : A) (o : Option PathRefusal) (f : A → Option PathRefusal) → Some (f x) ≡ option_map Some o → (r : PathRefusal) × (o ≡ Some r)
some_refusal x None f e = cc
some_refusal x (Some r) f e = (r, refl)

entries_whole : (g : Geometry) (inode : Inode) → directory_refusal inode ≡ None → entries_of g inode ≡ entries_before g inode (block_count g inode)
unfolding entries_of
entries_whole g inode e = ap (λ r. unless_refused r (entries_before g inode (block_count g inode))) e

entries_refused : (g : Geometry) (inode : Inode) (v : Volume) (r : PathRefusal) → directory_refusal inode ≡ Some r → is_ok ((entries_of g inode v).value) ≡ false
unfolding entries_of
entries_refused g inode v r e = ap (λ o. is_ok ((unless_refused o (entries_before g inode (block_count g inode)) v).value)) e

has_from : (g : Geometry) (v : Volume) (i : ℕ) (inode : Inode) (entries : List DirEntry) → inode_at g v i ≡ Some inode → kind_of inode.mode ≡ Directory → (entries_of g inode v).value ≡ Ok entries → HasEntries g v i entries
has_from g v i inode entries at kind are = subst (λ o. MatchOption o ⊥ (λ (x : Inode). (kind_of x.mode ≡ Directory) × ((entries_of g x v).value ≡ Ok entries))) (sym at) (kind, are)

has_to : (g : Geometry) (v : Volume) (i : ℕ) (inode : Inode) (entries : List DirEntry) → inode_at g v i ≡ Some inode → HasEntries g v i entries → (entries_of g inode v).value ≡ Ok entries
has_to g v i inode entries at has = (subst (λ o. MatchOption o ⊥ (λ (x : Inode). (kind_of x.mode ≡ Directory) × ((entries_of g x v).value ≡ Ok entries))) at has).1

-- ---- one directory after another

pub fits_passed : (g : Geometry) (v : Volume) (i : ℕ) (table : NamingTable) → ((entries : List DirEntry) → HasEntries g v i entries → ⊥) → FitsTable g v i table → FitsTable g v (i + 1) table
fits_passed g v i table none fits = record {
  known = fits.known;
  kept = kept_passed g v i (kept_in table.directories) (kept_in table.directories) none (λ n. refl) fits.kept;
}

-- an inode that isn't there
pub fits_missing : (g : Geometry) (v : Volume) (i : ℕ) (table : NamingTable) → inode_at g v i ≡ None → FitsTable g v i table → FitsTable g v (i + 1) table
fits_missing g v i table none fits =
    fits_passed g v i table
    (λ entries has. subst (λ o. MatchOption o ⊥ (λ (x : Inode). (kind_of x.mode ≡ Directory) × ((entries_of g x v).value ≡ Ok entries))) none has) fits

-- an inode that is no directory, or one whose size is refused
pub fits_refused : {A : Type 0} (g : Geometry) (v : Volume) (i : ℕ) (inode : Inode) (table : NamingTable) (x : A) (f : A → Option PathRefusal) → inode_at g v i ≡ Some inode
    → Some (f x) ≡ option_map Some (directory_refusal inode) → FitsTable g v i table → FitsTable g v (i + 1) table
fits_refused g v i inode table x f at refused fits =
    let r = some_refusal x (directory_refusal inode) f refused in
    fits_passed g v i table
    (λ entries has. let no : true ≡ false = sym (ap (λ s. is_ok s) (has_to g v i inode entries at has)) ∙ entries_refused g inode v r.0 r.1 in cc) fits

enters_by : (g : Geometry) (v : Volume) (i : ℕ) (inode : Inode) (said : Result (List DirEntry) PathRefusal) (old new : NamingTable) → inode_at g v i ≡ Some inode → kind_of inode.mode ≡ Directory
    → (entries_of g inode v).value ≡ said → EntersWhole g v i said old new → FitsTable g v i old → FitsTable g v (i + 1) new
enters_by g v i inode (Ok entries) old new at kind are enters fits =
    let e = enters fits.known in
    record { known = e.0; kept = kept_next g v i entries (kept_in old.directories) (kept_in new.directories) (has_from g v i inode entries at kind are) e.1 fits.kept }
enters_by g v i inode (Err r) old new at kind are enters fits =
    let e = enters fits.known in
    record {
      known = e.0;
      kept = kept_passed g v i (kept_in old.directories) (kept_in new.directories)
          (λ entries has. let no : Err r ≡ Ok entries = sym are ∙ has_to g v i inode entries at has in cc) e.1 fits.kept;
    }

-- a directory, whose entries were entered if they can be read
pub fits_entered : (g : Geometry) (v : Volume) (i : ℕ) (inode : Inode) (old new : NamingTable) → inode_at g v i ≡ Some inode → directory_refusal inode ≡ None
    → EntersWhole g v i ((entries_before g inode (block_count g inode) v).value) old new → FitsTable g v i old → FitsTable g v (i + 1) new
fits_entered g v i inode old new at none enters fits =
    enters_by g v i inode ((entries_before g inode (block_count g inode) v).value) old new at (directory_is inode none) (ap (λ d. (d v).value) (entries_whole g inode none)) enters fits

-- the kind of a directory that is read
pub kind_read : (inode : Inode) → directory_refusal inode ≡ None → kind_of inode.mode ≡ Directory
kind_read inode none = directory_is inode none

-- ---- the entries of a directory, judged first

pub enters_sound : (g : Geometry) (v : Volume) (i : ℕ) (said : Result (List DirEntry) PathRefusal) (mid new : NamingTable) → true ≡ is_ok said
    → ((entries : List DirEntry) → said ≡ Ok entries → Enters g v i entries mid new) → AreKnown g v (kept_in mid.directories) mid.runs.entries
    → AreKnown g v (kept_in new.directories) new.runs.entries × EntersIf i said (kept_in mid.directories) (kept_in new.directories)
enters_sound g v i (Ok entries) mid new is each known = each entries refl known
enters_sound g v i (Err r) mid new is each known = let no : true ≡ false = is in cc

pub enters_nothing : (i : ℕ) (said : Result (List DirEntry) PathRefusal) (kept : ℕ → Option ℕ) → false ≡ is_ok said → EntersIf i said kept kept
enters_nothing i (Ok entries) kept is = let no : false ≡ true = is in cc
enters_nothing i (Err r) kept is = λ n. refl

-- ---- the whole volume

pub parents_on : (l n : ℕ) (v : Volume) (g : Geometry) (parents : List Parent) → Ok g ≡ (geometry_of l n v).value → AreParentsBy g v parents → AreParents l n v parents
parents_on l n v g parents is are = record {
  ascend = are.ascend;
  each = λ i d. subst (λ r. Contains parents (record { inode = i; directory = d }) ↔ IsOkAnd r (λ g. IsParent g v i d)) is (are.each i d);
}
