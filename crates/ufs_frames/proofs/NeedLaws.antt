-- What is read by a path needs blocks of the file system itself, those of directories, and those of the file at the path. Listings need
-- those of directories alone.
use Rattle.std.proofs.Common.{Bool, Err, List, None, Ok, Option, Result, Some, [], arith, false, inl, inr, refl, subst, suc, sym, true, zero, ℕ, ◌+◌, ◌<◌, ◌^◌, ◌∷◌, ◌≡◌, ◌≤◌}
use Rattle.std.specs.Prelude.{Contains, filter, if◌then◌else◌, nat_le}
use Rattle.std.specs.Option.{ok_or}
use Rattle.std.proofs.lemmas.Bool.Decides.{nat_tests}
use Rattle.std.proofs.lemmas.List.Elements.{Contains-append_cases}
use Rattle.ufs_model.specs.Blocks.{Reading, Volume, bind, known}
use Rattle.ufs_model.specs.Chunks.{DirEntry}
use Rattle.ufs_model.specs.Inodes.{block_count, inode_of, is_inode_number, kind_of}
use Rattle.ufs_model.specs.Listings.{Listed, listed_entries, listed_entry, listing_of}
use Rattle.ufs_model.specs.Malformations.{inode_at}
use Rattle.ufs_model.specs.Paths.{allocated, block_of, chunks_of, contents_of, directory_refusal, entries_before, entries_of, file_refusal, find_from, find_in_block, find_of, found_else, front_of, is_directory, is_regular, look_from, named_inode, part_of, size_refusal, unless_refused}
use Rattle.ufs_model.specs.Readings.{and_then, on_ok}
use Rattle.ufs_model.specs.Roles.{is_system, role}
use Rattle.ufs_model.specs.Trees.{branches, if_directory, is_plain, tree_below}
use Rattle.ufs_model.specs.declared.geometries.Geometry.{Geometry}
use Rattle.ufs_model.specs.declared.inodes.Inode.{Inode}
use Rattle.ufs_model.specs.declared.inodes.Kind.{Kind}
use Rattle.ufs_model.specs.declared.inodes.Kind.TheVariants.{Block, Character, Directory, Link, Pipe, Regular, Socket, Unknown}
use Rattle.ufs_model.specs.declared.reads.BadRead.TheVariants.{Entry, Filesize}
use Rattle.ufs_model.specs.declared.reads.PathRefusal.{PathRefusal}
use Rattle.ufs_model.specs.declared.reads.PathRefusal.TheVariants.{Bad, NotFound, NotRegular}
use Rattle.ufs_frames.proofs.ClaimLaws.{inode_needs, number_below}
use Rattle.ufs_frames.proofs.FragmentLaws.{in_none}
use Rattle.ufs_frames.proofs.ReachLaws.{IsReachedFor, block_of_needs}
use Rattle.ufs_frames.proofs.RoleLaws.{inode_system}
use Rattle.ufs_frames.proofs.StructureLaws.{small_directory}
use Rattle.ufs_frames.specs.Frames.{IsFile, IsWhole}

-- what is consulted is of a kind
pub record Needs {A : Type 0} (kind : ℕ → Type 0) (v : Volume) (d : Reading A) : Type 0 where
  pub each : (b : ℕ) → Contains ((d v).needs) b → kind b

-- ---- readings one after another

pub needs_known : {A : Type 0} (kind : ℕ → Type 0) (v : Volume) (a : A) → Needs kind v (known a)
needs_known kind v a = record { each = λ b h. absurd (in_none b h) }

pub needs_bind : {A B : Type 0} (kind : ℕ → Type 0) (v : Volume) (d : Reading A) (f : A → Reading B) → Needs kind v d → Needs kind v (f ((d v).value)) → Needs kind v (bind d f)
unfolding bind
needs_bind kind v d f one two = record {
  each = λ b h. elim (Contains-append_cases ((d v).needs) ((f ((d v).value) v).needs) b h) [
    | inl first ↦ one.each b first
    | inr second ↦ two.each b second
  ];
}

needs_on : {A B R : Type 0} (kind : ℕ → Type 0) (v : Volume) (answer : Result A R) (f : A → Reading (Result B R)) → ((a : A) → answer ≡ Ok a → Needs kind v (f a)) → Needs kind v (on_ok answer f)
needs_on kind v (Ok a) f each = each a refl
needs_on kind v (Err refusal) f each = needs_known kind v (Err refusal)

pub needs_then : {A B R : Type 0} (kind : ℕ → Type 0) (v : Volume) (d : Reading (Result A R)) (f : A → Reading (Result B R)) → Needs kind v d
    → ((a : A) → (d v).value ≡ Ok a → Needs kind v (f a)) → Needs kind v (and_then d f)
unfolding and_then
needs_then kind v d f one two = needs_bind kind v d (λ answer. on_ok answer f) one (needs_on kind v ((d v).value) f two)

pub needs_if : {A : Type 0} (kind : ℕ → Type 0) (v : Volume) (test : Bool) (one other : Reading A) → (test ≡ true → Needs kind v one) → (test ≡ false → Needs kind v other) → Needs kind v (if test then one else other)
needs_if kind v true one other first second = first refl
needs_if kind v false one other first second = second refl

needs_unless : {A : Type 0} (kind : ℕ → Type 0) (v : Volume) (refusal : Option PathRefusal) (d : Reading (Result A PathRefusal)) → (refusal ≡ None → Needs kind v d) → Needs kind v (unless_refused refusal d)
needs_unless kind v None d each = each refl
needs_unless kind v (Some refusal) d each = needs_known kind v (Err refusal)

-- an answer comes of an answer
pub then_value : {A B R : Type 0} (d : Reading (Result A R)) (f : A → Reading (Result B R)) (v : Volume) (b : B) → (and_then d f v).value ≡ Ok b
    → (a : A) × ((d v).value ≡ Ok a) × ((f a v).value ≡ Ok b)
unfolding and_then bind
then_value {A} {B} {R} d f v b has = on ((d v).value) refl has
  where
    on : (answer : Result A R) → (d v).value ≡ answer → (on_ok answer f v).value ≡ Ok b → (a : A) × ((d v).value ≡ Ok a) × ((f a v).value ≡ Ok b)
    on (Ok a) is has = (a, is, has)
    on (Err refusal) is has = grind (arith, has)

-- ---- files

found_value : (within : Bool) (found : Option Inode) (inode : Inode) → within ≡ true → found ≡ Some inode → (if within then found else None) ≡ Some inode
found_value true found inode is there = there
found_value false found inode is there = let no : false ≡ true = is in cc

pub ok_same : {A R : Type 0} (a b : A) → ◌≡◌ {A = Result A R} (Ok a) (Ok b) → a ≡ b
ok_same a b is = cc

-- the answer of a named inode is the inode
allocated_value : (found : Option Inode) (inode : Inode) → ok_or found (Bad Entry) ≡ Ok inode → found ≡ Some inode
allocated_value None inode is = grind (arith, is)
allocated_value (Some other) inode is = grind (arith, is)

small_size : (inode : Inode) → size_refusal inode ≡ None → inode.size < 2 ^ 32
small_size inode is = small_by (nat_le (2 ^ 32) inode.size) inode refl is
  where
    small_by : (large : Bool) (inode : Inode) → nat_le (2 ^ 32) inode.size ≡ large → (if large then Some (Bad Filesize) else None) ≡ None → inode.size < 2 ^ 32
    small_by true inode h is = let no : Some (Bad Filesize) ≡ None = is in cc
    small_by false inode h is = grind (arith, nat_tests)

directory_kind : (kind : Kind) → is_directory kind ≡ true → kind ≡ Directory
directory_kind Directory is = refl
directory_kind Regular is = let no : false ≡ true = is in cc
directory_kind Link is = let no : false ≡ true = is in cc
directory_kind Pipe is = let no : false ≡ true = is in cc
directory_kind Character is = let no : false ≡ true = is in cc
directory_kind Block is = let no : false ≡ true = is in cc
directory_kind Socket is = let no : false ≡ true = is in cc
directory_kind Unknown is = let no : false ≡ true = is in cc

pub regular_kind : (kind : Kind) → is_regular kind ≡ true → kind ≡ Regular
regular_kind Regular is = refl
regular_kind Directory is = let no : false ≡ true = is in cc
regular_kind Link is = let no : false ≡ true = is in cc
regular_kind Pipe is = let no : false ≡ true = is in cc
regular_kind Character is = let no : false ≡ true = is in cc
regular_kind Block is = let no : false ≡ true = is in cc
regular_kind Socket is = let no : false ≡ true = is in cc
regular_kind Unknown is = let no : false ≡ true = is in cc

accepted_if : (test : Bool) (one : Option PathRefusal) (refusal : PathRefusal) → (if test then one else Some refusal) ≡ None → (test ≡ true) × (one ≡ None)
accepted_if true one refusal is = (refl, is)
accepted_if false one refusal is = let no : Some refusal ≡ None = is in cc

accepted_directory : (inode : Inode) → directory_refusal inode ≡ None → is_directory (kind_of inode.mode) ≡ true
unfolding directory_refusal
accepted_directory inode is = (accepted_if (is_directory (kind_of inode.mode)) _ _ is).0

accepted_file : (inode : Inode) → file_refusal inode ≡ None → (is_regular (kind_of inode.mode) ≡ true) × (size_refusal inode ≡ None)
unfolding file_refusal
accepted_file inode is = accepted_if (is_regular (kind_of inode.mode)) (size_refusal inode) NotRegular is

-- ---- what is named

module _ (g : Geometry) (v : Volume) where
  named_by : (i : ℕ) (inode : Inode) (within : Bool) → is_inode_number g i ≡ within → ((if within then allocated g i else known (Err (Bad Entry))) v).value ≡ Ok inode → inode_at g v i ≡ Some inode
  unfolding bind
  named_by i inode true is has = found_value (is_inode_number g i) ((inode_of g i v).value) inode is (allocated_value ((inode_of g i v).value) inode has)
  named_by i inode false is has = grind (arith, has)

  pub named_value : (i : ℕ) (inode : Inode) → (named_inode g i v).value ≡ Ok inode → inode_at g v i ≡ Some inode
  unfolding named_inode
  named_value i inode has = named_by i inode (is_inode_number g i) refl has

  -- where names lead there is an inode
  pub look_value : (names : List (List ℕ)) (i : ℕ) (found : ℕ × Inode) → (look_from g names i v).value ≡ Ok found → (named_inode g (found.0) v).value ≡ Ok (found.1)
  unfolding look_from
  look_value [] i found has =
      let step = then_value (named_inode g i) (λ inode. known (Ok (i, inode))) v found has in
      ended (step.0) (step.1) (step.2)
    where
      ended : (inode : Inode) → (named_inode g i v).value ≡ Ok inode → ◌≡◌ {A = Result (ℕ × Inode) PathRefusal} (Ok (i, inode)) (Ok found) → (named_inode g (found.0) v).value ≡ Ok (found.1)
      ended inode named same = let pair : (i, inode) ≡ found = ok_same (i, inode) found same in subst (λ (place : ℕ × Inode). (named_inode g (place.0) v).value ≡ Ok (place.1)) pair named
  look_value (name ∷ names) i found has =
      let step = then_value (named_inode g i) _ v found has in
      let other = then_value (find_of g (step.0) name) _ v found (step.2) in
      look_value names (other.0) found (other.2)

-- ---- which blocks are needed

-- By a geometry g, with wanted inodes among which all directories are, and a kind of blocks: those of the file system itself, and what is
-- reached for a wanted inode.
module _ (g : Geometry) (v : Volume) (whole : IsWhole g v) (kind wanted : ℕ → Type 0) (systems : (b : ℕ) → is_system (role g b) ≡ true → kind b)
    (files : (i b : ℕ) → wanted i → IsReachedFor g v i b → kind b)
    (directories : (i : ℕ) (inode : Inode) → inode_at g v i ≡ Some inode → kind_of inode.mode ≡ Directory → wanted i) where
  needs_inode : (i : ℕ) → is_inode_number g i ≡ true → Needs kind v (inode_of g i)
  needs_inode i is = record {
    each = λ b h. systems b (subst (λ (f : ℕ). is_system (role g f) ≡ true) (sym (inode_needs g v i b h)) (inode_system g i whole.geometry (number_below g i is)));
  }

  pub needs_named : (i : ℕ) → Needs kind v (named_inode g i)
  unfolding named_inode
  needs_named i = needs_if kind v (is_inode_number g i) (allocated g i) (known (Err (Bad Entry)))
      (λ is. needs_bind kind v (inode_of g i) _ (needs_inode i is) (needs_known kind v _))
      (λ is. needs_known kind v (Err (Bad Entry)))

  -- ---- of one file

  module _ (i : ℕ) (inode : Inode) (file : IsFile g v i inode) (is_wanted : wanted i) (small : inode.size < 2 ^ 32) where
    needs_block : (n : ℕ) → n < block_count g inode → Needs kind v (block_of g inode n)
    needs_block n low = record { each = λ b h. files i b is_wanted (block_of_needs g v i n b inode whole file small low h) }

    needs_part : (n : ℕ) → n < block_count g inode → Needs kind v (part_of g inode n)
    unfolding part_of
    needs_part n low = needs_then kind v (block_of g inode n) _ (needs_block n low) (λ block is. needs_known kind v _)

    needs_front : (k : ℕ) → k ≤ block_count g inode → Needs kind v (front_of g inode k)
    unfolding front_of
    needs_front zero low = needs_known kind v (Ok [])
    needs_front (suc k) low = needs_then kind v (front_of g inode k) _ (needs_front k (omega arith)) (λ front is.
        needs_then kind v (part_of g inode k) _ (needs_part k (omega arith)) (λ part is. needs_known kind v _))

    needs_chunks : (n : ℕ) → n < block_count g inode → Needs kind v (chunks_of g inode n)
    unfolding chunks_of
    needs_chunks n low = needs_then kind v (block_of g inode n) _ (needs_block n low) (λ block is.
        needs_then kind v (known _) _ (needs_known kind v _) (λ bytes is. needs_known kind v _))

    needs_before : (k : ℕ) → k ≤ block_count g inode → Needs kind v (entries_before g inode k)
    unfolding entries_before
    needs_before zero low = needs_known kind v (Ok [])
    needs_before (suc k) low = needs_then kind v (entries_before g inode k) _ (needs_before k (omega arith)) (λ front is.
        needs_then kind v (chunks_of g inode k) _ (needs_chunks k (omega arith)) (λ chunks is.
        needs_then kind v (known _) _ (needs_known kind v _) (λ entries is. needs_known kind v _)))

    needs_in_block : (name : List ℕ) (n : ℕ) → n < block_count g inode → Needs kind v (find_in_block g inode name n)
    unfolding find_in_block
    needs_in_block name n low = needs_then kind v (chunks_of g inode n) _ (needs_chunks n low) (λ chunks is. needs_known kind v _)

    needs_find_from : (name : List ℕ) (n count : ℕ) → n + count ≤ block_count g inode → Needs kind v (find_from g inode name n count)
    unfolding find_from
    needs_find_from name n zero low = needs_known kind v (Err NotFound)
    needs_find_from name n (suc count) low = needs_then kind v (find_in_block g inode name n) _ (needs_in_block name n (omega arith)) (λ found is.
        further found (needs_find_from name (suc n) count (omega arith)))
      where
        further : (found : Option ℕ) → Needs kind v (find_from g inode name (suc n) count) → Needs kind v (found_else found (find_from g inode name (suc n) count))
        further (Some j) rest = needs_known kind v (Ok j)
        further None rest = rest

  -- ---- of an inode that is named

  directory_file : (i : ℕ) (inode : Inode) → (named_inode g i v).value ≡ Ok inode → is_directory (kind_of inode.mode) ≡ true → IsFile g v i inode
  directory_file i inode has is = record { there = named_value g v i inode has; pointers = rw (directory_kind (kind_of inode.mode) is) refl }

  directory_wanted : (i : ℕ) (inode : Inode) → (named_inode g i v).value ≡ Ok inode → is_directory (kind_of inode.mode) ≡ true → wanted i
  directory_wanted i inode has is = directories i inode (named_value g v i inode has) (directory_kind (kind_of inode.mode) is)

  needs_entries : (i : ℕ) (inode : Inode) → (named_inode g i v).value ≡ Ok inode → Needs kind v (entries_of g inode)
  unfolding entries_of
  needs_entries i inode has = needs_unless kind v (directory_refusal inode) (entries_before g inode (block_count g inode)) (λ none.
      needs_before i inode (directory_file i inode has (accepted_directory inode none)) (directory_wanted i inode has (accepted_directory inode none)) (small_directory inode none) (block_count g inode) (omega arith))

  needs_find : (i : ℕ) (inode : Inode) (name : List ℕ) → (named_inode g i v).value ≡ Ok inode → Needs kind v (find_of g inode name)
  unfolding find_of
  needs_find i inode name has = needs_unless kind v (directory_refusal inode) (find_from g inode name 0 (block_count g inode)) (λ none.
      needs_find_from i inode (directory_file i inode has (accepted_directory inode none)) (directory_wanted i inode has (accepted_directory inode none)) (small_directory inode none) name 0 (block_count g inode) (omega arith))

  needs_contents : (i : ℕ) (inode : Inode) → (named_inode g i v).value ≡ Ok inode → (is_regular (kind_of inode.mode) ≡ true → wanted i) → Needs kind v (contents_of g inode)
  unfolding contents_of
  needs_contents i inode has asked = needs_unless kind v (file_refusal inode) (front_of g inode (block_count g inode)) (λ none.
      let accepted = accepted_file inode none in
      let file : IsFile g v i inode = record { there = named_value g v i inode has; pointers = rw (regular_kind (kind_of inode.mode) (accepted.0)) refl } in
      needs_front i inode file (asked (accepted.0)) (small_size inode (accepted.1)) (block_count g inode) (omega arith))

  -- ---- paths

  pub needs_look : (names : List (List ℕ)) (i : ℕ) → Needs kind v (look_from g names i)
  unfolding look_from
  needs_look [] i = needs_then kind v (named_inode g i) _ (needs_named i) (λ inode has. needs_known kind v (Ok (i, inode)))
  needs_look (name ∷ names) i = needs_then kind v (named_inode g i) _ (needs_named i) (λ inode has.
      needs_then kind v (find_of g inode name) _ (needs_find i inode name has) (λ next is. needs_look names next))

  pub needs_cat : (names : List (List ℕ)) (i : ℕ)
      → ((found : ℕ × Inode) → (look_from g names i v).value ≡ Ok found → is_regular (kind_of (found.1).mode) ≡ true → wanted (found.0))
      → Needs kind v (and_then (look_from g names i) (λ found. contents_of g found.1))
  needs_cat names i asked = needs_then kind v (look_from g names i) _ (needs_look names i) (λ found has.
      needs_contents (found.0) (found.1) (look_value g v names i found has) (asked found has))

  -- ---- listings

  needs_lines : (depth : ℕ) (entries : List DirEntry) → Needs kind v (listed_entries g depth entries)
  unfolding listed_entries listed_entry
  needs_lines depth [] = needs_known kind v (Ok [])
  needs_lines depth (entry ∷ entries) = needs_then kind v (listed_entry g depth entry) _
      (needs_then kind v (named_inode g entry.inode) _ (needs_named entry.inode) (λ inode has. needs_known kind v _)) (λ first is.
      needs_then kind v (listed_entries g depth entries) _ (needs_lines depth entries) (λ others is. needs_known kind v _))

  pub needs_ls : (names : List (List ℕ)) (i : ℕ) → Needs kind v (and_then (look_from g names i) (λ found. listing_of g found.1))
  unfolding listing_of
  needs_ls names i = needs_then kind v (look_from g names i) _ (needs_look names i) (λ found has.
      needs_then kind v (entries_of g (found.1)) _ (needs_entries (found.0) (found.1) (look_value g v names i found has)) (λ entries is. needs_lines 1 entries))

  needs_branches : (below : Inode → Reading (Result (List Listed) PathRefusal)) (depth : ℕ) (entries : List DirEntry)
      → ((i : ℕ) (inode : Inode) → (named_inode g i v).value ≡ Ok inode → Needs kind v (below inode)) → Needs kind v (branches g below depth entries)
  unfolding branches
  needs_branches below depth [] each = needs_known kind v (Ok [])
  needs_branches below depth (entry ∷ entries) each = needs_then kind v (named_inode g entry.inode) _ (needs_named entry.inode) (λ inode has.
      needs_then kind v (if_directory inode (below inode)) _
      (needs_if kind v (is_directory (kind_of inode.mode)) (below inode) (known (Ok [])) (λ is. each entry.inode inode has) (λ is. needs_known kind v (Ok []))) (λ under is.
      needs_then kind v (branches g below depth entries) _ (needs_branches below depth entries each) (λ others is. needs_known kind v _)))

  pub needs_tree : (levels depth i : ℕ) (inode : Inode) → (named_inode g i v).value ≡ Ok inode → Needs kind v (tree_below g levels depth inode)
  unfolding tree_below
  needs_tree zero depth i inode has = needs_known kind v (Ok [])
  needs_tree (suc levels) depth i inode has = needs_then kind v (entries_of g inode) _ (needs_entries i inode has) (λ entries is.
      needs_branches (tree_below g levels (depth + 1)) (depth) (filter is_plain entries) (needs_tree levels (depth + 1)))
