-- The entries of a directory, block after block, and the inodes that entries name, one after another.
use Rattle.std.proofs.Common.{◌≡◌, ◌∙◌, ℕ, suc, ◌/◌, Bool, List, [], ◌∷◌, ◌++◌, Some, None, Ok, Err, Result, Option, refl, sym, ap}
use Rattle.std.specs.Option.{option_map}
use Rattle.ufs_model.specs.Blocks.{Reading, Volume, known}
use Rattle.ufs_model.specs.Chunks.{DirEntry}
use Rattle.ufs_model.specs.Listings.{Listed, listed_as, listed_entries, listed_entry}
use Rattle.ufs_model.specs.Paths.{block_of, bytes_in_block, chunks_in, chunks_of, entries_before, entries_through, named_inode}
use Rattle.ufs_model.specs.Readings.{Grows, ReadsAs, and_then}
use Rattle.ufs_model.proofs.ReadingLaws.{reads_known}
use Rattle.ufs_model.specs.declared.geometries.Geometry.{Geometry}
use Rattle.ufs_model.specs.declared.inodes.Inode.{Inode}
use Rattle.ufs_model.specs.declared.reads.BadRead.TheVariants.{Hole}
use Rattle.ufs_model.specs.declared.reads.PathRefusal.{PathRefusal}
use Rattle.ufs_model.specs.declared.reads.PathRefusal.TheVariants.{Bad}
use Rattle.ufs_path.proofs.DirectoryLaws.{chunks_hole, chunks_read, chunks_unread}
use Rattle.ufs_path.proofs.PartLaws.{AreFronts, joined_ok, value_both}
use Rattle.ufs_path.proofs.ReadsLaws.{both_read, refused_read, same_read, then_back, then_front, then_known, then_same, then_then}
use Rattle.ufs_path.specs.Answers.{refusal_of}
use Rattle.ufs_path.specs.Walks.{block_entries}
use Rattle.ufs_path.specs.declared.faults.LookFault.{LookFault}

-- ---- block after block

before_more : (g : Geometry) (inode : Inode) (k : ℕ) (v : Volume)
    → and_then (entries_before g inode k) (λ front. and_then (block_entries g inode k) (λ entries. known (Ok (front ++ entries)))) v ≡ entries_before g inode (suc k) v
unfolding entries_before block_entries
before_more g inode k v = then_back _ _ _ v (λ front. then_then (chunks_of g inode k) (λ chunks. known (entries_through g.endian chunks)) (λ entries. known (Ok (front ++ entries))) v)

before_none : (g : Geometry) (inode : Inode) (v : Volume) → known (Ok []) v ≡ entries_before g inode 0 v
unfolding entries_before
before_none g inode v = refl

pub entry_fronts : (g : Geometry) (inode : Inode) → AreFronts (entries_before g inode) (block_entries g inode)
entry_fronts g inode = record { none = before_none g inode; more = before_more g inode }

-- ---- the entries of a block

pub block_read : {stands : Volume → Type 0} {tells : Type 0} {before after : ℕ → Bool} (g : Geometry) (inode : Inode) (n : ℕ) (bytes : List ℕ) (answer : Option (Result (List DirEntry) PathRefusal)) → Grows before after
    → answer ≡ Some (entries_through g.endian (chunks_in (bytes_in_block g inode n / 512) bytes)) → ReadsAs stands before tells after (block_of g inode n) (Some (Ok (Some bytes)))
    → ReadsAs stands before tells after (block_entries g inode n) answer
unfolding block_entries
block_read g inode n bytes answer grows e reads = rw e (both_read _ _ _ (chunks_read g inode n bytes grows reads) (reads_known _))

pub block_hole : {stands : Volume → Type 0} {tells : Type 0} {before after : ℕ → Bool} (g : Geometry) (inode : Inode) (n : ℕ) → Grows before after
    → ReadsAs stands before tells after (block_of g inode n) (Some (Ok None)) → ReadsAs stands before tells after (block_entries g inode n) (Some (Err (Bad Hole)))
unfolding block_entries
block_hole g inode n grows reads = refused_read _ (Some (Bad Hole)) grows (chunks_hole g inode n grows reads)

pub block_unread : {stands : Volume → Type 0} {tells : Type 0} {before after : ℕ → Bool} (g : Geometry) (inode : Inode) (n : ℕ) (fault : LookFault) → Grows before after
    → ReadsAs stands before tells after (block_of g inode n) (option_map Err (refusal_of fault)) → ReadsAs stands before tells after (block_entries g inode n) (option_map Err (refusal_of fault))
unfolding block_entries
block_unread g inode n fault grows reads = refused_read _ (refusal_of fault) grows (chunks_unread g inode n fault grows reads)

-- ---- an entry

pub one_line : {stands : Volume → Type 0} {tells : Type 0} {before after : ℕ → Bool} (g : Geometry) (depth : ℕ) (entry : DirEntry) (inode : Inode)
    → ReadsAs stands before tells after (named_inode g entry.inode) (Some (Ok inode)) → ReadsAs stands before tells after (listed_entries g depth (entry ∷ [])) (Some (Ok (listed_as depth entry inode ∷ [])))
unfolding listed_entries listed_entry
one_line g depth entry inode reads =
    both_read _ (listed_as depth entry inode) _ (both_read _ inode _ reads (reads_known (Ok (listed_as depth entry inode))))
    (both_read _ [] _ (reads_known (Ok [])) (reads_known (Ok (listed_as depth entry inode ∷ []))))

pub one_unread : {stands : Volume → Type 0} {tells : Type 0} {before after : ℕ → Bool} (g : Geometry) (depth : ℕ) (entry : DirEntry) (fault : LookFault) → Grows before after
    → ReadsAs stands before tells after (named_inode g entry.inode) (option_map Err (refusal_of fault)) → ReadsAs stands before tells after (listed_entries g depth (entry ∷ [])) (option_map Err (refusal_of fault))
unfolding listed_entries listed_entry
one_unread g depth entry fault grows reads = refused_read _ (refusal_of fault) grows (refused_read _ (refusal_of fault) grows reads)

-- ---- entry after entry

-- the inodes of entries, and then those of others
abbrev in_a_row : {A : Type 0} → Reading (Result (List A) PathRefusal) → Reading (Result (List A) PathRefusal) → Reading (Result (List A) PathRefusal)
in_a_row d e = and_then d (λ front. and_then e (λ last. known (Ok (front ++ last))))

row_first : {A : Type 0} (first : Reading (Result A PathRefusal)) (d e : Reading (Result (List A) PathRefusal)) (v : Volume)
    → and_then first (λ a. and_then (in_a_row d e) (λ others. known (Ok (a ∷ others)))) v ≡ in_a_row (and_then first (λ a. and_then d (λ others. known (Ok (a ∷ others))))) e v
row_first first d e v =
    then_back first _ _ v (λ a.
    then_then d (λ x. and_then e (λ y. known (Ok (x ++ y)))) (λ others. known (Ok (a ∷ others))) v
    ∙ then_back d _ (λ x. and_then e (λ y. known (Ok (a ∷ (x ++ y))))) v (λ x.
    then_then e (λ y. known (Ok (x ++ y))) (λ others. known (Ok (a ∷ others))) v
    ∙ then_back e _ _ v (λ y. then_known (x ++ y) (λ others. known (Ok (a ∷ others))) v))
    ∙ sym (then_then d (λ others. known (Ok (a ∷ others))) (λ x. and_then e (λ y. known (Ok (x ++ y)))) v
    ∙ then_back d _ _ v (λ x. then_known (a ∷ x) (λ z. and_then e (λ y. known (Ok (z ++ y)))) v)))
    ∙ sym (then_then first (λ a. and_then d (λ others. known (Ok (a ∷ others)))) (λ x. and_then e (λ y. known (Ok (x ++ y)))) v)

pub listed_append : (g : Geometry) (depth : ℕ) (xs ys : List DirEntry) (v : Volume)
    → in_a_row (listed_entries g depth xs) (listed_entries g depth ys) v ≡ listed_entries g depth (xs ++ ys) v
unfolding listed_entries
listed_append g depth [] ys v =
    then_known [] (λ x. and_then (listed_entries g depth ys) (λ y. known (Ok (x ++ y)))) v ∙ then_same (listed_entries g depth ys) v
listed_append g depth (x ∷ xs) ys v =
    sym (row_first (listed_entry g depth x) (listed_entries g depth xs) (listed_entries g depth ys) v)
    ∙ then_back (listed_entry g depth x) _ _ v (λ a. then_front _ _ (λ others. known (Ok (a ∷ others))) v (listed_append g depth xs ys v))

-- lines of entries, and then of others
pub lines_none : {stands : Volume → Type 0} {tells : Type 0} {before after : ℕ → Bool} (g : Geometry) (depth : ℕ) → ReadsAs stands before tells after (listed_entries g depth []) (Some (Ok []))
unfolding listed_entries
lines_none g depth = reads_known (Ok [])

pub lines_both : {stands : Volume → Type 0} {tells : Type 0} {before after : ℕ → Bool} (g : Geometry) (depth : ℕ) (xs ys : List DirEntry) (a b : List Listed)
    → ReadsAs stands before tells after (listed_entries g depth xs) (Some (Ok a)) → ReadsAs stands before tells after (listed_entries g depth ys) (Some (Ok b))
    → ReadsAs stands before tells after (listed_entries g depth (xs ++ ys)) (Some (Ok (a ++ b)))
lines_both g depth xs ys a b one two = same_read (listed_append g depth xs ys) (both_read _ a _ one (both_read _ b _ two (reads_known (Ok (a ++ b)))))

pub lines_fail : {stands : Volume → Type 0} {tells : Type 0} {before after : ℕ → Bool} (g : Geometry) (depth : ℕ) (xs ys : List DirEntry) (a : List Listed) (refusal : Option PathRefusal) → Grows before after
    → ReadsAs stands before tells after (listed_entries g depth xs) (Some (Ok a)) → ReadsAs stands before tells after (listed_entries g depth ys) (option_map Err refusal)
    → ReadsAs stands before tells after (listed_entries g depth (xs ++ ys)) (option_map Err refusal)
lines_fail g depth xs ys a refusal grows one two = same_read (listed_append g depth xs ys) (both_read _ a _ one (refused_read _ refusal grows two))

-- where the lines of a front aren't read, those of the whole aren't
pub lines_fail_whole : {stands : Volume → Type 0} {tells : Type 0} {before after : ℕ → Bool} (g : Geometry) (depth : ℕ) (xs ys : List DirEntry) (refusal : Option PathRefusal) → Grows before after
    → ReadsAs stands before tells after (listed_entries g depth xs) (option_map Err refusal) → ReadsAs stands before tells after (listed_entries g depth (xs ++ ys)) (option_map Err refusal)
lines_fail_whole g depth xs ys refusal grows one = same_read (listed_append g depth xs ys) (refused_read _ refusal grows one)

-- the lines of a front are a front of the lines
pub lines_begin : (g : Geometry) (depth : ℕ) (v : Volume) (xs ys : List DirEntry) (some all : List Listed) → Ok some ≡ (listed_entries g depth xs v).value → Ok all ≡ (listed_entries g depth (xs ++ ys) v).value
    → (rest : List Listed) × (all ≡ some ++ rest)
lines_begin g depth v xs ys some all e1 e2 =
    let one = joined_ok ((listed_entries g depth xs v).value) ((listed_entries g depth ys v).value) all
    (e2 ∙ sym (ap (λ c. c.value) (listed_append g depth xs ys v)) ∙ value_both (listed_entries g depth xs) (listed_entries g depth ys) v) in
    let same : Ok one.0 ≡ Ok some = one.2 ∙ sym e1 in
    let equal : one.0 ≡ some = cc in
    (one.1, one.3 ∙ ap (λ x. x ++ one.1) equal)
