-- Looking up a name in a directory, block after block.
use Rattle.std.proofs.Common.{◌≡◌, ℕ, suc, ◌-◌, ◌/◌, ◌<◌, ◌≤◌, refl, sym, subst, arith, Bool, List, Some, None, Ok, Err, Result, Option}
use Rattle.std.specs.Option.{option_map}
use Rattle.ufs_model.specs.Blocks.{Reading, Volume, known}
use Rattle.ufs_model.specs.Inodes.{block_count}
use Rattle.ufs_model.specs.Paths.{block_of, bytes_in_block, chunks_in, chunks_of, directory_refusal, find_from, find_in_block, find_of, find_through, found_else, or_bad_chunk, unless_refused}
use Rattle.ufs_model.specs.Readings.{Continues, Grows, ReadsAs, and_then}
use Rattle.ufs_model.proofs.ReadingLaws.{reads_known, reads_on, reads_refused}
use Rattle.ufs_model.specs.declared.chunks.Found.{Found}
use Rattle.ufs_model.specs.declared.geometries.Geometry.{Geometry}
use Rattle.ufs_model.specs.declared.inodes.Inode.{Inode}
use Rattle.ufs_model.specs.declared.reads.BadRead.TheVariants.{Hole}
use Rattle.ufs_model.specs.declared.reads.PathRefusal.{PathRefusal}
use Rattle.ufs_model.specs.declared.reads.PathRefusal.TheVariants.{Bad, NotFound}
use Rattle.ufs_path.specs.Answers.{refusal_of}
use Rattle.ufs_path.specs.declared.faults.LookFault.{LookFault}
use Rattle.ufs_path.specs.declared.faults.LookFault.TheVariants.{Bad as FaultBad}

-- ---- the chunks of a block

pub chunks_read : {stands : Volume → Type 0} {tells : Type 0} {before after : ℕ → Bool} (g : Geometry) (inode : Inode) (n : ℕ) (bytes : List ℕ)
    → Grows before after → ReadsAs stands before tells after (block_of g inode n) (Some (Ok (Some bytes)))
    → ReadsAs stands before tells after (chunks_of g inode n) (Some (Ok (chunks_in (bytes_in_block g inode n / 512) bytes)))
unfolding chunks_of
chunks_read g inode n bytes grows reads =
    reads_on refusal_of _ (Some bytes) _ grows (λ v h. h) (λ h. h) reads
    (reads_on refusal_of _ bytes _ (λ b h. h) (λ v h. h) (λ h. h) (reads_known (Ok bytes)) (reads_known _))

-- there are none in a hole
pub chunks_hole : {stands : Volume → Type 0} {tells : Type 0} {before after : ℕ → Bool} (g : Geometry) (inode : Inode) (n : ℕ)
    → Grows before after → ReadsAs stands before tells after (block_of g inode n) (Some (Ok None))
    → ReadsAs stands before tells after (chunks_of g inode n) (Some (Err (Bad Hole)))
unfolding chunks_of
chunks_hole g inode n grows reads =
    reads_on refusal_of _ None _ grows (λ v h. h) (λ h. h) reads
    (reads_refused refusal_of _ (FaultBad Hole) (λ b h. h) (reads_known (Err (Bad Hole))))

-- a block that isn't read
pub chunks_unread : {stands : Volume → Type 0} {tells : Type 0} {before after : ℕ → Bool} (g : Geometry) (inode : Inode) (n : ℕ) (fault : LookFault)
    → Grows before after → ReadsAs stands before tells after (block_of g inode n) (option_map Err (refusal_of fault))
    → ReadsAs stands before tells after (chunks_of g inode n) (option_map Err (refusal_of fault))
unfolding chunks_of
chunks_unread g inode n fault grows reads = reads_refused refusal_of _ fault grows reads

-- what is found in them
pub found_in : {stands : Volume → Type 0} {tells : Type 0} {before after : ℕ → Bool} (g : Geometry) (inode : Inode) (name : List ℕ) (n : ℕ) (bytes : List ℕ) (found : Found) (answer : Option (Result (Option ℕ) PathRefusal))
    → Grows before after → found ≡ find_through g.endian name (chunks_in (bytes_in_block g inode n / 512) bytes) → answer ≡ Some (or_bad_chunk found)
    → ReadsAs stands before tells after (block_of g inode n) (Some (Ok (Some bytes))) → ReadsAs stands before tells after (find_in_block g inode name n) answer
unfolding find_in_block
found_in g inode name n bytes found answer grows e1 e2 reads =
    rw (e2, e1) (reads_on refusal_of _ _ _ grows (λ v h. h) (λ h. h) (chunks_read g inode n bytes grows reads) (reads_known _))

pub not_in_hole : {stands : Volume → Type 0} {tells : Type 0} {before after : ℕ → Bool} (g : Geometry) (inode : Inode) (name : List ℕ) (n : ℕ)
    → Grows before after → ReadsAs stands before tells after (block_of g inode n) (Some (Ok None))
    → ReadsAs stands before tells after (find_in_block g inode name n) (Some (Err (Bad Hole)))
unfolding find_in_block
not_in_hole g inode name n grows reads = reads_refused refusal_of _ (FaultBad Hole) grows (chunks_hole g inode n grows reads)

pub block_unread : {stands : Volume → Type 0} {tells : Type 0} {before after : ℕ → Bool} (g : Geometry) (inode : Inode) (name : List ℕ) (n : ℕ) (fault : LookFault)
    → Grows before after → ReadsAs stands before tells after (block_of g inode n) (option_map Err (refusal_of fault))
    → ReadsAs stands before tells after (find_in_block g inode name n) (option_map Err (refusal_of fault))
unfolding find_in_block
block_unread g inode name n fault grows reads = reads_refused refusal_of _ fault grows (chunks_unread g inode n fault grows reads)

-- ---- block after block

pub next_block : {stands : Volume → Type 0} {tells : Type 0} {before now : ℕ → Bool} {whole : Reading (Result ℕ PathRefusal)} (g : Geometry) (inode : Inode) (name : List ℕ) (n count : ℕ) → n < count
    → Continues stands before tells now whole (find_from g inode name n (count - n))
    → Continues stands before tells now whole (and_then (find_in_block g inode name n) (λ found. found_else found (find_from g inode name (suc n) (count - suc n))))
unfolding find_from
next_block {stands} {tells} {before} {now} {whole} g inode name n count low so_far =
    subst (λ left. Continues stands before tells now whole (find_from g inode name n left)) (let e : count - n ≡ suc (count - suc n) = omega arith in e) so_far

pub no_block : {stands : Volume → Type 0} {tells : Type 0} {before now : ℕ → Bool} {whole : Reading (Result ℕ PathRefusal)} (g : Geometry) (inode : Inode) (name : List ℕ) (n count : ℕ) → count ≤ n
    → Continues stands before tells now whole (find_from g inode name n (count - n)) → Continues stands before tells now whole (known (Err NotFound))
unfolding find_from
no_block {stands} {tells} {before} {now} {whole} g inode name n count past so_far =
    subst (λ left. Continues stands before tells now whole (find_from g inode name n left)) (let e : count - n ≡ 0 = omega arith in e) so_far

-- ---- a directory, or what is none

pub refusal_said : (fault : LookFault) (refusal : Option PathRefusal) → Some (refusal_of fault) ≡ option_map Some refusal → refusal ≡ refusal_of fault
refusal_said fault (Some refusal) e = cc
refusal_said fault None e = cc

pub none_said : (refusal : Option PathRefusal) → None ≡ option_map Some refusal → refusal ≡ None
none_said (Some refusal) e = cc
none_said None e = refl

pub refused_then : {stands : Volume → Type 0} {tells : Type 0} {before after : ℕ → Bool} {A : Type 0} (d : Reading (Result A PathRefusal)) (refusal said : Option PathRefusal) → refusal ≡ said → Some said ≡ option_map Some refusal
    → ReadsAs stands before tells after (unless_refused refusal d) (option_map Err said)
refused_then d (Some refusal) said e1 e2 = rw (← e1) (reads_known (Err refusal))
refused_then d None said e1 e2 = cc

pub directory_refused : {stands : Volume → Type 0} {tells : Type 0} {before after : ℕ → Bool} (g : Geometry) (inode : Inode) (name : List ℕ) (fault : LookFault) → Some (refusal_of fault) ≡ option_map Some (directory_refusal inode)
    → ReadsAs stands before tells after (find_of g inode name) (option_map Err (refusal_of fault))
unfolding find_of
directory_refused g inode name fault e =
    refused_then _ (directory_refusal inode) (refusal_of fault) (refusal_said fault _ e) e

pub directory_read : {stands : Volume → Type 0} {tells : Type 0} {before after : ℕ → Bool} (g : Geometry) (inode : Inode) (name : List ℕ) (count : ℕ) (answer : Option (Result ℕ PathRefusal)) → None ≡ option_map Some (directory_refusal inode) → count ≡ block_count g inode
    → ReadsAs stands before tells after (find_from g inode name 0 count) answer → ReadsAs stands before tells after (find_of g inode name) answer
unfolding find_of
directory_read {stands} {tells} {before} {after} g inode name count answer e1 e2 reads =
    subst (λ r. ReadsAs stands before tells after (unless_refused r (find_from g inode name 0 (block_count g inode))) answer) (sym (none_said _ e1)) (rw e2 at reads)
