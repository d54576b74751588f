-- Reading the bytes of a file, part after part.
use Rattle.std.proofs.Common.{◌≡◌, ◌∙◌, ℕ, suc, Bool, List, [], ◌++◌, Some, None, Ok, Err, Result, Option, take, replicate, refl, sym, ap, subst}
use Rattle.std.specs.Option.{option_map}
use Rattle.ufs_model.specs.Blocks.{Volume, known}
use Rattle.ufs_model.specs.Inodes.{block_count}
use Rattle.ufs_model.specs.Paths.{block_of, bytes_in_block, contents_of, file_refusal, front_of, part_of, unless_refused}
use Rattle.ufs_model.specs.Readings.{Grows, ReadsAs, and_then}
use Rattle.ufs_model.proofs.ReadingLaws.{reads_known, reads_on, reads_refused}
use Rattle.ufs_model.specs.declared.geometries.Geometry.{Geometry}
use Rattle.ufs_model.specs.declared.inodes.Inode.{Inode}
use Rattle.ufs_model.specs.declared.reads.PathRefusal.{PathRefusal}
use Rattle.ufs_path.proofs.PartLaws.{AreFronts}
use Rattle.ufs_path.specs.Answers.{refusal_of}
use Rattle.ufs_path.specs.declared.faults.LookFault.{LookFault}

-- ---- a part of a file

-- the part of a block that is there
pub part_read : {stands : Volume → Type 0} {tells : Type 0} {before after : ℕ → Bool} (g : Geometry) (inode : Inode) (n count : ℕ) (block : List ℕ)
    → Grows before after → count ≡ bytes_in_block g inode n
    → ReadsAs stands before tells after (block_of g inode n) (Some (Ok (Some block))) → ReadsAs stands before tells after (part_of g inode n) (Some (Ok (take count block)))
unfolding part_of
part_read g inode n count block grows e reads =
    rw e (reads_on refusal_of _ (Some block) _ grows (λ v h. h) (λ h. h) reads (reads_known _))

-- the part of a hole
pub part_hole : {stands : Volume → Type 0} {tells : Type 0} {before after : ℕ → Bool} (g : Geometry) (inode : Inode) (n count : ℕ) (buf : List ℕ)
    → Grows before after → count ≡ bytes_in_block g inode n → take count buf ≡ replicate count 0
    → ReadsAs stands before tells after (block_of g inode n) (Some (Ok None)) → ReadsAs stands before tells after (part_of g inode n) (Some (Ok (take count buf)))
unfolding part_of
part_hole g inode n count buf grows e zeros reads =
    rw (zeros, e) (reads_on refusal_of _ None _ grows (λ v h. h) (λ h. h) reads (reads_known _))

pub part_unread : {stands : Volume → Type 0} {tells : Type 0} {before after : ℕ → Bool} (g : Geometry) (inode : Inode) (n : ℕ) (fault : LookFault)
    → Grows before after → ReadsAs stands before tells after (block_of g inode n) (option_map Err (refusal_of fault))
    → ReadsAs stands before tells after (part_of g inode n) (option_map Err (refusal_of fault))
unfolding part_of
part_unread g inode n fault grows reads = reads_refused refusal_of _ fault grows reads

-- ---- parts end to end

file_none : (g : Geometry) (inode : Inode) (v : Volume) → known (Ok []) v ≡ front_of g inode 0 v
unfolding front_of
file_none g inode v = refl

file_more : (g : Geometry) (inode : Inode) (k : ℕ) (v : Volume)
    → and_then (front_of g inode k) (λ front. and_then (part_of g inode k) (λ part. known (Ok (front ++ part)))) v ≡ front_of g inode (suc k) v
unfolding front_of
file_more g inode k v = refl

pub file_fronts : (g : Geometry) (inode : Inode) → AreFronts (front_of g inode) (part_of g inode)
file_fronts g inode = record { none = file_none g inode; more = file_more g inode }

-- ---- a regular file, or what is none

pub file_refused : {stands : Volume → Type 0} {tells : Type 0} {before after : ℕ → Bool} (g : Geometry) (inode : Inode) (refusal : PathRefusal) → file_refusal inode ≡ Some refusal
    → ReadsAs stands before tells after (contents_of g inode) (Some (Err refusal))
unfolding contents_of
file_refused {stands} {tells} {before} {after} g inode refusal e =
    subst (λ r. ReadsAs stands before tells after (unless_refused r (front_of g inode (block_count g inode))) (Some (Err refusal))) (sym e) (reads_known (Err refusal))

contents_are : (g : Geometry) (inode : Inode) (count : ℕ) → file_refusal inode ≡ None → count ≡ block_count g inode → front_of g inode count ≡ contents_of g inode
unfolding contents_of
contents_are g inode count e1 e2 =
    ap (front_of g inode) e2 ∙ sym (ap (λ r. unless_refused r (front_of g inode (block_count g inode))) e1)

pub contents_read : {stands : Volume → Type 0} {tells : Type 0} {before after : ℕ → Bool} (g : Geometry) (inode : Inode) (count : ℕ) (answer : Option (Result (List ℕ) PathRefusal)) → file_refusal inode ≡ None → count ≡ block_count g inode
    → ReadsAs stands before tells after (front_of g inode count) answer → ReadsAs stands before tells after (contents_of g inode) answer
contents_read {stands} {tells} {before} {after} g inode count answer e1 e2 reads =
    subst (λ d. ReadsAs stands before tells after d answer) (contents_are g inode count e1 e2) reads
