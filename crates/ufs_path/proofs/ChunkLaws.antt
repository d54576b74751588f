-- Going through the chunks of a file block.
use Rattle.std.proofs.Common.{◌≡◌, ◌∙◌, ℕ, zero, suc, ◌+◌, ◌-◌, ◌*◌, ◌<◌, ◌≤◌, Bool, true, false, ◌&&◌, not, List, [], ◌∷◌, ◌++◌, Option, Some, None, Ok, Err, length, take, drop, refl, sym, ap, arith}
use Rattle.std.specs.Option.{is_none, is_some}
use Rattle.std.proofs.lemmas.Bool.{and_parts}
use Rattle.std.proofs.lemmas.List.{drop-drop}
use Rattle.ufs_model.specs.Chunks.{DirEntry, chunk_in, entries_in, entry_before, entry_in, fault_at, fault_in, find_in, reclen_field, used_entries}
use Rattle.ufs_model.specs.Paths.{chunks_in, entries_then, entries_through, find_through, found_or}
use Rattle.ufs_model.specs.Superblocks.{unless_bad}
use Rattle.ufs_model.specs.declared.chunks.BadEntry.{BadEntry}
use Rattle.ufs_model.specs.declared.chunks.Found.{Found}
use Rattle.ufs_model.specs.declared.chunks.Found.TheVariants.{At, Absent, Bad}
use Rattle.ufs_model.specs.declared.numbers.Endian.{Endian}
use Rattle.ufs_model.specs.declared.reads.BadRead.TheVariants.{Chunk}
use Rattle.ufs_model.specs.declared.reads.PathRefusal.TheVariants.{Bad as RefusedBad}
use Rattle.ufs_path.specs.Walks.{are_sound, entries_among}

pub chunks_next : (count i : ℕ) (bytes : List ℕ) → i < count
    → chunks_in (count - i) (drop (i * 512) bytes) ≡ take 512 (drop (i * 512) bytes) ∷ chunks_in (count - (i + 1)) (drop ((i + 1) * 512) bytes)
chunks_next count i bytes low =
    let more : count - i ≡ suc (count - (i + 1)) = omega arith in
    let place : (i + 1) * 512 ≡ i * 512 + 512 = omega arith in
    rw (more, place, ← drop-drop 512 (i * 512) bytes) refl

pub chunks_end : (count i : ℕ) (bytes : List ℕ) → count ≤ i → chunks_in (count - i) bytes ≡ []
chunks_end count i bytes past = let none : count - i ≡ 0 = omega arith in rw none refl

-- one chunk, and then those after it
pub next_chunk : (endian : Endian) (name : List ℕ) (count i : ℕ) (bytes : List ℕ) → i < count
    → find_through endian name (chunks_in (count - i) (drop (i * 512) bytes))
    ≡ found_or (find_in endian name (take 512 (drop (i * 512) bytes))) (find_through endian name (chunks_in (count - (i + 1)) (drop ((i + 1) * 512) bytes)))
unfolding find_through
next_chunk endian name count i bytes low = ap (find_through endian name) (chunks_next count i bytes low)

found_first : (found rest : Found) → (found ≡ Absent → ⊥) → found_or found rest ≡ found
found_first (At i) rest other = refl
found_first (Bad bad) rest other = refl
found_first Absent rest other = absurd (other refl)

pub no_chunk : (endian : Endian) (name : List ℕ) (count i : ℕ) (bytes : List ℕ) → count ≤ i → find_through endian name (chunks_in (count - i) bytes) ≡ Absent
unfolding find_through
no_chunk endian name count i bytes past = ap (find_through endian name) (chunks_end count i bytes past)

-- the search ends at a chunk, or goes on after it
pub ends_at : (endian : Endian) (name : List ℕ) (count i : ℕ) (bytes chunk : List ℕ) (found whole : Found) → i < count → chunk ≡ take 512 (drop (i * 512) bytes)
    → find_in endian name chunk ≡ found → (found ≡ Absent → ⊥) → find_through endian name (chunks_in (count - i) (drop (i * 512) bytes)) ≡ whole → found ≡ whole
ends_at endian name count i bytes chunk found whole low e here other so_far =
    sym (found_first found (find_through endian name (chunks_in (count - (i + 1)) (drop ((i + 1) * 512) bytes))) other)
    ∙ ap (λ f. found_or f (find_through endian name (chunks_in (count - (i + 1)) (drop ((i + 1) * 512) bytes)))) (sym here ∙ ap (find_in endian name) e)
    ∙ sym (next_chunk endian name count i bytes low) ∙ so_far

pub goes_past : (endian : Endian) (name : List ℕ) (count i : ℕ) (bytes chunk : List ℕ) (whole : Found) → i < count → chunk ≡ take 512 (drop (i * 512) bytes)
    → find_in endian name chunk ≡ Absent → find_through endian name (chunks_in (count - i) (drop (i * 512) bytes)) ≡ whole
    → find_through endian name (chunks_in (count - (i + 1)) (drop ((i + 1) * 512) bytes)) ≡ whole
goes_past endian name count i bytes chunk whole low e here so_far =
    ap (λ f. found_or f (find_through endian name (chunks_in (count - (i + 1)) (drop ((i + 1) * 512) bytes)))) (sym here ∙ ap (find_in endian name) e)
    ∙ sym (next_chunk endian name count i bytes low) ∙ so_far

-- the bytes of a chunk in its block
pub chunk_bytes : (i : ℕ) (bytes : List ℕ) → take (i * 512 + 512 - i * 512) (drop (i * 512) bytes) ≡ take 512 (drop (i * 512) bytes)
chunk_bytes i bytes = ap (λ n. take n (drop (i * 512) bytes)) (let e : i * 512 + 512 - i * 512 ≡ 512 = omega arith in e)

-- ---- chunks none of which is refused, or one of which is

-- the test of a chunk, and then of those after it
sound_next : (endian : Endian) (count i : ℕ) (bytes chunk : List ℕ) (fault : Option BadEntry) (whole : Bool) → i < count → chunk ≡ take 512 (drop (i * 512) bytes) → fault ≡ fault_in endian 0 chunk
    → are_sound endian (chunks_in (count - i) (drop (i * 512) bytes)) ≡ whole
    → (is_none fault && are_sound endian (chunks_in (count - (i + 1)) (drop ((i + 1) * 512) bytes))) ≡ whole
sound_next endian count i bytes chunk fault whole low e here so_far =
    ap (λ f. is_none f && are_sound endian (chunks_in (count - (i + 1)) (drop ((i + 1) * 512) bytes))) (here ∙ ap (fault_in endian 0) e)
    ∙ sym (ap (are_sound endian) (chunks_next count i bytes low)) ∙ so_far

-- a chunk that is refused, and one that isn't
pub unsound_at : (endian : Endian) (count i : ℕ) (bytes chunk : List ℕ) (fault : Option BadEntry) (whole : Bool) → i < count → chunk ≡ take 512 (drop (i * 512) bytes) → fault ≡ fault_in endian 0 chunk
    → is_some fault ≡ true → are_sound endian (chunks_in (count - i) (drop (i * 512) bytes)) ≡ whole → false ≡ whole
unsound_at endian count i bytes chunk fault whole low e here some so_far =
    sym (ap (λ b. not b && are_sound endian (chunks_in (count - (i + 1)) (drop ((i + 1) * 512) bytes))) some) ∙ sound_next endian count i bytes chunk fault whole low e here so_far

pub sound_past : (endian : Endian) (count i : ℕ) (bytes chunk : List ℕ) (fault : Option BadEntry) (whole : Bool) → i < count → chunk ≡ take 512 (drop (i * 512) bytes) → fault ≡ fault_in endian 0 chunk
    → is_some fault ≡ false → are_sound endian (chunks_in (count - i) (drop (i * 512) bytes)) ≡ whole → are_sound endian (chunks_in (count - (i + 1)) (drop ((i + 1) * 512) bytes)) ≡ whole
sound_past endian count i bytes chunk fault whole low e here none so_far =
    sym (ap (λ b. not b && are_sound endian (chunks_in (count - (i + 1)) (drop ((i + 1) * 512) bytes))) none) ∙ sound_next endian count i bytes chunk fault whole low e here so_far

sound_then : (endian : Endian) (fault : Option BadEntry) (entries : List DirEntry) (chunks : List (List ℕ)) → is_none fault ≡ true → entries_through endian chunks ≡ Ok (entries_among endian chunks)
    → entries_then (unless_bad fault entries) (entries_through endian chunks) ≡ Ok (used_entries entries ++ entries_among endian chunks)
sound_then endian None entries chunks none rest = ap (entries_then (Ok entries)) rest
sound_then endian (Some bad) entries chunks none rest = cc

-- the entries of chunks none of which is refused
pub sound_entries : (endian : Endian) (chunks : List (List ℕ)) → are_sound endian chunks ≡ true → entries_through endian chunks ≡ Ok (entries_among endian chunks)
unfolding chunk_in
sound_entries endian [] sound = refl
sound_entries endian (chunk ∷ chunks) sound =
    let both = and_parts (is_none (fault_in endian 0 chunk)) (are_sound endian chunks) sound in
    sound_then endian (fault_in endian 0 chunk) (entries_in endian 0 chunk) chunks (both.0) (sound_entries endian chunks (both.1))

unsound_then : (endian : Endian) (fault : Option BadEntry) (entries : List DirEntry) (rest : Bool) (chunks : List (List ℕ)) → (is_none fault && rest) ≡ false → (rest ≡ false → entries_through endian chunks ≡ Err (RefusedBad Chunk))
    → entries_then (unless_bad fault entries) (entries_through endian chunks) ≡ Err (RefusedBad Chunk)
unsound_then endian None entries rest chunks refused further = ap (entries_then (Ok entries)) (further refused)
unsound_then endian (Some bad) entries rest chunks refused further = refl

-- chunks one of which is refused
pub unsound_entries : (endian : Endian) (chunks : List (List ℕ)) → are_sound endian chunks ≡ false → entries_through endian chunks ≡ Err (RefusedBad Chunk)
unfolding chunk_in
unsound_entries endian [] refused = cc
unsound_entries endian (chunk ∷ chunks) refused =
    unsound_then endian (fault_in endian 0 chunk) (entries_in endian 0 chunk) (are_sound endian chunks) chunks refused (unsound_entries endian chunks)

-- ---- the number of entries

few_before : (fault : Option BadEntry) (entry : DirEntry) (further : List DirEntry) (n : ℕ) → length further ≤ n → length (entry_before fault entry further) ≤ suc n
few_before None entry further n few = omega arith
few_before (Some bad) entry further n few = omega arith

-- an entry has a byte or more
pub entries_few : (endian : Endian) (skip : ℕ) (bytes : List ℕ) → length (entries_in endian skip bytes) ≤ length bytes
unfolding entries_in
entries_few endian skip [] = omega arith
entries_few endian (suc skip) (b ∷ bytes) = let few = entries_few endian skip bytes in omega arith
entries_few endian zero (b ∷ bytes) =
    few_before (fault_at endian (b ∷ bytes)) (entry_in endian (b ∷ bytes)) (entries_in endian (reclen_field endian (b ∷ bytes) - 1) bytes) (length bytes)
    (entries_few endian (reclen_field endian (b ∷ bytes) - 1) bytes)
