-- The entries and the fault of the bytes from an entry on, by the entry at the front.
use Rattle.std.proofs.Common.{◌≡◌, ◌∙◌, ℕ, zero, suc, ◌-◌, ◌<◌, List, [], ◌∷◌, length, drop, Some, refl, ap, arith}
use Rattle.ufs_model.specs.Chunks.{DirEntry, entries_in, entry_before, entry_in, fault_at, fault_in, fault_or, reclen_field}
use Rattle.ufs_model.specs.declared.numbers.Endian.{Endian}
use Rattle.ufs_model.specs.declared.chunks.BadEntry.{BadEntry}
use Rattle.ufs_dir.specs.Parts.{IsSplit}
use Rattle.ufs_dir.specs.Steps.{GivesBad, GivesEnd, GivesEntry, left_in}

-- bytes that belong to the entry before are passed over
entries_in-skip : (endian : Endian) (skip : ℕ) (bytes : List ℕ) → entries_in endian skip bytes ≡ entries_in endian 0 (drop skip bytes)
unfolding entries_in
entries_in-skip endian zero bytes = refl
entries_in-skip endian (suc skip) [] = refl
entries_in-skip endian (suc skip) (b ∷ bytes) = entries_in-skip endian skip bytes

fault_in-skip : (endian : Endian) (skip : ℕ) (bytes : List ℕ) → fault_in endian skip bytes ≡ fault_in endian 0 (drop skip bytes)
unfolding fault_in
fault_in-skip endian zero bytes = refl
fault_in-skip endian (suc skip) [] = refl
fault_in-skip endian (suc skip) (b ∷ bytes) = fault_in-skip endian skip bytes

drop-rest : (n : ℕ) → 0 < n → (b : ℕ) (bytes : List ℕ) → drop (n - 1) bytes ≡ drop n (b ∷ bytes)
drop-rest zero some b bytes = absurd (omega arith)
drop-rest (suc n) some b bytes = let e : suc n - 1 ≡ n = omega arith in ap (λ m. drop m bytes) e

-- the entry at the front, and those of the bytes that it leaves
entries_in-front : (endian : Endian) (bytes : List ℕ) → 0 < length bytes → 0 < reclen_field endian bytes
    → entries_in endian 0 bytes ≡ entry_before (fault_at endian bytes) (entry_in endian bytes) (entries_in endian 0 (drop (reclen_field endian bytes) bytes))
unfolding entries_in
entries_in-front endian [] some moves = absurd (omega arith)
entries_in-front endian (b ∷ bytes) some moves =
    ap (entry_before (fault_at endian (b ∷ bytes)) (entry_in endian (b ∷ bytes)))
    (entries_in-skip endian (reclen_field endian (b ∷ bytes) - 1) bytes ∙ ap (entries_in endian 0) (drop-rest (reclen_field endian (b ∷ bytes)) moves b bytes))

fault_in-front : (endian : Endian) (bytes : List ℕ) → 0 < length bytes → 0 < reclen_field endian bytes
    → fault_in endian 0 bytes ≡ fault_or (fault_at endian bytes) (fault_in endian 0 (drop (reclen_field endian bytes) bytes))
unfolding fault_in
fault_in-front endian [] some moves = absurd (omega arith)
fault_in-front endian (b ∷ bytes) some moves =
    ap (fault_or (fault_at endian (b ∷ bytes)))
    (fault_in-skip endian (reclen_field endian (b ∷ bytes) - 1) bytes ∙ ap (fault_in endian 0) (drop-rest (reclen_field endian (b ∷ bytes)) moves b bytes))

-- where the entry at the front is refused, there are no entries, and its fault is the first
entries_in-bad : (endian : Endian) (bytes : List ℕ) (bad : BadEntry) → fault_at endian bytes ≡ Some bad → entries_in endian 0 bytes ≡ []
unfolding entries_in
entries_in-bad endian [] bad is = refl
entries_in-bad endian (b ∷ bytes) bad is =
    ap (λ o. entry_before o (entry_in endian (b ∷ bytes)) (entries_in endian (reclen_field endian (b ∷ bytes) - 1) bytes)) is

fault_in-bad : (endian : Endian) (bytes : List ℕ) (bad : BadEntry) → 0 < length bytes → fault_at endian bytes ≡ Some bad → fault_in endian 0 bytes ≡ Some bad
unfolding fault_in
fault_in-bad endian [] bad some is = absurd (omega arith)
fault_in-bad endian (b ∷ bytes) bad some is =
    ap (λ o. fault_or o (fault_in endian (reclen_field endian (b ∷ bytes) - 1) bytes)) is

-- the three steps
pub gives_entry : (endian : Endian) (bytes : List ℕ) (entry : DirEntry) (after : List ℕ) → 0 < length bytes → IsSplit endian bytes entry after
    → GivesEntry (left_in endian bytes) entry (left_in endian after)
gives_entry endian bytes entry after some split = record {
  entries = rw (entries_in-front endian bytes some split.moves, split.fault, split.entry_is, split.after_is) refl;
  fault = rw (fault_in-front endian bytes some split.moves, split.fault, split.after_is) refl;
  unused = split.unused;
  used = split.used;
  short = split.short;
}

pub gives_bad : (endian : Endian) (bytes : List ℕ) (bad : BadEntry) → 0 < length bytes → fault_at endian bytes ≡ Some bad
    → GivesBad (left_in endian bytes) bad (left_in endian bytes)
gives_bad endian bytes bad some is = record {
  entries = entries_in-bad endian bytes bad is;
  fault = fault_in-bad endian bytes bad some is;
  stays = refl;
}

pub gives_end : (endian : Endian) (bytes : List ℕ) → length bytes ≡ 0 → GivesEnd (left_in endian bytes) (left_in endian bytes)
unfolding entries_in fault_in
gives_end endian [] none = record { entries = refl; fault = refl; stays = refl }
gives_end endian (b ∷ bytes) none = absurd (omega arith)
