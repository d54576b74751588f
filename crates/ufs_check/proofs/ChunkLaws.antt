-- Going through the chunks of a file block.
use Rattle.std.proofs.Common.{◌≡◌, ◌∙◌, ℕ, suc, ◌+◌, ◌-◌, ◌*◌, ◌<◌, Bool, true, false, List, ◌∷◌, Option, Some, None, take, drop, refl, sym, ap, arith}
use Rattle.std.specs.Prelude.{◌||◌}
use Rattle.std.specs.List.{list_any}
use Rattle.std.specs.Option.{is_some}
use Rattle.std.proofs.lemmas.List.{drop-drop}
use Rattle.ufs_model.specs.Chunks.{fault_in}
use Rattle.ufs_model.specs.Paths.{chunks_in}
use Rattle.ufs_model.specs.declared.numbers.Endian.{Endian}
use Rattle.ufs_check.specs.Entries.{is_refused}

-- the bytes of a chunk in its block
pub chunk_bytes : (i : ℕ) (bytes : List ℕ) → take (i * 512 + 512 - i * 512) (drop (i * 512) bytes) ≡ take 512 (drop (i * 512) bytes)
chunk_bytes i bytes = ap (λ n. take n (drop (i * 512) bytes)) (let e : i * 512 + 512 - i * 512 ≡ 512 = omega arith in e)

-- one chunk, and then those after it
pub next_chunks : (count i : ℕ) (bytes : List ℕ) → i < count
    → chunks_in (count - i) (drop (i * 512) bytes) ≡ take 512 (drop (i * 512) bytes) ∷ chunks_in (count - (i + 1)) (drop ((i + 1) * 512) bytes)
next_chunks count i bytes low =
    let more : count - i ≡ suc (count - (i + 1)) = omega arith in
    let place : (i + 1) * 512 ≡ i * 512 + 512 = omega arith in
    rw (more, place, ← drop-drop 512 (i * 512) bytes) refl

-- ---- refused chunks

or_true : (a b : Bool) → a ≡ true → (a || b) ≡ true
or_true a b is = rw is refl

or_none : (a b : Bool) → a ≡ false → (a || b) ≡ b
or_none a b is = rw is refl

pub refused_here : (endian : Endian) (count i : ℕ) (bytes : List ℕ) (whole : Bool) → i < count → is_refused endian (take 512 (drop (i * 512) bytes)) ≡ true
    → list_any (is_refused endian) (chunks_in (count - i) (drop (i * 512) bytes)) ≡ whole → true ≡ whole
refused_here endian count i bytes whole low is so_far =
    sym (or_true _ (list_any (is_refused endian) (chunks_in (count - (i + 1)) (drop ((i + 1) * 512) bytes))) is) ∙ sym (ap (list_any (is_refused endian)) (next_chunks count i bytes low)) ∙ so_far

pub refused_further : (endian : Endian) (count i : ℕ) (bytes : List ℕ) (whole : Bool) → i < count → is_refused endian (take 512 (drop (i * 512) bytes)) ≡ false
    → list_any (is_refused endian) (chunks_in (count - i) (drop (i * 512) bytes)) ≡ whole → list_any (is_refused endian) (chunks_in (count - (i + 1)) (drop ((i + 1) * 512) bytes)) ≡ whole
refused_further endian count i bytes whole low is so_far =
    sym (or_none _ (list_any (is_refused endian) (chunks_in (count - (i + 1)) (drop ((i + 1) * 512) bytes))) is) ∙ sym (ap (list_any (is_refused endian)) (next_chunks count i bytes low)) ∙ so_far

pub or_first : (a b : Bool) → (a || b) ≡ false → (a ≡ false) × (b ≡ false)
or_first true b is = (is, let no : true ≡ false = is in cc)
or_first false b is = (refl, is)

pub not_some : {A : Type 0} (o : Option A) → is_some o ≡ false → o ≡ None
not_some None is = refl
not_some (Some a) is = let no : true ≡ false = is in cc

-- of chunks none of which is refused, the next isn't, nor is one after it
pub whole_here : (endian : Endian) (count i : ℕ) (bytes : List ℕ) → i < count → list_any (is_refused endian) (chunks_in (count - i) (drop (i * 512) bytes)) ≡ false
    → (fault_in endian 0 (take 512 (drop (i * 512) bytes)) ≡ None) × (list_any (is_refused endian) (chunks_in (count - (i + 1)) (drop ((i + 1) * 512) bytes)) ≡ false)
whole_here endian count i bytes low none =
    let parts = or_first (is_refused endian (take 512 (drop (i * 512) bytes))) (list_any (is_refused endian) (chunks_in (count - (i + 1)) (drop ((i + 1) * 512) bytes)))
    (sym (ap (list_any (is_refused endian)) (next_chunks count i bytes low)) ∙ none) in
    (not_some _ parts.0, parts.1)
