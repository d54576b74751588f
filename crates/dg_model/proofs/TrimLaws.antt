-- Bytes without the zeros at their end are computed. A library for the crates above.
use Rattle.std.proofs.Common.{◌≡◌, ◌≢◌, ◌<◌, ◌-◌, ℕ, zero, suc, List, [], ◌∷◌, ◌++◌, length, slice_index, refl, sym, ◌∙◌, ap, arith}
use Rattle.std.specs.Prelude.{replicate}
use Rattle.dg_model.specs.Blocks.{IsTrimmed, in_front, padded, stripped, zeros}

zeros_go : (m : ℕ) → stripped (replicate m 0) ≡ []
zeros_go zero = refl
zeros_go (suc m) = rw (zeros_go m) refl

-- zeros behind bytes change nothing
pub stripped_padded : (xs : List ℕ) (m : ℕ) → stripped (xs ++ replicate m 0) ≡ stripped xs
stripped_padded [] m = zeros_go m
stripped_padded (x ∷ xs) m = ap (λ (l : List ℕ). in_front x l) (stripped_padded xs m)

one_stays : (x : ℕ) → x ≢ 0 → in_front x [] ≡ x ∷ []
one_stays zero some = absurd (some refl)
one_stays (suc x) some = refl

front_stays : (x y : ℕ) (ys : List ℕ) → in_front x (y ∷ ys) ≡ x ∷ y ∷ ys
front_stays zero y ys = refl
front_stays (suc x) y ys = refl

-- bytes that have no zero at their end stay
pub stripped_same : (xs : List ℕ) → (0 < length xs → slice_index xs (length xs - 1) ≢ 0) → stripped xs ≡ xs
stripped_same [] last = refl
stripped_same (x ∷ []) last = one_stays x (last (omega arith))
stripped_same (x ∷ y ∷ ys) last =
    let at : length (x ∷ y ∷ ys) - 1 ≡ suc (length (y ∷ ys) - 1) = omega arith in
    let last' : slice_index (y ∷ ys) (length (y ∷ ys) - 1) ≢ 0 = λ e. last (omega arith) (ap (λ (k : ℕ). slice_index (x ∷ y ∷ ys) k) at ∙ e) in
    ap (λ (l : List ℕ). in_front x l) (stripped_same (y ∷ ys) (λ low. last')) ∙ front_stays x y ys

-- what is trimmed of a block is its bytes without the zeros at its end
pub trimmed_is : (bytes block : List ℕ) → IsTrimmed bytes block → bytes ≡ stripped block
trimmed_is bytes block is =
    sym (stripped_same bytes is.last) ∙ sym (stripped_padded bytes (length block - length bytes)) ∙ ap stripped (sym is.whole)

-- what is trimmed of a block that was written with these bytes
pub trimmed_written : (l : ℕ) (bytes block written : List ℕ) → IsTrimmed bytes block → block ≡ padded l written → bytes ≡ stripped written
trimmed_written l bytes block written is wrote = trimmed_is bytes block is ∙ ap stripped wrote ∙ stripped_padded written (l - length written)

-- a block of zeros is one that was written with no bytes
pub zeros_padded : (l : ℕ) → zeros l ≡ padded l []
zeros_padded l = let e : l ≡ l - 0 = omega arith in ap (λ (k : ℕ). replicate k 0) e
