-- Blocks without the zeros at their end.
use Rattle.std.proofs.Common.{◌≡◌, ◌≤◌, ◌-◌, ◌*◌, ℕ, zero, suc, List, [], ◌∷◌, ◌++◌, length, drop, refl, sym, ◌∙◌, ap, arith}
use Rattle.std.specs.Prelude.{replicate}
use Rattle.std.proofs.lemmas.List.{length-take}
use Rattle.dg_model.specs.Blocks.{in_front, padded, stripped}
use Rattle.ufs_build.specs.Traces.{block_in}

front_short : (x n : ℕ) (s : List ℕ) → length s ≤ n → length (in_front x s) ≤ suc n
front_short zero n [] low = omega arith
front_short (suc x) n [] low = omega arith
front_short zero n (y ∷ ys) low = omega (arith, low)
front_short (suc x) n (y ∷ ys) low = omega (arith, low)

stripped_short : (xs : List ℕ) → length (stripped xs) ≤ length xs
stripped_short [] = omega arith
stripped_short (x ∷ xs) = front_short x (length xs) (stripped xs) (stripped_short xs)

front_padded : (x n : ℕ) (s : List ℕ) → length s ≤ n → padded (suc n) (in_front x s) ≡ x ∷ padded n s
front_padded zero n [] low =
    let a : suc n - 0 ≡ suc (n - 0) = omega arith in
    ap (λ (k : ℕ). replicate k 0) a
front_padded (suc x) n [] low =
    let a : suc n - 1 ≡ n - 0 = omega arith in
    ap (λ (k : ℕ). suc x ∷ replicate k 0) a
front_padded zero n (y ∷ ys) low =
    let a : suc n - length (zero ∷ y ∷ ys) ≡ n - length (y ∷ ys) = omega arith in
    ap (λ (k : ℕ). zero ∷ y ∷ (ys ++ replicate k 0)) a
front_padded (suc x) n (y ∷ ys) low =
    let a : suc n - length (suc x ∷ y ∷ ys) ≡ n - length (y ∷ ys) = omega arith in
    ap (λ (k : ℕ). suc x ∷ y ∷ (ys ++ replicate k 0)) a

padded_stripped : (xs : List ℕ) → padded (length xs) (stripped xs) ≡ xs
padded_stripped [] = refl
padded_stripped (x ∷ xs) = front_padded x (length xs) (stripped xs) (stripped_short xs) ∙ ap (λ (l : List ℕ). x ∷ l) (padded_stripped xs)

-- with zeros for the missing end they are the block again
pub padded_block : (l : ℕ) (block bytes : List ℕ) → length block ≡ l → bytes ≡ stripped block → block ≡ padded l bytes
padded_block l block bytes size is =
    sym (padded_stripped block) ∙ ap (λ (n : ℕ). padded n (stripped block)) size ∙ ap (λ (b : List ℕ). padded l b) (sym is)

-- they have no more bytes than a block
pub stripped_within : (l : ℕ) (image : List ℕ) (b : ℕ) → length (stripped (block_in l image b)) ≤ l
stripped_within l image b =
    let short = stripped_short (block_in l image b) in
    let taken = length-take l (drop (b * l) image) in
    omega (arith, short, taken)
