-- Lists of one item.
use Rattle.std.proofs.Common.{◌≡◌, ◌<◌, ◌++◌, ◌∷◌, ℕ, Bool, List, [], zero, suc, true, false, get_or, replicate, refl, arith}

pub zeros_at : (n q : ℕ) → get_or {A = ℕ} (replicate n 0) q 0 ≡ 0
zeros_at zero q = refl
zeros_at (suc n) zero = refl
zeros_at (suc n) (suc q) = zeros_at n q

pub none_at : (n q : ℕ) → get_or (replicate n false) q false ≡ false
none_at zero q = refl
none_at (suc n) zero = refl
none_at (suc n) (suc q) = none_at n q

pub all_at : (n q : ℕ) → q < n → get_or (replicate n true) q false ≡ true
all_at zero q low = absurd (omega (arith, low))
all_at (suc n) zero low = refl
all_at (suc n) (suc q) low = all_at n q (omega (arith, low))

-- marks of the first ones, and none of those behind
pub marked_first : (marks : List Bool) (n q : ℕ) → get_or (marks ++ replicate n false) q false ≡ get_or marks q false
marked_first [] n q = none_at n q
marked_first (mark ∷ marks) n zero = refl
marked_first (mark ∷ marks) n (suc q) = marked_first marks n q
