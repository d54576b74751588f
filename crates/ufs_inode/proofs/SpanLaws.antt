-- The last block of a file, where it is cut short, has some bytes, and so takes some fragments.
use Rattle.std.proofs.Common.{◌≡◌, ℕ, ◌+◌, ◌-◌, ◌*◌, ◌%◌, ◌<◌, ◌≤◌, arith, subst}
use Rattle.std.specs.Int.{div_ceil}
use Rattle.std.proofs.lemmas.Grind.{div_ceil_times}
use Rattle.std.proofs.lemmas.Nat.{mod-mul-add}

pub some_left : (k b n : ℕ) → k * b < n → n < k * b + b → 0 < n % b
some_left k b n low high =
    let sum : k * b + (n - k * b) ≡ n = omega arith in
    let rest = mod-mul-add k b (n - k * b) (omega arith) in
    let e : n % b ≡ n - k * b = subst (λ (m : ℕ). m % b ≡ n - k * b) sum rest in
    omega arith

pub ceil_some : (m f : ℕ) → 0 < m → 0 < f → 1 ≤ div_ceil m f
ceil_some m f some divisor = let h = div_ceil_times m f divisor in grind arith
