-- Bits of lost boundaries.
use Rattle.std.proofs.Common.{◌≡◌, ℕ, zero, suc, ◌+◌, ◌*◌, ◌%◌, ◌^◌, ◌≤◌, ◌<◌, true, false, Bool, arith}
use Rattle.std.specs.Prelude.{if◌then◌else◌}
use Rattle.std.proofs.Math.Nat.{pow-le-pow_right}
use Rattle.std.proofs.Math.Nat.{two-pow-succ}
use Rattle.dg_model.specs.Members.{is_lost}
use Rattle.dg_model.specs.declared.members.MemberState.{MemberState}
use Rattle.dg_store.specs.Stores.{lost_bits}

either : (b : Bool) (n : ℕ) → (if b then n else 0) ≤ n
either true n = omega arith
either false n = omega arith

pub bits_below : (members : ℕ → MemberState) (s : ℕ) → lost_bits members s < 2 ^ s
bits_below members zero = omega arith
bits_below members (suc s) = omega (arith, bits_below members s, either (is_lost members s) (2 ^ s), two-pow-succ s)

pub bit_is : (s : ℕ) → s < 16 → 1 * 2 ^ s % 65536 ≡ 2 ^ s
bit_is s below =
    let most : 2 ^ s ≤ 2 ^ 15 = pow-le-pow_right {n = 2} (omega arith) {i = s} {j = 15} (omega arith) in
    omega (arith, most)

pub bits_fit : (members : ℕ → MemberState) (s : ℕ) → s < 16 → lost_bits members s + 2 ^ s < 65536
bits_fit members s below =
    let most : 2 ^ s ≤ 2 ^ 15 = pow-le-pow_right {n = 2} (omega arith) {i = s} {j = 15} (omega arith) in
    omega (arith, most, bits_below members s)
