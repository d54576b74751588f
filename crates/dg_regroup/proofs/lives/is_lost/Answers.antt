use Rattle.std.proofs.Common.{◌≡◌, ◌==◌, nat_lt, ℕ, false, sym, ◌∙◌, ap, arith}
use Rattle.std.specs.Int.{bit_at}
use Rattle.std.proofs.lemmas.Bool.Decides.{nat_tests}
use Rattle.std.proofs.lemmas.Nat.Bits.{bit_at_above}
use Rattle.dg_regroup.proofs.lives.is_lost.Goals as goal

pub returns-else-s-lt16 : goal.returns-else-s-lt16
returns-else-s-lt16 c =
    let none : bit_at c.args.lost c.args.s ≡ 0 = bit_at_above c.args.lost 16 c.args.s (omega arith) (omega arith) in
    let high : nat_lt c.args.s 16 ≡ false = grind (arith, nat_tests) in
    high ∙ sym (ap (λ (n : ℕ). n == 1) none)
