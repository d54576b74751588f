use Rattle.std.proofs.Common.{◌==◌, ◌%◌, sym, ◌∙◌, ap}
use Rattle.std.proofs.lemmas.Nat.Bits.{shr_and_one}
use Rattle.dg_map.proofs.BitLemmas.{bit_is}
use Rattle.dg_map.proofs.bits.has_bit.Goals as goal

pub returns : goal.returns
returns c = ap (λ n. n == 1) (shr_and_one _ (c.args.number % 64) ∙ sym (bit_is c.args.words.now c.args.number))
