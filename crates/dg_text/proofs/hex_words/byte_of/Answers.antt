use Rattle.std.proofs.Common.{◌<◌, ◌/◌, ◌%◌, inl, inr, arith}
use Rattle.std.proofs.lemmas.Bool.{cases_lt}
use Rattle.dg_text.proofs.HexWords.{byte_spelled, digits_are}
use Rattle.dg_text.proofs.hex_words.byte_of.Goals as goal

pub returns-then-max-gt15-clause-none : goal.returns-then-max-gt15-clause-none
returns-then-max-gt15-clause-none c = λ x small is.
    let digits = digits_are c.args.high c.args.low x is in
    elim (cases_lt c.value_of-first.result 16) [
      | inl low ↦ c.value_of-second.ensures.none (omega arith) (x % 16) (omega arith) digits.1
      | inr large ↦ c.value_of-first.ensures.none large (x / 16) (omega arith) digits.0
    ]

pub returns-clause-found : goal.returns-clause-found
returns-clause-found c =
    let high : c.value_of-first.result < 16 = omega arith in
    let low : c.value_of-second.result < 16 = omega arith in
    (omega arith, byte_spelled c.args.high c.args.low c.value_of-first.result c.value_of-second.result high low (c.value_of-first.ensures.found high) (c.value_of-second.ensures.found low))
