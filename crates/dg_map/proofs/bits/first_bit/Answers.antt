use Rattle.std.proofs.Common.{slice_index_or, w64, arith}
use Rattle.std.proofs.lemmas.Nat.Bits.{bit_at-trailing_zeros}
use Rattle.dg_map.proofs.BitLemmas.{first_of_word, word_within}
use Rattle.dg_map.proofs.bits.first_bit.Goals as goal

pub overflow_add-result : goal.overflow_add-result
overflow_add-result c =
    let zeros = bit_at-trailing_zeros w64 (slice_index_or c.args.words.now c.args.word 0) c.requires.first.some (omega (arith, c.type_inv.words c.args.word)) in
    omega (arith, zeros.0, word_within c.args.words.now c.args.word c.requires.first.some, c.requires.few)

pub returns : goal.returns
returns c =
    let zeros = bit_at-trailing_zeros w64 (slice_index_or c.args.words.now c.args.word 0) c.requires.first.some (omega (arith, c.type_inv.words c.args.word)) in
    first_of_word c.args.words.now c.args.word _ c.requires.first zeros.0 zeros.1 zeros.2
