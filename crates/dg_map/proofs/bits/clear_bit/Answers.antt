use Rattle.std.proofs.Common.{◌/◌, ◌∙◌, ap}
use Rattle.std.specs.Int.{bit_at}
use Rattle.dg_map.specs.Bits.{word_at}
use Rattle.dg_map.proofs.BitLemmas.{sets_bit}
use Rattle.dg_map.proofs.bits.clear_bit.Goals as goal

pub returns-clause-cleared : goal.returns-clause-cleared
returns-clause-cleared c = sets_bit c.args.words.now.items c.args.number 0 c.without_bit-word.result c.requires c.without_bit-word.ensures.here (λ i lt ne. c.without_bit-word.ensures.others i lt ne ∙ ap (λ n. bit_at n i) (c.word_of.ensures ∙ ap (λ ws. word_at ws (c.args.number / 64)) c.deref.ensures.value))
