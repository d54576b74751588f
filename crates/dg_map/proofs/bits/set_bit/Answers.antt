use Rattle.std.proofs.Common.{◌/◌, ◌∙◌, ap}
use Rattle.std.specs.Int.{bit_at}
use Rattle.dg_map.specs.Bits.{word_at}
use Rattle.dg_map.proofs.BitLemmas.{sets_bit}
use Rattle.dg_map.proofs.bits.set_bit.Goals as goal

pub returns : goal.returns
returns c = sets_bit c.args.words.now.items c.args.number 1 c.with_bit-word.result c.requires c.with_bit-word.ensures.here (λ i lt ne. c.with_bit-word.ensures.others i ne ∙ ap (λ n. bit_at n i) (c.word_of.ensures ∙ ap (λ ws. word_at ws (c.args.number / 64)) c.deref.ensures.value))
