use Rattle.std.proofs.Common.{sym, ◌∙◌, ap}
use Rattle.dg_map.specs.Bits.{word_at}
use Rattle.dg_map.proofs.BitLemmas.{none_below}
use Rattle.dg_map.proofs.bits.Bits.least.Goals as goal

pub returns-in-None : goal.returns-in-None
returns-in-None c = none_below c.args.self.now c.requires (λ w. sym (ap (λ ws. word_at ws w) c.deref.ensures.value) ∙ c.in-None.ensures w)
