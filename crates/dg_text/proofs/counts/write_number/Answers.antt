use Rattle.std.proofs.Common.{take}
use Rattle.dg_text.specs.LineWeights.{feed_number, leaves_line}
use Rattle.dg_text.proofs.counts.write_number.Goals as goal

pub returns-clause-lines : goal.returns-clause-lines
returns-clause-lines g c =
    leaves_line g.K.Sink c.write_all.result _ (take c.spell_number-end.result c.spell_number-end.new.line) _ _ _ c.spell_number-end.ensures.text
    (feed_number c.args.word.now c.args.n) c.write_all.ensures.calls c.write_all.ensures.ok
