use Rattle.std.proofs.Common.{take}
use Rattle.dg_text.specs.LineWeights.{leaves_line}
use Rattle.dg_text.proofs.ReplyWeights.{refusal_feed}
use Rattle.dg_text.proofs.replies.write_refusal.Goals as goal

pub returns-clause-lines : goal.returns-clause-lines
returns-clause-lines g c =
    leaves_line g.K.Sink c.write_all.result _ (take c.spell_refusal-end.result c.spell_refusal-end.new.line) _ _ _ c.spell_refusal-end.ensures.text
    (refusal_feed c.args.number c.args.kind) c.write_all.ensures.calls c.write_all.ensures.ok
