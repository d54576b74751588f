use Rattle.std.proofs.Common.{refl}
use Rattle.dg_text.specs.LineWeights.{leaves_line}
use Rattle.dg_text.specs.Replies.{usage}
use Rattle.dg_text.proofs.ReplyWeights.{usage_feed}
use Rattle.dg_text.proofs.replies.write_usage.Goals as goal

pub returns-clause-lines : goal.returns-clause-lines
returns-clause-lines g c = leaves_line g.K.Sink c.write_all.result _ usage usage _ _ refl usage_feed c.write_all.ensures.calls c.write_all.ensures.ok
