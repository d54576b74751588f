use Rattle.std.proofs.Common.{length}
use Rattle.dg_text.specs.LineCalls.{calls_of}
use Rattle.dg_text.specs.LineWeights.{leaves_lines}
use Rattle.dg_text.specs.Replies.{reply_line}
use Rattle.dg_text.proofs.ReplyWeights.{reply_weight}
use Rattle.dg_text.proofs.replies.write_reply.Goals as goal

pub returns-clause-lines : goal.returns-clause-lines
returns-clause-lines g c =
    let reply = c.args.reply.now in
    leaves_lines g.K.Sink c.write_by_kind.result (calls_of reply) (length (reply_line reply)) (reply_line reply) _ _ (reply_weight reply)
    c.write_by_kind.ensures.calls c.write_by_kind.ensures.ok
