use Rattle.std.proofs.Common.{ℕ, length, subst}
use Rattle.std.proofs.lemmas.Result.{on_ok_weaker}
use Rattle.dg_io.specs.SinkCalls.{LeavesSink}
use Rattle.dg_io.specs.SinkLines.{lines_of_text}
use Rattle.dg_saved.proofs.Calls.{reply_call}
use Rattle.dg_text.specs.LineWeights.{feed_last, may_line}
use Rattle.dg_text.specs.Replies.{reply_line, words_of}
use Rattle.dg_saved.proofs.replies.write_nothing.Goals as goal

pub returns-clause-lines : goal.returns-clause-lines
returns-clause-lines g c = λ w.
    let reply = c.reply_at-reply.result in
    let calls = subst (λ (few : ℕ). LeavesSink g.K.Sink.whole g.K.Sink.calls few (length (reply_line reply)) c.args.sink.now c.write_reply.new.sink)
    (reply_call c.args.answer reply c.reply_at-reply.ensures.is) c.write_reply.ensures.calls in
    on_ok_weaker c.write_reply.result
    (λ told. lines_of_text w g.K.Sink.whole g.K.Sink.calls g.K.Sink.taken 1 _ (reply_line reply) _ _ (may_line w (reply_line reply) (feed_last (words_of reply))) calls told)
    c.write_reply.ensures.ok
