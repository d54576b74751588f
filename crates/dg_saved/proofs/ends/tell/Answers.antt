use Rattle.dg_io.specs.SinkLines.{lines_of_text}
use Rattle.dg_saved.proofs.ends.tell.Goals as goal

pub returns-in-Ok-clause-lines : goal.returns-in-Ok-clause-lines
returns-in-Ok-clause-lines g c = λ w may other.
    lines_of_text w g.K.Sink.whole g.K.Sink.calls g.K.Sink.taken 1 _ c.args.text.now _ _ may c.write_all.ensures.calls c.in-Ok.ensures.ok
