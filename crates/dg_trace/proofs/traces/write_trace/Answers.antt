use Rattle.std.proofs.Common.{ℕ, List, subst, sym}
use Rattle.dg_io.specs.Told.{Told}
use Rattle.dg_trace.proofs.EndSteps.{ends_read}
use Rattle.dg_trace.specs.Calls.{facts_of}
use Rattle.dg_trace.specs.Images.{GaveImage}
use Rattle.dg_trace.proofs.traces.write_trace.Goals as goal

pub returns-clause-ends : goal.returns-clause-ends
returns-clause-ends g c =
    ends_read (facts_of g.S.Source g.K.Sink c.args.source.now c.read_image.new.source c.args.sink.now c.write_answer.new.sink) c.args.asked.now c.deref.result.now
    c.write_answer.result c.write_answer.ensures.bytes
    (subst (λ (l : List ℕ). Told (GaveImage l) (g.S.Source.left c.args.source.now) (g.S.Source.left c.read_image.new.source)) (sym c.deref.ensures.value) c.in_ok-image.ensures.image)
    c.write_answer.ensures.ends
