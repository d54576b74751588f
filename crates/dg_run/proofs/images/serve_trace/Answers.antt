use Rattle.std.proofs.Common.{subst, sym}
use Rattle.dg_run.proofs.Ended.{ends_trace}
use Rattle.dg_run.specs.Ends.{EndsTrace}
use Rattle.dg_run.specs.declared.top.Status.{Status}
use Rattle.dg_trace.specs.Calls.{facts_of}
use Rattle.dg_run.proofs.images.serve_trace.Goals as goal

pub returns-clause-ends : goal.returns-clause-ends
returns-clause-ends g c =
    let met = facts_of g.S.Source g.K.Sink c.args.source.now c.write_trace-end.new.source c.args.sink.now c.write_trace-end.new.sink in
    subst (λ (status : Status). EndsTrace met c.args.asked.now status) (sym c.trace_status.ensures.is)
    (ends_trace met c.args.asked.now c.write_trace-end.result c.write_trace-end.ensures.ends)
