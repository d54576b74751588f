use Rattle.std.proofs.Common.{◌≡◌, ap, rules}
use Rattle.dg_drill.specs.Calls.{facts_of}
use Rattle.dg_drill.specs.Drills.{EndsDrill}
use Rattle.dg_drill.specs.declared.drills.DrillEnd.{DrillEnd}
use Rattle.dg_run.proofs.Ended.{ends_drill}
use Rattle.dg_run.proofs.drills.serve_drill.Goals as goal

pub returns-in-Err-clause-ends : goal.returns-in-Err-clause-ends
returns-in-Err-clause-ends g c = ap g.K.Sink.taken c.in-Err.ensures.none

pub returns-in-Ok-clause-ends : goal.returns-in-Ok-clause-ends
returns-in-Ok-clause-ends g c =
    let same : c.in-Ok.drilled.rack.now ≡ c.rack-1.given.0 = search rules in
    let ends = rw same at c.in-Ok.ensures.ends in
    rw c.drill_status.ensures.is
    (ends_drill (λ (end : DrillEnd). EndsDrill (g.R.Rack.tells c.rack-1.given.0) (facts_of g.K.Sink g.R.Rack c.args.sink.now c.run_drill.new.sink c.args.rack.now c.rack-1.given.0) c.args.seed c.args.files end)
    (g.K.Sink.taken c.args.sink.now) (g.K.Sink.taken c.run_drill.new.sink) c.in-Ok.drilled.end ends)
