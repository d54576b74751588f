use Rattle.std.proofs.Common.{◌≡◌, rules, subst}
use Rattle.dg_run.proofs.Broken.{ran_out_first}
use Rattle.dg_run.proofs.Ended.{ends_replay}
use Rattle.dg_run.specs.Calls.{facts_of}
use Rattle.dg_run.specs.Ends.{EndsReplay}
use Rattle.dg_run.proofs.replays.serve_replay.Goals as goal

pub returns-in-Ok-clause-ends : goal.returns-in-Ok-clause-ends
returns-in-Ok-clause-ends g c =
    let e = c.in-Ok.ensures in
    let end = c.in-Ok.end in
    let same : end.rack.now ≡ c.rack-1.given.0 = search rules in
    subst (λ (r : g.row.R.Denot). EndsReplay (g.R.Rack.steady c.args.rack.now) (g.R.Rack.tells r) (facts_of g.S.Source g.K.Sink g.R.Rack c.args.source.now c.replay.new.source c.args.sink.now c.replay.new.sink c.args.rack.now r) end.status) same
    (ends_replay (g.R.Rack.steady c.args.rack.now) (g.R.Rack.tells end.rack.now) (facts_of g.S.Source g.K.Sink g.R.Rack c.args.source.now c.replay.new.source c.args.sink.now c.replay.new.sink c.args.rack.now end.rack.now) end.status
    e.done e.bad_line e.broken e.part e.wanting e.never)

pub returns-in-Err-clause-ends : goal.returns-in-Err-clause-ends
returns-in-Err-clause-ends g c =
    ran_out_first _ _ _ _ _ _ c.in-Err.ensures.none
