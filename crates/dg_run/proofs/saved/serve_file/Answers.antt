use Rattle.std.proofs.Common.{◌≡◌, ap, rules}
use Rattle.dg_run.proofs.Ended.{ends_saved}
use Rattle.dg_run.specs.Calls.{rack_met}
use Rattle.dg_run.specs.Ends.{FindsCat}
use Rattle.dg_saved.specs.declared.ends.SavedEnd.{SavedEnd}
use Rattle.dg_run.proofs.saved.serve_file.Goals as goal

pub returns-in-Err-clause-ends : goal.returns-in-Err-clause-ends
returns-in-Err-clause-ends g c = ap g.K.Sink.taken c.in-Err.ensures.none

pub returns-in-Ok-clause-ends : goal.returns-in-Ok-clause-ends
returns-in-Ok-clause-ends g c =
    let same : c.in-Ok.ended.rack.now ≡ c.rack-1.given.0 = search rules in
    let ends = rw same at c.in-Ok.ensures.ends in
    rw c.status_by.ensures.is
    (ends_saved (λ (end : SavedEnd). FindsCat (g.R.Rack.tells c.rack-1.given.0) (rack_met g.K.Sink g.R.Rack c.args.sink.now c.file_on.new.sink c.args.rack.now c.rack-1.given.0) c.args.path.now end)
    (g.K.Sink.taken c.args.sink.now) (g.K.Sink.taken c.file_on.new.sink) c.in-Ok.ended.end ends)
