use Rattle.std.proofs.Common.{◌∙◌, ap, subst, sym}
use Rattle.dg_run.proofs.Finding.{name_found, status_found}
use Rattle.dg_run.specs.Calls.{rack_met}
use Rattle.dg_run.specs.Ends.{FindsStatus}
use Rattle.dg_run.proofs.saved.status_on.Goals as goal

pub returns-clause-ends : goal.returns-clause-ends
returns-clause-ends g c =
    let law = g.met.R.Rack in
    let ended = c.in_ok-ended.ended in
    let leaves = c.in_ok-ended.ensures.leaves in
    let found = status_found g.R.Rack law.made_none law.made_both law.after c.args.rack c.in_ok-live.field-0.live ended.rack c.in_ok-live.field-0.extra.items c.in_ok-live.ensures leaves.made leaves.tells
    (g.K.Sink.taken c.args.sink.now) (g.K.Sink.taken c.show_status.new.sink) ended.end
    (rw c.deref.ensures.value at c.in_ok-ended.ensures.ends) in
    subst (λ r. FindsStatus (g.R.Rack.tells r) (rack_met g.K.Sink g.R.Rack c.args.sink.now c.show_status.new.sink c.args.rack r) ended.end) (sym c.outer.ensures) found

pub returns-clause-prints : goal.returns-clause-prints
returns-clause-prints g c = let leaves = c.in_ok-ended.ensures.leaves in record { write = leaves.write; kept = leaves.kept; lines = leaves.lines }

pub returns-clause-name : goal.returns-clause-name
returns-clause-name g c =
    let law = g.met.R.Rack in
    let ended = c.in_ok-ended.ended in
    ap g.R.Rack.name c.outer.ensures
    ∙ name_found g.R.Rack law.made_none law.made_both law.after c.args.rack c.in_ok-live.field-0.live ended.rack c.in_ok-live.field-0.extra.items c.in_ok-live.ensures c.in_ok-ended.ensures.leaves.made c.in_ok-ended.ensures.leaves.tells
