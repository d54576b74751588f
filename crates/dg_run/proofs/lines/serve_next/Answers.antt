use Rattle.std.proofs.Common.{◌≤◌, ℕ, rules, subst}
use Rattle.dg_run.proofs.Breaks.{ran_out_of}
use Rattle.dg_run.proofs.Laters.{continues_none}
use Rattle.dg_run.proofs.Placed.{placed_by}
use Rattle.dg_run.specs.Inputs.{unread}
use Rattle.dg_run.specs.Steps.{shape_of}
use Rattle.dg_run.proofs.lines.serve_next.Goals as goal

pub serve-requires-clause-in_place : goal.serve-requires-clause-in_place
serve-requires-clause-in_place g c =
    let e = rw c.in-Event.is at c.in_ok-event.ensures in
    placed_by c.args.shape.now (shape_of c.args.array.now) c.requires.bytes c.in-Event.event e.is.0

pub returns-in_ok-serve-in-Event-clause-turned : goal.returns-in_ok-serve-in-Event-clause-turned
returns-in_ok-serve-in-Event-clause-turned g c =
    let e = rw c.in-Event.is at c.in_ok-event.ensures in
    record {
      event = c.in-Event.event;
      in_place = e.is.0;
      size = e.is.1;
      within = e.is.2;
      input = e.took;
      answered = c.in_ok-serve-in-Event.ensures.answered;
    }

pub returns-in_err-serve-in-Event-clause-wanting : goal.returns-in_err-serve-in-Event-clause-wanting
returns-in_err-serve-in-Event-clause-wanting g c = λ is.
    let e = rw c.in-Event.is at c.in_ok-event.ensures in
    let within = subst (λ (n : ℕ). n ≤ c.args.room) e.is.1 e.is.2 in
    ran_out_of g.R.Rack c.args.shape.now c.args.room c.in-Event.event (unread c.take_event.new.input) _ _ _ _ c.args.array.now c.serve.new.array
    e.is.0 within e.took e.whole (c.in_err-serve-in-Event.ensures.wanting (search rules))

pub returns-in_err-event-clause-goes : goal.returns-in_err-event-clause-goes
returns-in_err-event-clause-goes g c = continues_none g.R.Rack g.met.R.Rack.made_none g.met.R.Rack.made_both g.met.R.Rack.after c.args.array.now c.requires.ready

pub returns-in-End-clause-goes : goal.returns-in-End-clause-goes
returns-in-End-clause-goes g c = continues_none g.R.Rack g.met.R.Rack.made_none g.met.R.Rack.made_both g.met.R.Rack.after c.args.array.now c.requires.ready

pub returns-in-Refused-clause-goes : goal.returns-in-Refused-clause-goes
returns-in-Refused-clause-goes g c = continues_none g.R.Rack g.met.R.Rack.made_none g.met.R.Rack.made_both g.met.R.Rack.after c.args.array.now c.requires.ready

pub returns-in_ok-serve-in-Event-clause-turn_reads : goal.returns-in_ok-serve-in-Event-clause-turn_reads
returns-in_ok-serve-in-Event-clause-turn_reads g c = rw c.in-Event.is at c.in_ok-event.ensures.taken_reads

pub returns-in_err-serve-in-Event-clause-lines : goal.returns-in_err-serve-in-Event-clause-lines
returns-in_err-serve-in-Event-clause-lines g c none = c.in_err-serve-in-Event.ensures.lines (λ at. none (search (rules, at)))
