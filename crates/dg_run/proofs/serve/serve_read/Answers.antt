use Rattle.std.proofs.Common.{refl}
use Rattle.dg_model.specs.declared.events.Event.TheVariants.{Read}
use Rattle.dg_model.specs.declared.replies.Reply.TheVariants.{Data, Range, Unavailable}
use Rattle.dg_run.proofs.ArraySteps.{steps_of}
use Rattle.dg_run.proofs.Sending.{Sent, sent}
use Rattle.dg_run.proofs.serve.serve_read.Goals as goal
use Rattle.dg_run.proofs.serve.serve_read.Goals.{After-send, After-send-in-Unavailable, After-send_data}

-- each of the three replies
got : (g : _) (c : After-send_data g) → Sent g.K.Sink g.R.Rack (Read c.args.b) c.args.sink.now c.send_data.new.sink c.args.array.now (record c.args.array.now { volume = c.read.new.self }) c.send_data.result
got g c =
    let b = record c.args.array.now { volume = c.read.new.self } in
    let reply = Data c.trimmed.result.now in
    let s = c.send_data in
    sent g.K.Sink g.R.Rack (Read c.args.b) reply c.args.array.now b s.result (steps_of g.R.Rack c.args.array.now b (Read c.args.b) reply tt refl (c.in-Got.ensures.steps reply (c.trimmed.result.now, c.trimmed.ensures, refl)))
    s.ensures.ok s.ensures.part s.ensures.err s.ensures.lines refl

past : (g : _) (c : After-send g) → Sent g.K.Sink g.R.Rack (Read c.args.b) c.args.sink.now c.send.new.sink c.args.array.now (record c.args.array.now { volume = c.read.new.self }) c.send.result
past g c =
    let b = record c.args.array.now { volume = c.read.new.self } in
    let s = c.send in
    sent g.K.Sink g.R.Rack (Read c.args.b) Range c.args.array.now b s.result (steps_of g.R.Rack c.args.array.now b (Read c.args.b) Range tt refl (c.in-Range.ensures.steps Range refl))
    s.ensures.ok s.ensures.part s.ensures.err s.ensures.lines refl

lost : (g : _) (c : After-send-in-Unavailable g) → Sent g.K.Sink g.R.Rack (Read c.args.b) c.args.sink.now c.send-in-Unavailable.new.sink c.args.array.now (record c.args.array.now { volume = c.read.new.self }) c.send-in-Unavailable.result
lost g c =
    let b = record c.args.array.now { volume = c.read.new.self } in
    let s = c.send-in-Unavailable in
    sent g.K.Sink g.R.Rack (Read c.args.b) Unavailable c.args.array.now b s.result (steps_of g.R.Rack c.args.array.now b (Read c.args.b) Unavailable tt refl (c.in-Unavailable.ensures.steps Unavailable refl))
    s.ensures.ok s.ensures.part s.ensures.err s.ensures.lines refl

pub returns-in-Got-clause-answered : goal.returns-in-Got-clause-answered
returns-in-Got-clause-answered g c = (got g c).answered

pub returns-in-Got-clause-part : goal.returns-in-Got-clause-part
returns-in-Got-clause-part g c = (got g c).part

pub returns-in-Range-clause-answered : goal.returns-in-Range-clause-answered
returns-in-Range-clause-answered g c = (past g c).answered

pub returns-in-Range-clause-part : goal.returns-in-Range-clause-part
returns-in-Range-clause-part g c = (past g c).part

pub returns-in-Unavailable-clause-answered : goal.returns-in-Unavailable-clause-answered
returns-in-Unavailable-clause-answered g c = (lost g c).answered

pub returns-in-Unavailable-clause-part : goal.returns-in-Unavailable-clause-part
returns-in-Unavailable-clause-part g c = (lost g c).part
