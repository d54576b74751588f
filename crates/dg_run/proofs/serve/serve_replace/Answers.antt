use Rattle.dg_model.specs.declared.events.Event.TheVariants.{Replace}
use Rattle.dg_run.proofs.Happening.{runs_of}
use Rattle.dg_run.proofs.Laters.{goes_replaced}
use Rattle.dg_run.proofs.Serving.{Serves, serves_reply}
use Rattle.dg_run.proofs.serve.serve_replace.Goals as goal
use Rattle.dg_run.proofs.serve.serve_replace.Goals.{Joined-reply}

-- the reply was sent
replaced : (g : _) (c : Joined-reply g) → Serves g.R.Rack (Replace c.args.s c.args.j) (g.K.Sink.taken c.args.sink.now) (g.K.Sink.taken c.send.new.sink) c.args.array.now c.replace-reply.new.array c.send.result
replaced g c =
    let r = c.replace-reply in
    let by = goes_replaced g.R.Rack g.met.R.Rack.made_none g.met.R.Rack.made_both g.met.R.Rack.after c.args.s c.args.j c.args.array.now r.new.array c.requires.ready r.ensures.goes in
    serves_reply g.R.Rack g.met.R.Rack.made_none g.met.R.Rack.made_both g.met.R.Rack.after (Replace c.args.s c.args.j) r.result _ _ c.args.array.now r.new.array c.send.result by.on
    (runs_of g.R.Rack g.met.R.Rack.made_none g.met.R.Rack.made_both g.met.R.Rack.after c.args.array.now r.new.array (Replace c.args.s c.args.j) r.result by tt
    (c.requires.ready, r.ensures.goes, r.ensures.replaced) r.ensures.steps) c.send.ensures.ok c.send.ensures.part c.send.ensures.err

pub returns-clause-goes : goal.returns-clause-goes
returns-clause-goes g c = (replaced g c).goes

pub returns-clause-answered : goal.returns-clause-answered
returns-clause-answered g c = (replaced g c).answered

pub returns-clause-part : goal.returns-clause-part
returns-clause-part g c = (replaced g c).part
