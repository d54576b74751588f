use Rattle.std.proofs.Common.{◌∷◌, [], refl}
use Rattle.dg_model.specs.declared.events.Event.TheVariants.{Regroup}
use Rattle.dg_run.proofs.Laters.{continues_wanting}
use Rattle.dg_run.proofs.Regrouping.{continues_answer, has_boundaries, runs_answer}
use Rattle.dg_run.proofs.Serving.{Serves, serves_reply}
use Rattle.dg_run.specs.Histories.{RunsTo}
use Rattle.dg_run.proofs.regroups.serve_regroup.Goals as goal
use Rattle.dg_run.proofs.regroups.serve_regroup.Goals.{Joined-regroup_reply}

pub regroup-requires-clause-boundaries : goal.regroup-requires-clause-boundaries
regroup-requires-clause-boundaries g c = has_boundaries g.R.Rack g.met.R.Rack.made_none g.met.R.Rack.made_both g.met.R.Rack.after c.args.array.now c.requires.ready c.names_tell_boundaries.ensures

pub returns-in_default-clause-goes : goal.returns-in_default-clause-goes
returns-in_default-clause-goes g c =
    let a = c.args.array.now in
    let b = record a { volume = c.regroup.new.self } in
    continues_wanting g.R.Rack g.met.R.Rack.made_none g.met.R.Rack.made_both g.met.R.Rack.after a b c.requires.ready c.in_default.ensures.on c.in_default.ensures.err

-- the reply was sent
regrouped : (g : _) (c : Joined-regroup_reply g) → Serves g.R.Rack Regroup (g.K.Sink.taken c.args.sink.now) (g.K.Sink.taken c.send.new.sink) c.args.array.now (record c.args.array.now { volume = c.regroup.new.self }) c.send.result
regrouped g c =
    let a = c.args.array.now in
    let b = record a { volume = c.regroup.new.self } in
    let w = c.in-Ok.ensures in
    let goes = continues_answer g.R.Rack g.met.R.Rack.made_none g.met.R.Rack.made_both g.met.R.Rack.after a b c.in-Ok.answer c.requires.ready w.on w.answer in
    let runs : RunsTo g.R.Rack a (Regroup ∷ []) (c.regroup_reply.result ∷ []) b = rw c.regroup_reply.ensures (runs_answer g.R.Rack g.met.R.Rack.made_none g.met.R.Rack.made_both g.met.R.Rack.after a b c.in-Ok.answer c.requires.ready refl w.on w.answer) in
    serves_reply g.R.Rack g.met.R.Rack.made_none g.met.R.Rack.made_both g.met.R.Rack.after Regroup c.regroup_reply.result _ _ a b c.send.result goes runs c.send.ensures.ok c.send.ensures.part c.send.ensures.err

pub returns-clause-goes : goal.returns-clause-goes
returns-clause-goes g c = (regrouped g c).goes

pub returns-clause-answered : goal.returns-clause-answered
returns-clause-answered g c = (regrouped g c).answered

pub returns-clause-part : goal.returns-clause-part
returns-clause-part g c = (regrouped g c).part
