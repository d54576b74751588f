use Rattle.std.proofs.Common.{refl}
use Rattle.dg_run.proofs.ArraySteps.{steps_as}
use Rattle.dg_model.specs.declared.events.Event.TheVariants.{Replace}
use Rattle.dg_run.proofs.serve.replace.Goals as goal

pub returns-clause-steps : goal.returns-clause-steps
returns-clause-steps g c = steps_as g.R.Rack c.args.array.now (record c.args.array.now { volume = c.replace.new.self }) {e = Replace c.args.s c.args.j} refl c.replace_reply.ensures tt refl c.replace.ensures.steps

pub returns-clause-replaced : goal.returns-clause-replaced
returns-clause-replaced g c = record { answer = c.replace.result; is = c.replace_reply.ensures; kept = c.replace.ensures.keeps }
