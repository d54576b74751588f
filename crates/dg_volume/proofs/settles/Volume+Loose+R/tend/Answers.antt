use Rattle.std.proofs.Common.{subst, sym}
use Rattle.dg_model.specs.declared.events.Event.TheVariants.{Tend}
use Rattle.dg_volume.specs.Settles.{tend_reply}
use Rattle.dg_volume.specs.Volumes.{StepsTo, loose_phase}
use Rattle.dg_volume.specs.declared.settles.TendRun.{TendRun}
use Rattle.dg_volume.proofs.settles.Volume+Loose+R.tend.Goals as goal

pub returns-clause-steps : goal.returns-clause-steps
returns-clause-steps g c =
    subst (λ (r : TendRun). StepsTo loose_phase loose_phase g.R.Rack c.args.self.now (Tend c.args.limit) (tend_reply r) c.tend_loose.new.self) (sym c.tended.ensures) c.in_ok-run.ensures.steps
