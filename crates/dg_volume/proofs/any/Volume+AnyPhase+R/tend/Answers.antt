use Rattle.std.proofs.Common.{ℕ, subst, sym}
use Rattle.dg_model.specs.declared.events.Event.TheVariants.{Tend}
use Rattle.dg_model.specs.declared.replies.Reply.TheVariants.{Lost as LostReply}
use Rattle.dg_volume.proofs.MoveSteps.{tend_lost_first}
use Rattle.dg_volume.specs.Settles.{tend_reply}
use Rattle.dg_volume.specs.Volumes.{StepsTo, any_phase}
use Rattle.dg_volume.specs.declared.settles.TendRun.{TendRun}
use Rattle.dg_volume.proofs.VolumeLaws.{leaves_none}
use Rattle.dg_volume.proofs.any.Volume+AnyPhase+R.tend.Goals as goal

pub returns-in-Some-clause-steps : goal.returns-in-Some-clause-steps
returns-in-Some-clause-steps g c =
    let a = c.args.self.now in
    subst (λ (s : ℕ). StepsTo any_phase any_phase g.R.Rack a (Tend c.args.limit) (LostReply s) a) (sym c.number.ensures)
    (tend_lost_first any_phase g.R.Rack a c.args.limit c.in-Some.lost c.requires.well c.in-Some.ensures)

pub returns-clause-steps : goal.returns-clause-steps
returns-clause-steps g c =
    subst (λ (r : TendRun). StepsTo any_phase any_phase g.R.Rack c.args.self.now (Tend c.args.limit) (tend_reply r) c.tend_loose.new.self) (sym c.tended.ensures) c.in_ok-run.ensures.steps

pub returns-in-Some-clause-leaves : goal.returns-in-Some-clause-leaves
returns-in-Some-clause-leaves g c = leaves_none any_phase g.R.Rack c.args.self.now c.requires.well

pub returns-in-None-clause-leaves : goal.returns-in-None-clause-leaves
returns-in-None-clause-leaves g c = leaves_none any_phase g.R.Rack c.args.self.now c.requires.well
