use Rattle.std.proofs.Common.{ℕ, ap, subst, sym}
use Rattle.std.specs.Prelude.{Ok}
use Rattle.dg_model.specs.declared.events.Event.TheVariants.{Settle}
use Rattle.dg_model.specs.declared.replies.Reply.TheVariants.{Lost as LostReply}
use Rattle.dg_volume.proofs.MoveSteps.{settle_lost_first}
use Rattle.dg_volume.proofs.SettleSteps.{goes_settled}
use Rattle.dg_volume.specs.Settles.{unsettled_reply}
use Rattle.dg_volume.specs.Volumes.{StepsTo, any_phase}
use Rattle.dg_volume.specs.declared.settles.Unsettled.{Unsettled}
use Rattle.dg_volume.proofs.VolumeLaws.{leaves_none}
use Rattle.dg_volume.proofs.any.Volume+AnyPhase+R.settle.Goals as goal

pub returns-in-Some-clause-steps : goal.returns-in-Some-clause-steps
returns-in-Some-clause-steps g c =
    let a = c.args.self.now in
    subst (λ (s : ℕ). StepsTo any_phase any_phase g.R.Rack a Settle (LostReply s) a) (sym c.number.ensures)
    (settle_lost_first any_phase g.R.Rack a c.in-Some.lost c.requires.well c.in-Some.ensures)

pub returns-in-Err-clause-steps : goal.returns-in-Err-clause-steps
returns-in-Err-clause-steps g c =
    let e = c.in_ok-unsettled.ensures in
    subst (λ (u : Unsettled). StepsTo any_phase any_phase g.R.Rack c.args.self.now Settle (unsettled_reply u) c.put_in_place.new.self) (sym c.unsettled.ensures)
    (rw c.in-Err.is at e.refused)

pub returns-clause-steps : goal.returns-clause-steps
returns-clause-steps g c =
    let e = c.in_ok-unsettled.ensures in
    let goes =
    goes_settled any_phase any_phase g.R.Rack c.args.self.now c.put_in_place.new.self c.settle.new.self
    (record { phase_is = c.settle.ensures.phase; kept_is = c.settle.ensures.kept }) e.leaves (e.put (ap Ok c.in_default.is)) e.given in
    goes.steps

pub returns-in-Some-clause-leaves : goal.returns-in-Some-clause-leaves
returns-in-Some-clause-leaves g c = leaves_none any_phase g.R.Rack c.args.self.now c.requires.well

pub returns-in-None-clause-leaves : goal.returns-in-None-clause-leaves
returns-in-None-clause-leaves g c = leaves_none any_phase g.R.Rack c.args.self.now c.requires.well
