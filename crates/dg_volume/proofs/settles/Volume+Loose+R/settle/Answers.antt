use Rattle.std.proofs.Common.{ap, refl, subst, sym}
use Rattle.std.specs.Prelude.{Ok}
use Rattle.dg_volume.proofs.SettleSteps.{goes_settled}
use Rattle.dg_model.specs.declared.events.Event.TheVariants.{Settle}
use Rattle.dg_volume.specs.Settles.{unsettled_reply}
use Rattle.dg_volume.specs.Volumes.{StepsTo, loose_phase, settled_phase}
use Rattle.dg_volume.specs.declared.settles.Unsettled.{Unsettled}
use Rattle.dg_volume.proofs.settles.Volume+Loose+R.settle.Goals as goal

pub returns-clause-settled : goal.returns-clause-settled
returns-clause-settled g c =
    let b = c.put_in_place.new.self in
    let e = c.in_ok-unsettled.ensures in
    goes_settled loose_phase settled_phase g.R.Rack c.args.self b (record { inference = b.phase.inference })
    (record { phase_is = refl; kept_is = refl }) e.leaves (e.put (ap Ok c.in_default.is)) e.given

pub returns-in-Err-clause-refused : goal.returns-in-Err-clause-refused
returns-in-Err-clause-refused g c =
    let e = c.in_ok-unsettled.ensures in
    record {
      leaves = e.leaves;
      given_is = e.given;
      steps =
          subst (λ (u : Unsettled). StepsTo loose_phase loose_phase g.R.Rack c.args.self Settle (unsettled_reply u) c.put_in_place.new.self) (sym c.unsettled-told.ensures)
          (rw c.in-Err.is at e.refused);
    }
