use Rattle.std.proofs.Common.{subst, sym}
use Rattle.dg_hot.specs.declared.spreads.DiffuseAnswer.{DiffuseAnswer}
use Rattle.dg_model.specs.declared.events.Event.TheVariants.{Diffuse}
use Rattle.dg_volume.specs.Copies.{StepsHot, diffuse_reply}
use Rattle.dg_volume.specs.Volumes.{settled_phase}
use Rattle.dg_volume.proofs.copies.Volume+Settled+R.diffuse.Goals as goal

pub returns-clause-steps : goal.returns-clause-steps
returns-clause-steps g c =
    subst (λ (r : DiffuseAnswer). StepsHot settled_phase settled_phase g.R.Rack c.args.hot.now c.args.self.now Diffuse (diffuse_reply r) c.spread.new.self) (sym c.diffused.ensures) c.in_ok-answer.ensures.steps
