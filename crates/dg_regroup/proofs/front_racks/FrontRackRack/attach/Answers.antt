use Rattle.std.proofs.Common.{arith, refl}
use Rattle.dg_io.specs.RackCalls.RackCall.{looks}
use Rattle.dg_regroup.proofs.FrontCalls.{passed_as, spared}
use Rattle.dg_regroup.proofs.front_racks.FrontRackRack.attach.Goals as goal

pub returns-in-Ok-clause-made : goal.returns-in-Ok-clause-made
returns-in-Ok-clause-made g c =
    passed_as g.R.Rack (looks c.args.member) (looks c.args.member) refl c.args.self.now _ refl refl (λ q. omega arith) (λ q far. refl) (omega arith) (λ is. refl) (λ is. refl) (λ is. refl) (λ is. refl)
    (λ is q front. spared c.args.member _ _ c.attach.ensures.leaves.others c.attach.ensures.same q) c.attach.ensures.made

pub returns-in-Err-clause-made : goal.returns-in-Err-clause-made
returns-in-Err-clause-made g c =
    passed_as g.R.Rack (looks c.args.member) (looks c.args.member) refl c.args.self.now _ refl refl (λ q. omega arith) (λ q far. refl) (omega arith) (λ is. refl) (λ is. refl) (λ is. refl) (λ is. refl)
    (λ is q front. spared c.args.member _ _ c.attach.ensures.leaves.others c.attach.ensures.same q) c.attach.ensures.made
