use Rattle.dg_promise.proofs.SettleLaws.{settled_order}
use Rattle.dg_promise.proofs.orders.settled_is_in_order.Goals as goal
use Rattle.dg_promise.specs.Promises.{AreTold}

pub returns : goal.returns
returns c = λ old new. settled_order c.targets_of_plans.ensures.plan AreTold old new
