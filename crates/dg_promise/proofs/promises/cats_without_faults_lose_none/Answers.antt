use Rattle.dg_promise.proofs.LossLaws.{cat_loses_none}
use Rattle.dg_promise.proofs.promises.cats_without_faults_lose_none.Goals as goal
use Rattle.dg_promise.specs.Promises.{AreTold}

pub returns : goal.returns
returns c = cat_loses_none AreTold
