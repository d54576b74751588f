use Rattle.dg_promise.proofs.RegroupSteps.{homes_ascend}
use Rattle.dg_promise.proofs.regroups.homes_left_ascend.Goals as goal

pub returns : goal.returns
returns c = homes_ascend
