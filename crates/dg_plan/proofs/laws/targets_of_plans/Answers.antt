use Rattle.dg_plan.proofs.PlanLaws.{targets_by_plan, targets_by_rules}
use Rattle.dg_plan.proofs.laws.targets_of_plans.Goals as goal

pub returns : goal.returns
returns c = record { given = targets_by_rules; plan = targets_by_plan }
