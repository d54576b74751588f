use Rattle.dg_model.specs.Homes.{Ascend}
use Rattle.plan_bench.proofs.plans.Given as goal

abbrev pub invariant-loop : goal.invariant-loop
invariant-loop l = Ascend l.homes
