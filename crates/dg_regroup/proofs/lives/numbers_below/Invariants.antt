use Rattle.std.proofs.Common.{◌≡◌}
use Rattle.dg_model.specs.Lives.{all_live}
use Rattle.dg_regroup.proofs.lives.numbers_below.Given as goal

abbrev pub invariant-loop-number : goal.invariant-loop-number
invariant-loop-number l = l.numbers.items ≡ all_live l.number
