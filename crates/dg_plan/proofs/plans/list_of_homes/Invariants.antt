use Rattle.std.proofs.Common.{◌≡◌, ◌++◌}
use Rattle.dg_plan.specs.Placings.{homes_in}
use Rattle.dg_plan.proofs.plans.list_of_homes.Given as goal

abbrev pub invariant-loop-inode : goal.invariant-loop-inode
invariant-loop-inode l =
    (goal.iterator-loop-inode).can_next l.inode-iterator
    × (goal.iterator-loop-inode).is_finite l.inode-iterator
    × (l.list.items ++ homes_in l.inode-iterator ≡ homes_in l.homes.entries)
