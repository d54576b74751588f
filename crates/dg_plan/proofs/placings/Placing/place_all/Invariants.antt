use Rattle.dg_plan.proofs.GoLaws.{IsPlacing}
use Rattle.dg_plan.proofs.placings.Placing.place_all.Given as goal

abbrev pub invariant-loop-inode : goal.invariant-loop-inode
invariant-loop-inode l =
    (goal.iterator-loop-inode).can_next l.inode-iterator
    × (goal.iterator-loop-inode).is_finite l.inode-iterator
    × IsPlacing l.files l.directories l.inode-iterator l.initial.self l.self
