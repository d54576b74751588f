use Rattle.dg_volume.specs.Volumes.{any_phase}
use Rattle.dg_volume_tests.specs.Ready.{IsReady}
use Rattle.dg_volume_tests.proofs.regroup_faults.count_gone.Given as goal

abbrev pub invariant-loop-block : goal.invariant-loop-block
invariant-loop-block g l =
    (goal.iterator-loop-block g).can_next l.block-iterator
    × (goal.iterator-loop-block g).is_finite l.block-iterator
    × IsReady any_phase g.R.Rack g.R.Reduces.boundaries l.volume
