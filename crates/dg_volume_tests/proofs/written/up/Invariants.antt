use Rattle.dg_volume.specs.Volumes.{IsWell, loose_phase}
use Rattle.dg_volume_tests.proofs.written.up.Given as goal

abbrev pub invariant-loop-block : goal.invariant-loop-block
invariant-loop-block g l =
    (goal.iterator-loop-block g).can_next l.block-iterator
    × (goal.iterator-loop-block g).is_finite l.block-iterator
    × IsWell loose_phase g.R.Rack l.volume
