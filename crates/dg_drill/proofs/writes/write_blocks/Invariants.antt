use Rattle.std.proofs.Common.{◌≤◌, drop, take}
use Rattle.dg_drill.specs.Chains.{AreUnwritten, HasWritten}
use Rattle.dg_model.specs.States.{State}
use Rattle.dg_trace.specs.Traces.{writes_of}
use Rattle.dg_volume.specs.Origins.{Always}
use Rattle.dg_volume.specs.Volumes.{Leaves, StandsIn, any_phase}
use Rattle.dg_drill.proofs.writes.write_blocks.Given as goal

abbrev pub invariant-loop-b : goal.invariant-loop-b
invariant-loop-b g l = record {
  leaves : Leaves any_phase any_phase g.R.Rack l.fn.volume l.volume;
  most : l.more ≤ l.b-index;
  runs : (state : State) → StandsIn any_phase g.R.Rack Always l.fn.volume state → AreUnwritten state.table l.blocks
      → HasWritten g.R.Rack state (writes_of l.g.fsize l.image (take l.b-index l.blocks)) (drop l.b-index l.blocks) l.more l.volume;
}
