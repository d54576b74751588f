use Rattle.std.proofs.Common.{◌≡◌, ◌≤◌, ◌*◌}
use Rattle.dg_drill.specs.Chains.{HasReadAll}
use Rattle.ufs_drill.specs.Items.{generator_after}
use Rattle.dg_model.specs.States.{State}
use Rattle.dg_volume.specs.Origins.{Always}
use Rattle.dg_volume.specs.Volumes.{Leaves, StandsIn, any_phase}
use Rattle.dg_drill.proofs.reads.read_files.Given as goal

abbrev pub invariant-loop-k : goal.invariant-loop-k
invariant-loop-k g l = record {
  leaves : Leaves any_phase any_phase g.R.Rack l.fn.volume l.volume;
  sizes : l.sizes ≡ generator_after l.seed l.k;
  given : l.tally.given ≤ l.k;
  bytes : l.tally.bytes ≤ 212000 * l.k;
  unavailable : l.tally.unavailable ≤ l.k;
  runs : (state : State) → StandsIn any_phase g.R.Rack Always l.fn.volume state → HasReadAll g.R.Rack l.seed state l.k l.tally l.volume;
}
