use Rattle.dg_kept.proofs.Readings.{reads_saved}
use Rattle.dg_kept.proofs.runs.saved_blocks_are_read.Goals as goal

pub returns : goal.returns
returns c = λ before events replies number last bytes images end taken opened state readings answers mid b reply new away read opens quiet held each run low step stands.
    reads_saved end.old end.save images state readings answers mid b reply new
    (c.saved_states_are_resumed.ensures.opened end.old number last bytes images end.save taken opened state end.left away read opens quiet) held each run low step stands
