use Rattle.dg_parity.proofs.EpochLemmas.{reads-on}
use Rattle.dg_parity.proofs.epochs.reopened_reads_on.Goals as goal

pub returns : goal.returns
returns g c group next left before now alive kept told is h ready alive2 same = reads-on g.R.Rack group next left before now alive kept told is h ready alive2 same
