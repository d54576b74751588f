use Rattle.dg_parity.proofs.EpochLemmas.{finds-left, reopened}
use Rattle.dg_parity.proofs.epochs.out_stays_out.Goals as goal

pub returns : goal.returns
returns g c group next left before now fronts range ready noted alive is found open0 alive2 =
    reopened g.R.Rack group next before now fronts alive (finds-left g.R.Rack group left before now fronts range ready noted is found) open0 alive2
