use Rattle.dg_parity.proofs.BackLemmas.{noted-back}
use Rattle.dg_parity.proofs.epochs.noted_is_back.Goals as goal

pub returns : goal.returns
returns g c old new before s group held was noted alive range left opens leaves tell served =
    noted-back g.R.Rack old new before s group held was alive left opens leaves tell served noted range
