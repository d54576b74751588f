use Rattle.std.proofs.Common.{arith}
use Rattle.dg_parity.proofs.epochs.opened_is_latest.Goals as goal

pub returns : goal.returns
returns c group fronts n s j h open0 lt has = omega (arith, open0.epoch, open0.is.greatest j h lt has)
