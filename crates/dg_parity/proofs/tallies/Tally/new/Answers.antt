use Rattle.std.proofs.Common.{refl}
use Rattle.dg_parity.proofs.BlankLemmas.{zero-at}
use Rattle.dg_parity.proofs.tallies.Tally.new.Goals as goal

pub returns : goal.returns
returns c = record { faults = λ q. zero-at 256 q; calls = refl; writes = refl }
