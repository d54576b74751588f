use Rattle.std.proofs.Common.{refl}
use Rattle.dg_regroup.proofs.FrontLists.{none_at, zeros_at}
use Rattle.dg_regroup.proofs.front_racks.FrontRack.whole.Goals as goal

pub returns-clause-fronts : goal.returns-clause-fronts
returns-clause-fronts g c = λ q. none_at 256 q

pub returns-clause-none : goal.returns-clause-none
returns-clause-none g c = record { faults = λ q. zeros_at 256 q; writes = refl }
