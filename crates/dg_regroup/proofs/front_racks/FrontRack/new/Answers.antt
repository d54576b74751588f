use Rattle.std.proofs.Common.{refl}
use Rattle.dg_regroup.proofs.FrontLists.{all_at, zeros_at}
use Rattle.dg_regroup.proofs.front_racks.FrontRack.new.Goals as goal

pub returns-clause-fronts : goal.returns-clause-fronts
returns-clause-fronts g c = λ q low. all_at 256 q low

pub returns-clause-none : goal.returns-clause-none
returns-clause-none g c = record { faults = λ q. zeros_at 256 q; writes = refl }
