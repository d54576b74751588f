use Rattle.dg_promise.proofs.PathLaws.{alone, no_system}
use Rattle.dg_promise.proofs.needs.blocks_have_one_owner.Goals as goal

pub returns-clause-one : goal.returns-clause-one
returns-clause-one c = alone

pub returns-clause-system : goal.returns-clause-system
returns-clause-system c = no_system
