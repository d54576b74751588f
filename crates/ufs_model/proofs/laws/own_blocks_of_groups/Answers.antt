use Rattle.ufs_model.proofs.RoleLaws.{own_blocks}
use Rattle.ufs_model.proofs.laws.own_blocks_of_groups.Goals as goal

pub returns : goal.returns
returns c = λ g group is low. own_blocks g group is low
