use Rattle.ufs_drill.proofs.ItemLaws.{given_more}
use Rattle.ufs_drill.specs.Items.{directory_item}
use Rattle.ufs_drill.proofs.items.directories.Goals as goal

pub loop-x-preserved : goal.loop-x-preserved
loop-x-preserved c = given_more directory_item c.loop-x.x _ _ _ c.loop-x.invariant c.in_ok-directory_item.ensures c.in_ok-push_item.ensures
