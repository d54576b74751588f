use Rattle.ufs_check.proofs.LinkLaws.{entered_decides}
use Rattle.ufs_check.proofs.parents.is_entered.Goals as goal

pub returns : goal.returns
returns c = λ g v links. rw c.contains_key.ensures (entered_decides g v c.args.i c.args.table.now links)
