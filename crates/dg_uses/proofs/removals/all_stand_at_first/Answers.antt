use Rattle.dg_uses.proofs.TakenAway.{all_stand}
use Rattle.dg_uses.proofs.removals.all_stand_at_first.Goals as goal

pub returns : goal.returns
returns c = λ save last held one low good tells own behind. all_stand c.blank_members_are_older.ensures.empty save last held one low good tells own behind
