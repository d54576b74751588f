use Rattle.dg_kept.proofs.SaveLaws.{empty_older, zeros_older}
use Rattle.dg_kept.proofs.saves.blank_members_are_older.Goals as goal

pub returns : goal.returns
returns c = record { empty = empty_older; zeros = zeros_older }
