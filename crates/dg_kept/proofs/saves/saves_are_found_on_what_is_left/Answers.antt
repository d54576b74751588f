use Rattle.dg_kept.proofs.SaveLaws.{found_left}
use Rattle.dg_kept.proofs.saves.saves_are_found_on_what_is_left.Goals as goal

pub returns : goal.returns
returns c = λ old number new bytes images save left away. found_left old number new bytes images save left away
