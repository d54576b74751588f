use Rattle.dg_kept.proofs.SaveLaws.{leaves_save}
use Rattle.dg_kept.proofs.saves.saves_leave_the_state.Goals as goal

pub returns : goal.returns
returns c = λ old number new bytes step in_use holds. leaves_save old number new bytes step in_use holds
