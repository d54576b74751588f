use Rattle.ufs_path.proofs.ConsultLaws.{consults_along}
use Rattle.ufs_path.proofs.files.hand_part.Goals as goal

pub returns-in-Ok-piece-clause-consults : goal.returns-in-Ok-piece-clause-consults
returns-in-Ok-piece-clause-consults g c = consults_along g.V.View (λ is v holds. (holds, λ b h. h)) (λ h. absurd h) c.read_part.ensures.consults

pub returns-in-Err-piece-clause-consults : goal.returns-in-Err-piece-clause-consults
returns-in-Err-piece-clause-consults g c = consults_along g.V.View (λ is v holds. (holds, λ b h. h)) (λ h. absurd h) c.read_part.ensures.consults

pub returns-in-Err-clause-consults : goal.returns-in-Err-clause-consults
returns-in-Err-clause-consults g c = c.in-Err.ensures.consults
