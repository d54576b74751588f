use Rattle.ufs_path.proofs.ConsultLaws.{consults_fetches}
use Rattle.ufs_path.proofs.blocks.read_block.Goals as goal

pub returns-in-Some-Data-clause-consults : goal.returns-in-Some-Data-clause-consults
returns-in-Some-Data-clause-consults g c = consults_fetches g.V.View (λ v b h. h) (λ h. absurd h) c.read_file_block.ensures.fetched

pub returns-in-Some-Hole-clause-consults : goal.returns-in-Some-Hole-clause-consults
returns-in-Some-Hole-clause-consults g c = consults_fetches g.V.View (λ v b h. h) (λ h. absurd h) c.read_file_block.ensures.fetched

pub returns-in-Some-Wild-clause-consults : goal.returns-in-Some-Wild-clause-consults
returns-in-Some-Wild-clause-consults g c = consults_fetches g.V.View (λ v b h. h) (λ h. absurd h) c.read_file_block.ensures.fetched

pub returns-in-None-clause-consults : goal.returns-in-None-clause-consults
returns-in-None-clause-consults g c = consults_fetches g.V.View (λ v b h. h) (λ h. c.in-None.ensures.lost) c.read_file_block.ensures.fetched
