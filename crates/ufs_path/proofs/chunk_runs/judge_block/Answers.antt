use Rattle.std.proofs.Common.{Bool}
use Rattle.ufs_path.proofs.AnsweredLaws.{map_some}
use Rattle.ufs_path.proofs.ConsultLaws.{consults_both}
use Rattle.ufs_path.proofs.chunk_runs.judge_block.Goals as goal

pub returns-in-At-clause-found : goal.returns-in-At-clause-found
returns-in-At-clause-found g c =
    map_some c.judge_run.result _ _
    (λ (sound : Bool) h is v holds. h is v (c.find_run.ensures.keeps.stands v holds) (c.in-At.ensures.found (c.judge_run.ensures.keeps.told is) v holds))
    c.judge_run.ensures.found

pub returns-in-At-clause-consults : goal.returns-in-At-clause-consults
returns-in-At-clause-consults g c =
    consults_both g.V.View g.met.V.View.fetched_both c.find_run.ensures.keeps c.judge_run.ensures.keeps
    (λ is v holds. (c.find_run.ensures.keeps.stands v holds, λ b h. h)) (λ h. h) c.in-At.ensures.consults c.judge_run.ensures.consults
