use Rattle.std.proofs.Common.{Bool}
use Rattle.ufs_path.proofs.AnsweredLaws.{map_ok}
use Rattle.ufs_path.proofs.ConsultLaws.{consults_both}
use Rattle.ufs_path.proofs.naming.enter_block.Goals as goal

pub returns-in-At-clause-found : goal.returns-in-At-clause-found
returns-in-At-clause-found g c =
    map_ok c.enter_run.result _ _
    (λ (could : Bool) h yes is v holds entries said. h yes is v (c.find_run.ensures.keeps.stands v holds) entries said (c.in-At.ensures.found (c.enter_run.ensures.keeps.told is) v holds))
    c.enter_run.ensures.found

pub returns-in-At-clause-consults : goal.returns-in-At-clause-consults
returns-in-At-clause-consults g c =
    consults_both g.V.View g.met.V.View.fetched_both c.find_run.ensures.keeps c.enter_run.ensures.keeps
    (λ is v holds. (c.find_run.ensures.keeps.stands v holds, λ b h. h)) (λ h. h) c.in-At.ensures.consults c.enter_run.ensures.consults
