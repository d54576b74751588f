use Rattle.ufs_path.proofs.CatLaws.{handed_again}
use Rattle.ufs_path.proofs.ConsultLaws.{consults_along, consults_both}
use Rattle.ufs_path.proofs.AnswerLaws.{refused_unanswered, refused_stays}
use Rattle.ufs_path.proofs.files.hand_twice.Goals as goal

pub returns-in-Ok-clause-rule : goal.returns-in-Ok-clause-rule
returns-in-Ok-clause-rule g c =
    let first = c.consult.ensures.keeps in
    let second = c.hand_on.ensures.keeps in
    handed_again g.O.Pieces.took g.O.Pieces.took_part g.O.Pieces.faults c.args.out.now c.hand_on.new.out _ c.args.g.now c.args.inode.now c.args.count _ c.hand_on.result
    g.met.O.Pieces.part first.stays second.stays first.stands second.told (c.in-Ok.ensures.ok.1) c.hand_on.ensures.rule

pub returns-in-Ok-clause-consults : goal.returns-in-Ok-clause-consults
returns-in-Ok-clause-consults g c =
    let first = c.consult.ensures.keeps in
    consults_both g.V.View g.met.V.View.fetched_both first c.hand_on.ensures.keeps (λ is v holds. (first.stands v holds, λ b h. h)) (λ h. h) c.consult.ensures.consults c.hand_on.ensures.consults

pub returns-in-Err-clause-consults : goal.returns-in-Err-clause-consults
returns-in-Err-clause-consults g c = rw c.refused_answer.ensures (consults_along g.V.View (λ is v holds. (holds, λ b h. h)) (refused_unanswered c.in-Err.fault) c.in-Err.ensures.consults)

pub returns-in-Err-clause-stays : goal.returns-in-Err-clause-stays
returns-in-Err-clause-stays g c = rw c.refused_answer.ensures (refused_stays c.in-Err.fault _)
