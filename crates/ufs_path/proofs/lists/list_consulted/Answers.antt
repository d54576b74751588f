use Rattle.ufs_path.proofs.ListLaws.{cut_lines, failed_lines, given_lines}
use Rattle.ufs_path.proofs.ConsultLaws.{consults_along, consults_both}
use Rattle.ufs_path.proofs.AnswerLaws.{refused_unanswered, refused_stays}
use Rattle.ufs_path.proofs.lists.list_consulted.Goals as goal

pub returns-in-All-clause-rule : goal.returns-in-All-clause-rule
returns-in-All-clause-rule g c =
    let first = c.consult_lines.ensures.keeps in
    given_lines g.O.Listing.took g.O.Listing.took_part g.O.Listing.faults c.args.g.now c.args.inode.now c.args.count _ _ _ first.stays first.stands c.in-All.ensures.rule

pub returns-in-Unread-clause-rule : goal.returns-in-Unread-clause-rule
returns-in-Unread-clause-rule g c =
    let first = c.consult_lines.ensures.keeps in
    let second = c.list_blocks.ensures.keeps in
    cut_lines g.O.Listing.took g.O.Listing.took_part g.O.Listing.faults c.args.g.now c.args.inode.now c.args.count _ _ _ _ first.stays second.stays first.stands second.told c.in-Ok.ensures.ok c.in-Unread.ensures.rule

pub returns-in-Failed-clause-rule : goal.returns-in-Failed-clause-rule
returns-in-Failed-clause-rule g c =
    let first = c.consult_lines.ensures.keeps in
    let second = c.list_blocks.ensures.keeps in
    failed_lines g.O.Listing.took g.O.Listing.took_part g.O.Listing.faults c.args.g.now c.args.inode.now c.args.count _ _ g.met.O.Listing.part first.stays second.stays first.stands second.told c.in-Ok.ensures.ok c.in-Failed.ensures.rule

pub returns-in-All-clause-consults : goal.returns-in-All-clause-consults
returns-in-All-clause-consults g c =
    let first = c.consult_lines.ensures.keeps in
    let second = c.list_blocks.ensures.keeps in
    consults_both g.V.View g.met.V.View.fetched_both first second
    (λ told v holds. ((first.stands v holds, (c.in-Ok.ensures.ok.entries, (c.in-Ok.ensures.ok.before_is.rule (second.told told) v holds).answer)), λ b h. h)) (λ h. absurd h)
    c.in-Ok.ensures.consults c.list_blocks.ensures.consults

pub returns-in-Unread-clause-consults : goal.returns-in-Unread-clause-consults
returns-in-Unread-clause-consults g c =
    let first = c.consult_lines.ensures.keeps in
    let second = c.list_blocks.ensures.keeps in
    consults_both g.V.View g.met.V.View.fetched_both first second
    (λ told v holds. ((first.stands v holds, (c.in-Ok.ensures.ok.entries, (c.in-Ok.ensures.ok.before_is.rule (second.told told) v holds).answer)), λ b h. h)) (λ h. absurd h)
    c.in-Ok.ensures.consults c.list_blocks.ensures.consults

pub returns-in-Failed-clause-consults : goal.returns-in-Failed-clause-consults
returns-in-Failed-clause-consults g c =
    let first = c.consult_lines.ensures.keeps in
    let second = c.list_blocks.ensures.keeps in
    consults_both g.V.View g.met.V.View.fetched_both first second
    (λ told v holds. ((first.stands v holds, (c.in-Ok.ensures.ok.entries, (c.in-Ok.ensures.ok.before_is.rule (second.told told) v holds).answer)), λ b h. h)) (λ h. absurd h)
    c.in-Ok.ensures.consults c.list_blocks.ensures.consults

pub returns-in-Err-clause-consults : goal.returns-in-Err-clause-consults
returns-in-Err-clause-consults g c = rw c.refused_answer.ensures (consults_along g.V.View (λ is v holds. (holds, λ b h. h)) (refused_unanswered c.in-Err.fault) c.in-Err.ensures.consults)

pub returns-in-Err-clause-stays : goal.returns-in-Err-clause-stays
returns-in-Err-clause-stays g c = rw c.refused_answer.ensures (refused_stays c.in-Err.fault _)
