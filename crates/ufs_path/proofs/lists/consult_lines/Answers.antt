use Rattle.ufs_path.proofs.ListLaws.{lines_refused, unread_lines}
use Rattle.ufs_path.proofs.ReadsLaws.{wider}
use Rattle.ufs_path.proofs.ConsultLaws.{consults_along, consults_both}
use Rattle.ufs_path.proofs.NeedLaws.{entries_first}
use Rattle.ufs_path.proofs.lists.consult_lines.Goals as goal

pub returns-in-All-clause-ok : goal.returns-in-All-clause-ok
returns-in-All-clause-ok g c =
    let first = c.consult_entries.ensures.keeps in
    let walked = c.in-All.ensures.rule in record {
      entries = walked.entries;
      lines = walked.are.lines;
      before_is = wider _ first.stays (λ b h. h) first.stands (λ h. h) walked.read;
      lines_are = wider _ first.stays (λ b h. h) first.stands (λ h. h) walked.are.read;
    }

pub returns-in-Unread-clause-err : goal.returns-in-Unread-clause-err
returns-in-Unread-clause-err g c =
    let first = c.consult_entries.ensures.keeps in
    let second = c.list_blocks.ensures.keeps in
    unread_lines c.args.g.now c.args.inode.now c.args.count _ _ c.in-Unread.fault _ _ first.stays second.stays first.stands second.told (c.in-Ok.ensures.ok.1) c.in-Unread.ensures.rule

pub returns-in-Err-clause-err : goal.returns-in-Err-clause-err
returns-in-Err-clause-err g c = lines_refused c.args.g.now c.args.inode.now c.args.count c.in-Err.fault c.consult_entries.ensures.keeps.stays c.in-Err.ensures.err

pub returns-in-All-clause-consults : goal.returns-in-All-clause-consults
returns-in-All-clause-consults g c =
    let first = c.consult_entries.ensures.keeps in
    let second = c.list_blocks.ensures.keeps in
    consults_both g.V.View g.met.V.View.fetched_both first second
    (λ told v holds. ((first.stands v holds, (c.in-Ok.ensures.ok.0, (c.in-Ok.ensures.ok.1.rule (second.told told) v holds).answer)), λ b h. h)) (λ h. absurd h)
    (consults_along g.V.View (λ told v holds. (holds, entries_first c.args.g.now c.args.inode.now c.args.count v)) (λ h. h) c.in-Ok.ensures.consults) c.list_blocks.ensures.consults

pub returns-in-Unread-clause-consults : goal.returns-in-Unread-clause-consults
returns-in-Unread-clause-consults g c =
    let first = c.consult_entries.ensures.keeps in
    let second = c.list_blocks.ensures.keeps in
    consults_both g.V.View g.met.V.View.fetched_both first second
    (λ told v holds. ((first.stands v holds, (c.in-Ok.ensures.ok.0, (c.in-Ok.ensures.ok.1.rule (second.told told) v holds).answer)), λ b h. h)) (λ h. h)
    (consults_along g.V.View (λ told v holds. (holds, entries_first c.args.g.now c.args.inode.now c.args.count v)) (λ h. h) c.in-Ok.ensures.consults) c.in-Unread.ensures.consults

pub returns-in-Err-clause-consults : goal.returns-in-Err-clause-consults
returns-in-Err-clause-consults g c = consults_along g.V.View (λ told v holds. (holds, entries_first c.args.g.now c.args.inode.now c.args.count v)) (λ h. h) c.in-Err.ensures.consults
