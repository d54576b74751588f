use Rattle.std.proofs.Common.{Result, subst, sym}
use Rattle.dg_io.specs.ViewWords.{Reads}
use Rattle.ufs_path.proofs.BranchLaws.{err_unread, opened_first, opened_read, opened_second, opened_shut, opened_unread}
use Rattle.ufs_path.proofs.ConsultLaws.{consults_along, consults_both}
use Rattle.ufs_path.specs.Consults.{IsUnread}
use Rattle.ufs_path.specs.Trees.{Opens, branch_of, branches_below, left_on}
use Rattle.ufs_path.specs.declared.faults.LookFault.{LookFault}
use Rattle.ufs_path.proofs.branches.open_entry.Goals as goal

pub returns-in_err-below-in-Ok-clause-consults : goal.returns-in_err-below-in-Ok-clause-consults
returns-in_err-below-in-Ok-clause-consults g c =
    let first = c.read_named.ensures.keeps in
    let second = c.open_inode.ensures.keeps in
    let b = branch_of c.args.entry.now in
    consults_both g.V.View g.met.V.View.fetched_both first second
    (λ is v holds. (first.stands v holds, λ block h. opened_second c.args.g.now b c.in-Ok.inode v block ((c.in-Ok.ensures.rule.rule (second.told is) v holds).answer) h))
    (λ h. absurd (err_unread c.from_residual.result c.from_residual.ensures.0 h))
    (consults_along g.V.View (λ is v holds. (holds, opened_first c.args.g.now b v)) (λ h. h) c.in-Ok.ensures.consults) c.open_inode.ensures.consults

pub returns-in-Ok-below-clause-opens : goal.returns-in-Ok-below-clause-opens
returns-in-Ok-below-clause-opens g c =
    let first = c.read_named.ensures.keeps in
    let second = c.open_inode.ensures.keeps in
    let b = branch_of c.args.entry.now in
    let opens = subst (λ (r : Result (Unit {0}) LookFault). Opens (Reads g.V.View c.read_named.new.view c.open_inode.new.view (branches_below c.args.g.now c.args.entry.now.depth c.in-Ok.inode))
    (left_on c.args.stack.now.items) (left_on c.open_inode.new.stack.items) r) c.in-Ok-below.is c.in_ok-below-in-Ok.ensures.opens in
    (opens.0, opens.1, opened_read c.args.g.now b c.in-Ok.inode (opens.0) first.stays first.stands second.told c.in-Ok.ensures.rule (opens.2))

pub returns-in-Ok-below-clause-consults : goal.returns-in-Ok-below-clause-consults
returns-in-Ok-below-clause-consults g c =
    let first = c.read_named.ensures.keeps in
    let second = c.open_inode.ensures.keeps in
    let b = branch_of c.args.entry.now in
    consults_both g.V.View g.met.V.View.fetched_both first second
    (λ is v holds. (first.stands v holds, λ block h. opened_second c.args.g.now b c.in-Ok.inode v block ((c.in-Ok.ensures.rule.rule (second.told is) v holds).answer) h)) (λ h. absurd h)
    (consults_along g.V.View (λ is v holds. (holds, opened_first c.args.g.now b v)) (λ h. h) c.in-Ok.ensures.consults) c.open_inode.ensures.consults

pub returns-in-Err-below-clause-opens : goal.returns-in-Err-below-clause-opens
returns-in-Err-below-clause-opens g c =
    let first = c.read_named.ensures.keeps in
    let second = c.open_inode.ensures.keeps in
    let b = branch_of c.args.entry.now in
    let unread = subst (λ (r : Result (Unit {0}) LookFault). Opens (Reads g.V.View c.read_named.new.view c.open_inode.new.view (branches_below c.args.g.now c.args.entry.now.depth c.in-Ok.inode))
    (left_on c.args.stack.now.items) (left_on c.open_inode.new.stack.items) r) c.in-Err-below.is c.in_ok-below-in-Ok.ensures.opens in
    opened_shut c.args.g.now b c.in-Ok.inode c.in-Err-below.fault first.stays second.stays first.stands second.told c.in-Ok.ensures.rule unread

pub returns-in-Err-below-clause-consults : goal.returns-in-Err-below-clause-consults
returns-in-Err-below-clause-consults g c =
    let first = c.read_named.ensures.keeps in
    let second = c.open_inode.ensures.keeps in
    let b = branch_of c.args.entry.now in
    consults_both g.V.View g.met.V.View.fetched_both first second
    (λ is v holds. (first.stands v holds, λ block h. opened_second c.args.g.now b c.in-Ok.inode v block ((c.in-Ok.ensures.rule.rule (second.told is) v holds).answer) h))
    (λ h. subst (λ (r : Result (Unit {0}) LookFault). IsUnread r) (sym c.in-Err-below.is) h)
    (consults_along g.V.View (λ is v holds. (holds, opened_first c.args.g.now b v)) (λ h. h) c.in-Ok.ensures.consults) c.in_ok-below-in-Ok.ensures.consults

pub returns-in-Err-clause-opens : goal.returns-in-Err-clause-opens
returns-in-Err-clause-opens g c = opened_unread c.args.g.now (branch_of c.args.entry.now) c.in-Err.fault c.read_named.ensures.keeps.stays c.in-Err.ensures.rule

pub returns-in-Err-clause-consults : goal.returns-in-Err-clause-consults
returns-in-Err-clause-consults g c = consults_along g.V.View (λ is v holds. (holds, opened_first c.args.g.now (branch_of c.args.entry.now) v)) (λ h. h) c.in-Err.ensures.consults
