use Rattle.std.proofs.Common.{◌∙◌, ◌++◌, List, Result, ap, subst, sym}
use Rattle.std.specs.Global.{Vec}
use Rattle.dg_io.specs.ViewWords.{Reads}
use Rattle.ufs_model.specs.Paths.{entries_before}
use Rattle.ufs_path.proofs.BranchLaws.{err_unread}
use Rattle.ufs_path.proofs.ConsultLaws.{consults_along}
use Rattle.ufs_path.specs.Consults.{IsUnread}
use Rattle.ufs_path.specs.Trees.{AreBranches, Branch, left_on}
use Rattle.ufs_path.specs.declared.branches.Pending.{Pending}
use Rattle.ufs_path.specs.declared.faults.LookFault.{LookFault}
use Rattle.ufs_path.proofs.branches.open_blocks.Goals as goal

pub returns-in_err-found-clause-consults : goal.returns-in_err-found-clause-consults
returns-in_err-found-clause-consults g c =
    consults_along g.V.View (λ is v holds. (holds, λ b h. h)) (λ h. absurd (err_unread c.from_residual.result c.from_residual.ensures.0 h)) c.read_branches.ensures.consults

pub returns-in_err-put_on-in-Ok-clause-consults : goal.returns-in_err-put_on-in-Ok-clause-consults
returns-in_err-put_on-in-Ok-clause-consults g c =
    consults_along g.V.View (λ is v holds. (holds, λ b h. h)) (λ h. absurd (err_unread c.from_residual-in_err-put_on-in-Ok.result c.from_residual-in_err-put_on-in-Ok.ensures.0 h)) c.read_branches.ensures.consults

pub returns-in_ok-put_on-in-Ok-clause-opens : goal.returns-in_ok-put_on-in-Ok-clause-opens
returns-in_ok-put_on-in-Ok-clause-opens g c =
    let are = subst (λ (r : Result (Vec Pending) LookFault). AreBranches (Reads g.V.View c.args.view.now c.read_branches.new.view (entries_before c.args.g.now c.args.inode.now c.args.count)) c.args.depth r)
    c.in-Ok.is c.in_ok-found.ensures.found in
    (are.0, c.in_ok-put_on-in-Ok.ensures ∙ ap (λ (bs : List Branch). bs ++ left_on c.args.stack.now.items) (are.1), are.2)

pub returns-in_ok-put_on-in-Ok-clause-consults : goal.returns-in_ok-put_on-in-Ok-clause-consults
returns-in_ok-put_on-in-Ok-clause-consults g c = consults_along g.V.View (λ is v holds. (holds, λ b h. h)) (λ h. absurd h) c.read_branches.ensures.consults

pub returns-in-Err-clause-opens : goal.returns-in-Err-clause-opens
returns-in-Err-clause-opens g c =
    subst (λ (r : Result (Vec Pending) LookFault). AreBranches (Reads g.V.View c.args.view.now c.read_branches.new.view (entries_before c.args.g.now c.args.inode.now c.args.count)) c.args.depth r)
    c.in-Err.is c.in_ok-found.ensures.found

pub returns-in-Err-clause-consults : goal.returns-in-Err-clause-consults
returns-in-Err-clause-consults g c =
    consults_along g.V.View (λ is v holds. (holds, λ b h. h)) (λ h. subst (λ (r : Result (Vec Pending) LookFault). IsUnread r) (sym c.in-Err.is) h) c.in_ok-found.ensures.consults
