use Rattle.std.proofs.Common.{[], Result, refl, subst, sym}
use Rattle.dg_io.specs.ViewWords.{Reads}
use Rattle.ufs_path.proofs.BranchLaws.{all_opened, below_begins, below_first, below_read, below_second, below_unread, err_front, err_unread_walk, grown_map, on_err}
use Rattle.ufs_path.proofs.ConsultLaws.{consults_along, consults_both}
use Rattle.ufs_path.specs.Consults.{IsUnread}
use Rattle.ufs_path.specs.Trees.{Begins, Opens, all_lines, branches_below, left_on, lines_below}
use Rattle.ufs_path.specs.declared.faults.LookFault.{LookFault}
use Rattle.ufs_path.proofs.trees.walk_below.Goals as goal

pub returns-in_err-opened-clause-consults : goal.returns-in_err-opened-clause-consults
returns-in_err-opened-clause-consults g c =
    consults_along g.V.View (λ is v holds. (holds, below_first c.args.g.now c.args.depth c.args.inode.now v)) (λ h. absurd (err_unread_walk c.from_residual.result c.from_residual.ensures.0 h)) c.open_inode.ensures.consults

pub returns-in-Ok-clause-rule : goal.returns-in-Ok-clause-rule
returns-in-Ok-clause-rule g c =
    let first = c.open_inode.ensures.keeps in
    let second = c.walk_stack.ensures.keeps in
    let G = c.args.g.now in
    let I = c.args.inode.now in
    let new = left_on c.open_inode.new.stack.items in
    let opens = subst (λ (r : Result (Unit {0}) LookFault). Opens (Reads g.V.View c.args.view.now c.open_inode.new.view (branches_below G c.args.depth I)) (left_on c.new-stack.result.items) new r) c.in-Ok.is c.in_ok-opened.ensures.opens in
    let read = all_opened (opens.0) new c.new-stack.result.items c.new-stack.ensures.items (opens.1) (opens.2) in
    grown_map g.O.Listing.took g.O.Listing.took_part g.O.Listing.faults c.args.out.now c.walk_stack.new.out
    (Reads g.V.View c.open_inode.new.view c.walk_stack.new.view (all_lines G new)) (Reads g.V.View c.args.view.now c.walk_stack.new.view (lines_below G c.args.depth I))
    (Begins (g.V.View.stands_for c.open_inode.new.view) (g.V.View.tells c.walk_stack.new.view) (all_lines G new)) (Begins (g.V.View.stands_for c.args.view.now) (g.V.View.tells c.walk_stack.new.view) (lines_below G c.args.depth I))
    c.walk_stack.result
    (λ r reads. below_read G c.args.depth I new r first.stays first.stands second.told read reads)
    (λ front is. below_begins G c.args.depth I new front first.stands second.told read is)
    c.walk_stack.ensures.rule

pub returns-in-Ok-clause-consults : goal.returns-in-Ok-clause-consults
returns-in-Ok-clause-consults g c =
    let first = c.open_inode.ensures.keeps in
    let second = c.walk_stack.ensures.keeps in
    let G = c.args.g.now in
    let I = c.args.inode.now in
    let new = left_on c.open_inode.new.stack.items in
    let opens = subst (λ (r : Result (Unit {0}) LookFault). Opens (Reads g.V.View c.args.view.now c.open_inode.new.view (branches_below G c.args.depth I)) (left_on c.new-stack.result.items) new r) c.in-Ok.is c.in_ok-opened.ensures.opens in
    let read = all_opened (opens.0) new c.new-stack.result.items c.new-stack.ensures.items (opens.1) (opens.2) in
    consults_both g.V.View g.met.V.View.fetched_both first second
    (λ is v holds. (first.stands v holds, λ b h. below_second G c.args.depth I new v b ((read.rule (second.told is) v holds).answer) h)) (λ h. h)
    (consults_along g.V.View (λ is v holds. (holds, below_first G c.args.depth I v)) (λ h. h) c.open_inode.ensures.consults) c.walk_stack.ensures.consults

pub returns-in-Err-clause-rule : goal.returns-in-Err-clause-rule
returns-in-Err-clause-rule g c =
    let G = c.args.g.now in
    let I = c.args.inode.now in
    let new = left_on c.open_inode.new.stack.items in
    let unread = subst (λ (r : Result (Unit {0}) LookFault). Opens (Reads g.V.View c.args.view.now c.open_inode.new.view (branches_below G c.args.depth I)) (left_on c.new-stack.result.items) new r) c.in-Err.is c.in_ok-opened.ensures.opens in
    ([], refl, g.met.O.Listing.nothing c.args.out.now, λ is v holds lines e. refl, below_unread G c.args.depth I c.in-Err.fault c.open_inode.ensures.keeps.stays unread)

pub returns-in-Err-clause-consults : goal.returns-in-Err-clause-consults
returns-in-Err-clause-consults g c =
    consults_along g.V.View (λ is v holds. (holds, below_first c.args.g.now c.args.depth c.args.inode.now v)) (λ h. subst (λ (r : Result (Unit {0}) LookFault). IsUnread r) (sym c.in-Err.is) h) c.in_ok-opened.ensures.consults

pub returns-in_err-opened-clause-part : goal.returns-in_err-opened-clause-part
returns-in_err-opened-clause-part g c = on_err c.from_residual.result ([], g.met.O.Listing.nothing c.args.out.now, λ is v holds lines e. refl)

pub returns-in-Ok-clause-part : goal.returns-in-Ok-clause-part
returns-in-Ok-clause-part g c =
    let first = c.open_inode.ensures.keeps in
    let second = c.walk_stack.ensures.keeps in
    let G = c.args.g.now in
    let I = c.args.inode.now in
    let new = left_on c.open_inode.new.stack.items in
    let opens = subst (λ (r : Result (Unit {0}) LookFault). Opens (Reads g.V.View c.args.view.now c.open_inode.new.view (branches_below G c.args.depth I)) (left_on c.new-stack.result.items) new r) c.in-Ok.is c.in_ok-opened.ensures.opens in
    let read = all_opened (opens.0) new c.new-stack.result.items c.new-stack.ensures.items (opens.1) (opens.2) in
    err_front g.O.Listing.took c.args.out.now c.walk_stack.new.out
    (Begins (g.V.View.stands_for c.open_inode.new.view) (g.V.View.tells c.walk_stack.new.view) (all_lines G new))
    (Begins (g.V.View.stands_for c.args.view.now) (g.V.View.tells c.walk_stack.new.view) (lines_below G c.args.depth I))
    c.walk_stack.result (λ front is. below_begins G c.args.depth I new front first.stands second.told read is) c.walk_stack.ensures.part
