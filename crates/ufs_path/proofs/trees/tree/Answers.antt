use Rattle.std.proofs.Common.{refl}
use Rattle.ufs_model.specs.Readings.{ReadsAs}
use Rattle.ufs_model.specs.Trees.{tree_of}
use Rattle.ufs_path.proofs.AnswerLaws.{at_fault, refused_stays, refused_unanswered}
use Rattle.ufs_path.proofs.BranchLaws.{answer_map, err_some, tree_first, tree_read, tree_second, tree_unread}
use Rattle.ufs_path.proofs.ConsultLaws.{consults_along, consults_both}
use Rattle.ufs_path.specs.Trees.{lines_in}
use Rattle.ufs_path.proofs.trees.tree.Goals as goal

pub returns-in-Ok-clause-rule : goal.returns-in-Ok-clause-rule
returns-in-Ok-clause-rule g c =
    let first = c.geometry.ensures.keeps in
    answer_map g.O.Listing.took g.O.Listing.took_part g.O.Listing.faults c.args.out.now c.list_volume.new.out
    (ReadsAs (g.V.View.stands_for c.geometry.new.view) (g.V.View.is_gone c.geometry.new.view) (g.V.View.tells c.list_volume.new.view) (g.V.View.is_gone c.list_volume.new.view) (lines_in c.in-Ok.g))
    (ReadsAs (g.V.View.stands_for c.args.view.now) (g.V.View.is_gone c.args.view.now) (g.V.View.tells c.list_volume.new.view) (g.V.View.is_gone c.list_volume.new.view) (tree_of (g.V.View.size c.args.view.now) (g.V.View.count c.args.view.now)))
    c.list_volume.result
    (λ r reads. tree_read _ _ c.in-Ok.g r first.stays first.stands c.list_volume.ensures.keeps.told c.in-Ok.ensures.rule reads)
    c.list_volume.ensures.rule

pub returns-in-Err-clause-rule : goal.returns-in-Err-clause-rule
returns-in-Err-clause-rule g c =
    rw c.refused_answer.ensures
    (at_fault g.O.Listing.took g.O.Listing.took_part g.O.Listing.faults c.args.out.now c.args.out.now
    (ReadsAs (g.V.View.stands_for c.args.view.now) (g.V.View.is_gone c.args.view.now) (g.V.View.tells c.geometry.new.view) (g.V.View.is_gone c.geometry.new.view)
    (tree_of (g.V.View.size c.args.view.now) (g.V.View.count c.args.view.now)))
    c.in-Err.fault refl (tree_unread _ _ c.in-Err.fault c.geometry.ensures.keeps.stays c.in-Err.ensures.rule))

pub returns-in-Ok-clause-consults : goal.returns-in-Ok-clause-consults
returns-in-Ok-clause-consults g c =
    let first = c.geometry.ensures.keeps in
    let second = c.list_volume.ensures.keeps in
    consults_both g.V.View g.met.V.View.fetched_both first second
    (λ is v holds. (first.stands v holds, λ b h. tree_second _ _ c.in-Ok.g v b ((c.in-Ok.ensures.rule.rule (second.told is) v holds).answer) h)) (λ h. h)
    (consults_along g.V.View (λ is v holds. (holds, tree_first _ _ v)) (λ h. h) c.in-Ok.ensures.consults) c.list_volume.ensures.consults

pub returns-in-Err-clause-consults : goal.returns-in-Err-clause-consults
returns-in-Err-clause-consults g c = rw c.refused_answer.ensures (consults_along g.V.View (λ is v holds. (holds, tree_first _ _ v)) (refused_unanswered c.in-Err.fault) c.in-Err.ensures.consults)

pub returns-in-Err-clause-stays : goal.returns-in-Err-clause-stays
returns-in-Err-clause-stays g c = rw c.refused_answer.ensures (refused_stays c.in-Err.fault _)

pub returns-in-Ok-clause-part : goal.returns-in-Ok-clause-part
returns-in-Ok-clause-part g c =
    let first = c.geometry.ensures.keeps in
    err_some g.O.Listing.took c.args.out.now c.list_volume.new.out
    (ReadsAs (g.V.View.stands_for c.geometry.new.view) (g.V.View.is_gone c.geometry.new.view) (g.V.View.tells c.list_volume.new.view) (g.V.View.is_gone c.list_volume.new.view) (lines_in c.in-Ok.g))
    (ReadsAs (g.V.View.stands_for c.args.view.now) (g.V.View.is_gone c.args.view.now) (g.V.View.tells c.list_volume.new.view) (g.V.View.is_gone c.list_volume.new.view) (tree_of (g.V.View.size c.args.view.now) (g.V.View.count c.args.view.now)))
    c.list_volume.result
    (λ r reads. tree_read _ _ c.in-Ok.g r first.stays first.stands c.list_volume.ensures.keeps.told c.in-Ok.ensures.rule reads)
    c.list_volume.ensures.part
