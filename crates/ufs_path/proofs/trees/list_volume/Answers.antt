use Rattle.std.proofs.Common.{refl}
use Rattle.ufs_model.specs.Readings.{ReadsAs}
use Rattle.ufs_path.proofs.AnswerLaws.{at_fault, refused_stays, refused_unanswered}
use Rattle.ufs_path.proofs.BranchLaws.{answer_map, err_some, volume_first, volume_read, volume_second, volume_unread}
use Rattle.ufs_path.proofs.ConsultLaws.{consults_along, consults_both}
use Rattle.ufs_path.specs.Trees.{lines_in, root_lines}
use Rattle.ufs_path.proofs.trees.list_volume.Goals as goal

pub returns-in-Ok-clause-rule : goal.returns-in-Ok-clause-rule
returns-in-Ok-clause-rule g c =
    let first = c.read_named.ensures.keeps in
    answer_map g.O.Listing.took g.O.Listing.took_part g.O.Listing.faults c.args.out.now c.list_root.new.out
    (ReadsAs (g.V.View.stands_for c.read_named.new.view) (g.V.View.is_gone c.read_named.new.view) (g.V.View.tells c.list_root.new.view) (g.V.View.is_gone c.list_root.new.view) (root_lines c.args.g.now c.in-Ok.root))
    (ReadsAs (g.V.View.stands_for c.args.view.now) (g.V.View.is_gone c.args.view.now) (g.V.View.tells c.list_root.new.view) (g.V.View.is_gone c.list_root.new.view) (lines_in c.args.g.now))
    c.list_root.result
    (λ r reads. volume_read c.args.g.now c.in-Ok.root r first.stays first.stands c.list_root.ensures.keeps.told c.in-Ok.ensures.rule reads)
    c.list_root.ensures.rule

pub returns-in-Err-clause-rule : goal.returns-in-Err-clause-rule
returns-in-Err-clause-rule g c =
    rw c.refused_answer.ensures
    (at_fault g.O.Listing.took g.O.Listing.took_part g.O.Listing.faults c.args.out.now c.args.out.now
    (ReadsAs (g.V.View.stands_for c.args.view.now) (g.V.View.is_gone c.args.view.now) (g.V.View.tells c.read_named.new.view) (g.V.View.is_gone c.read_named.new.view) (lines_in c.args.g.now))
    c.in-Err.fault refl (volume_unread c.args.g.now c.in-Err.fault c.read_named.ensures.keeps.stays c.in-Err.ensures.rule))

pub returns-in-Ok-clause-consults : goal.returns-in-Ok-clause-consults
returns-in-Ok-clause-consults g c =
    let first = c.read_named.ensures.keeps in
    let second = c.list_root.ensures.keeps in
    consults_both g.V.View g.met.V.View.fetched_both first second
    (λ is v holds. (first.stands v holds, λ b h. volume_second c.args.g.now c.in-Ok.root v b ((c.in-Ok.ensures.rule.rule (second.told is) v holds).answer) h)) (λ h. h)
    (consults_along g.V.View (λ is v holds. (holds, volume_first c.args.g.now v)) (λ h. h) c.in-Ok.ensures.consults) c.list_root.ensures.consults

pub returns-in-Err-clause-consults : goal.returns-in-Err-clause-consults
returns-in-Err-clause-consults g c = rw c.refused_answer.ensures (consults_along g.V.View (λ is v holds. (holds, volume_first c.args.g.now v)) (refused_unanswered c.in-Err.fault) c.in-Err.ensures.consults)

pub returns-in-Err-clause-stays : goal.returns-in-Err-clause-stays
returns-in-Err-clause-stays g c = rw c.refused_answer.ensures (refused_stays c.in-Err.fault _)

pub returns-in-Ok-clause-part : goal.returns-in-Ok-clause-part
returns-in-Ok-clause-part g c =
    let first = c.read_named.ensures.keeps in
    err_some g.O.Listing.took c.args.out.now c.list_root.new.out
    (ReadsAs (g.V.View.stands_for c.read_named.new.view) (g.V.View.is_gone c.read_named.new.view) (g.V.View.tells c.list_root.new.view) (g.V.View.is_gone c.list_root.new.view) (root_lines c.args.g.now c.in-Ok.root))
    (ReadsAs (g.V.View.stands_for c.args.view.now) (g.V.View.is_gone c.args.view.now) (g.V.View.tells c.list_root.new.view) (g.V.View.is_gone c.list_root.new.view) (lines_in c.args.g.now))
    c.list_root.result
    (λ r reads. volume_read c.args.g.now c.in-Ok.root r first.stays first.stands c.list_root.ensures.keeps.told c.in-Ok.ensures.rule reads)
    c.list_root.ensures.part
