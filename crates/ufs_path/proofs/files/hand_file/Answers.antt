use Rattle.std.proofs.Common.{◌∙◌, refl, sym}
use Rattle.ufs_model.specs.Paths.{contents_of, front_of}
use Rattle.ufs_model.specs.Readings.{ReadsAs}
use Rattle.ufs_path.proofs.AnswerLaws.{at_refusal, map_answer, at_unanswered, at_stays}
use Rattle.ufs_path.proofs.FileLaws.{contents_read, file_refused}
use Rattle.ufs_path.proofs.ConsultLaws.{consults_along, consults_none}
use Rattle.ufs_path.proofs.NeedLaws.{contents_needed}
use Rattle.ufs_path.proofs.files.hand_file.Goals as goal

pub returns-in-Some-clause-rule : goal.returns-in-Some-clause-rule
returns-in-Some-clause-rule g c =
    rw c.answer_at.ensures
    (at_refusal g.O.Pieces.took g.O.Pieces.took_part g.O.Pieces.faults c.args.out.now c.args.out.now
    (ReadsAs (g.V.View.stands_for c.args.view.now) (g.V.View.is_gone c.args.view.now) (g.V.View.tells c.args.view.now) (g.V.View.is_gone c.args.view.now) (contents_of c.args.g.now c.args.inode.now))
    c.in-Some.refusal refl (file_refused c.args.g.now c.args.inode.now c.in-Some.refusal (sym (c.file_refusal.ensures.value) ∙ c.in-Some.is)))

pub returns-in-None-clause-rule : goal.returns-in-None-clause-rule
returns-in-None-clause-rule g c =
    map_answer g.O.Pieces.took g.O.Pieces.took_part g.O.Pieces.faults c.args.out.now c.hand_twice.new.out
    {one = (ReadsAs (g.V.View.stands_for c.args.view.now) (g.V.View.is_gone c.args.view.now) (g.V.View.tells c.hand_twice.new.view) (g.V.View.is_gone c.hand_twice.new.view) (front_of c.args.g.now c.args.inode.now c.block_count.result))}
    {two = (ReadsAs (g.V.View.stands_for c.args.view.now) (g.V.View.is_gone c.args.view.now) (g.V.View.tells c.hand_twice.new.view) (g.V.View.is_gone c.hand_twice.new.view) (contents_of c.args.g.now c.args.inode.now))}
    c.hand_twice.result
    (λ r reads. contents_read c.args.g.now c.args.inode.now c.block_count.result r (sym (c.file_refusal.ensures.value) ∙ c.in-None.is) c.block_count.ensures.value reads)
    c.hand_twice.ensures.rule

pub returns-in-Some-clause-consults : goal.returns-in-Some-clause-consults
returns-in-Some-clause-consults g c = rw c.answer_at.ensures (consults_none g.V.View c.args.view.now _ _ (g.met.V.View.fetched_none c.args.view.now) (at_unanswered c.in-Some.refusal))

pub returns-in-Some-clause-stays : goal.returns-in-Some-clause-stays
returns-in-Some-clause-stays g c = rw c.answer_at.ensures (at_stays c.in-Some.refusal _)

pub returns-in-None-clause-consults : goal.returns-in-None-clause-consults
returns-in-None-clause-consults g c =
    consults_along g.V.View (λ is v holds. (holds, λ b h. contents_needed c.args.g.now c.args.inode.now c.block_count.result v b (sym c.file_refusal.ensures.value ∙ c.in-None.is) c.block_count.ensures.value h)) (λ h. h) c.hand_twice.ensures.consults
