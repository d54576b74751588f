use Rattle.std.proofs.Common.{refl}
use Rattle.ufs_model.specs.Paths.{cat_of}
use Rattle.ufs_model.specs.Readings.{ReadsAs}
use Rattle.ufs_path.specs.Parts.{cat_below}
use Rattle.ufs_path.proofs.AnswerLaws.{at_fault, map_answer, refused_unanswered, refused_stays}
use Rattle.ufs_path.proofs.CatLaws.{path_read, path_unread}
use Rattle.ufs_path.proofs.ConsultLaws.{consults_along, consults_both}
use Rattle.ufs_path.proofs.NeedLaws.{cat_first, cat_second}
use Rattle.ufs_path.proofs.cats.cat.Goals as goal

pub returns-in-Ok-clause-rule : goal.returns-in-Ok-clause-rule
returns-in-Ok-clause-rule g c =
    let first = c.geometry.ensures.keeps in
    map_answer g.O.Pieces.took g.O.Pieces.took_part g.O.Pieces.faults c.args.out.now c.cat_below.new.out
    {one = (ReadsAs (g.V.View.stands_for c.geometry.new.view) (g.V.View.is_gone c.geometry.new.view) (g.V.View.tells c.cat_below.new.view) (g.V.View.is_gone c.cat_below.new.view) (cat_below c.args.path.now c.in-Ok.g))}
    {two = (ReadsAs (g.V.View.stands_for c.args.view.now) (g.V.View.is_gone c.args.view.now) (g.V.View.tells c.cat_below.new.view) (g.V.View.is_gone c.cat_below.new.view) (cat_of (g.V.View.size c.args.view.now) (g.V.View.count c.args.view.now) c.args.path.now))}
    c.cat_below.result
    (λ r reads. path_read _ _ c.args.path.now c.in-Ok.g r first.stays first.stands c.cat_below.ensures.keeps.told c.in-Ok.ensures.rule reads)
    c.cat_below.ensures.rule

pub returns-in-Err-clause-rule : goal.returns-in-Err-clause-rule
returns-in-Err-clause-rule g c =
    rw c.refused_answer.ensures
    (at_fault g.O.Pieces.took g.O.Pieces.took_part g.O.Pieces.faults c.args.out.now c.args.out.now
    (ReadsAs (g.V.View.stands_for c.args.view.now) (g.V.View.is_gone c.args.view.now) (g.V.View.tells c.geometry.new.view) (g.V.View.is_gone c.geometry.new.view)
    (cat_of (g.V.View.size c.args.view.now) (g.V.View.count c.args.view.now) c.args.path.now))
    c.in-Err.fault refl (path_unread _ _ c.args.path.now c.in-Err.fault c.geometry.ensures.keeps.stays c.in-Err.ensures.rule))

pub returns-in-Ok-clause-consults : goal.returns-in-Ok-clause-consults
returns-in-Ok-clause-consults g c =
    let first = c.geometry.ensures.keeps in
    let second = c.cat_below.ensures.keeps in
    consults_both g.V.View g.met.V.View.fetched_both first second
    (λ is v holds. (first.stands v holds, λ b h. cat_second _ _ c.args.path.now c.in-Ok.g v b ((c.in-Ok.ensures.rule.rule (second.told is) v holds).answer) h)) (λ h. h)
    (consults_along g.V.View (λ is v holds. (holds, cat_first _ _ c.args.path.now v)) (λ h. h) c.in-Ok.ensures.consults) c.cat_below.ensures.consults

pub returns-in-Err-clause-consults : goal.returns-in-Err-clause-consults
returns-in-Err-clause-consults g c = rw c.refused_answer.ensures (consults_along g.V.View (λ is v holds. (holds, cat_first _ _ c.args.path.now v)) (refused_unanswered c.in-Err.fault) c.in-Err.ensures.consults)

pub returns-in-Err-clause-stays : goal.returns-in-Err-clause-stays
returns-in-Err-clause-stays g c = rw c.refused_answer.ensures (refused_stays c.in-Err.fault _)
