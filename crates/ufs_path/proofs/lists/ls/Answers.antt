use Rattle.std.proofs.Common.{refl}
use Rattle.ufs_model.specs.Listings.{ls_of}
use Rattle.ufs_model.specs.Readings.{ReadsAs}
use Rattle.ufs_path.specs.Walks.{ls_below}
use Rattle.ufs_path.proofs.AnswerLaws.{at_fault, map_answer, refused_unanswered, refused_stays}
use Rattle.ufs_path.proofs.ListLaws.{path_read, path_unread}
use Rattle.ufs_path.proofs.ConsultLaws.{consults_along, consults_both}
use Rattle.ufs_path.proofs.NeedLaws.{ls_first, ls_second}
use Rattle.ufs_path.proofs.lists.ls.Goals as goal

pub returns-in-Ok-clause-rule : goal.returns-in-Ok-clause-rule
returns-in-Ok-clause-rule g c =
    let first = c.geometry.ensures.keeps in
    map_answer g.O.Listing.took g.O.Listing.took_part g.O.Listing.faults c.args.out.now c.ls_below.new.out
    {one = (ReadsAs (g.V.View.stands_for c.geometry.new.view) (g.V.View.is_gone c.geometry.new.view) (g.V.View.tells c.ls_below.new.view) (g.V.View.is_gone c.ls_below.new.view) (ls_below c.args.path.now c.in-Ok.g))}
    {two = (ReadsAs (g.V.View.stands_for c.args.view.now) (g.V.View.is_gone c.args.view.now) (g.V.View.tells c.ls_below.new.view) (g.V.View.is_gone c.ls_below.new.view) (ls_of (g.V.View.size c.args.view.now) (g.V.View.count c.args.view.now) c.args.path.now))}
    c.ls_below.result
    (λ r reads. path_read _ _ c.args.path.now c.in-Ok.g r first.stays first.stands c.ls_below.ensures.keeps.told c.in-Ok.ensures.rule reads)
    c.ls_below.ensures.rule

pub returns-in-Err-clause-rule : goal.returns-in-Err-clause-rule
returns-in-Err-clause-rule g c =
    rw c.refused_answer.ensures
    (at_fault g.O.Listing.took g.O.Listing.took_part g.O.Listing.faults c.args.out.now c.args.out.now
    (ReadsAs (g.V.View.stands_for c.args.view.now) (g.V.View.is_gone c.args.view.now) (g.V.View.tells c.geometry.new.view) (g.V.View.is_gone c.geometry.new.view)
    (ls_of (g.V.View.size c.args.view.now) (g.V.View.count c.args.view.now) c.args.path.now))
    c.in-Err.fault refl (path_unread _ _ c.args.path.now c.in-Err.fault c.geometry.ensures.keeps.stays c.in-Err.ensures.rule))

pub returns-in-Ok-clause-consults : goal.returns-in-Ok-clause-consults
returns-in-Ok-clause-consults g c =
    let first = c.geometry.ensures.keeps in
    let second = c.ls_below.ensures.keeps in
    consults_both g.V.View g.met.V.View.fetched_both first second
    (λ is v holds. (first.stands v holds, λ b h. ls_second _ _ c.args.path.now c.in-Ok.g v b ((c.in-Ok.ensures.rule.rule (second.told is) v holds).answer) h)) (λ h. h)
    (consults_along g.V.View (λ is v holds. (holds, ls_first _ _ c.args.path.now v)) (λ h. h) c.in-Ok.ensures.consults) c.ls_below.ensures.consults

pub returns-in-Err-clause-consults : goal.returns-in-Err-clause-consults
returns-in-Err-clause-consults g c = rw c.refused_answer.ensures (consults_along g.V.View (λ is v holds. (holds, ls_first _ _ c.args.path.now v)) (refused_unanswered c.in-Err.fault) c.in-Err.ensures.consults)

pub returns-in-Err-clause-stays : goal.returns-in-Err-clause-stays
returns-in-Err-clause-stays g c = rw c.refused_answer.ensures (refused_stays c.in-Err.fault _)
