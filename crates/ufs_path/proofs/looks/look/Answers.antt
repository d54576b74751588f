use Rattle.std.proofs.lemmas.Result.{err_from_is_err_and}
use Rattle.ufs_path.proofs.LookLaws.{look_read, look_unread}
use Rattle.ufs_path.proofs.ConsultLaws.{consults_along, consults_both}
use Rattle.ufs_path.proofs.NeedLaws.{look_first, look_second}
use Rattle.ufs_path.proofs.looks.look.Goals as goal

pub returns-in_err-g-clause-rule : goal.returns-in_err-g-clause-rule
returns-in_err-g-clause-rule g c =
    let p = err_from_is_err_and c.from_residual.result c.from_residual.ensures.1 in
    rw (p.1, p.2) (look_unread _ _ c.args.path.now _ c.geometry.ensures.keeps.stays c.in_err-g.ensures.rule)

pub returns-clause-rule : goal.returns-clause-rule
returns-clause-rule g c =
    let first = c.geometry.ensures.keeps in
    look_read _ _ c.args.path.now c.in_ok-g.g _ first.stays first.stands c.look_below.ensures.keeps.told c.in_ok-g.ensures.rule c.look_below.ensures.rule

pub returns-in_err-g-clause-consults : goal.returns-in_err-g-clause-consults
returns-in_err-g-clause-consults g c =
    let p = err_from_is_err_and c.from_residual.result c.from_residual.ensures.1 in
    rw (p.1, p.2) (consults_along g.V.View (λ is v holds. (holds, look_first _ _ c.args.path.now v)) (λ h. h) c.in_err-g.ensures.consults)

pub returns-clause-consults : goal.returns-clause-consults
returns-clause-consults g c =
    let first = c.geometry.ensures.keeps in
    let second = c.look_below.ensures.keeps in
    consults_both g.V.View g.met.V.View.fetched_both first second
    (λ is v holds. (first.stands v holds, λ b h. look_second _ _ c.args.path.now c.in_ok-g.g v b ((c.in_ok-g.ensures.rule.rule (second.told is) v holds).answer) h)) (λ h. h)
    (consults_along g.V.View (λ is v holds. (holds, look_first _ _ c.args.path.now v)) (λ h. h) c.in_ok-g.ensures.consults) c.look_below.ensures.consults
