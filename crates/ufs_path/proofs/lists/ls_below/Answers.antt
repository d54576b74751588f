use Rattle.std.proofs.Common.{refl}
use Rattle.ufs_model.specs.Listings.{listing_of}
use Rattle.ufs_model.specs.Readings.{ReadsAs}
use Rattle.ufs_path.specs.Walks.{ls_below}
use Rattle.ufs_path.proofs.AnswerLaws.{at_fault, map_answer, refused_unanswered, refused_stays}
use Rattle.ufs_path.proofs.ListLaws.{below_read, below_unread}
use Rattle.ufs_path.proofs.ConsultLaws.{consults_along, consults_both}
use Rattle.ufs_path.proofs.NeedLaws.{ls_below_first, ls_below_second}
use Rattle.ufs_path.proofs.lists.ls_below.Goals as goal

pub returns-in-Ok-clause-rule : goal.returns-in-Ok-clause-rule
returns-in-Ok-clause-rule g c =
    let looked = c.look_below.ensures.keeps in
    map_answer g.O.Listing.took g.O.Listing.took_part g.O.Listing.faults c.args.out.now c.list_directory.new.out
    {one = (ReadsAs (g.V.View.stands_for c.look_below.new.view) (g.V.View.is_gone c.look_below.new.view) (g.V.View.tells c.list_directory.new.view) (g.V.View.is_gone c.list_directory.new.view) (listing_of c.args.g.now c.in-Ok.inode))}
    {two = (ReadsAs (g.V.View.stands_for c.args.view.now) (g.V.View.is_gone c.args.view.now) (g.V.View.tells c.list_directory.new.view) (g.V.View.is_gone c.list_directory.new.view) (ls_below c.args.path.now c.args.g.now))}
    c.list_directory.result
    (λ r reads. below_read c.args.g.now c.args.path.now _ c.in-Ok.inode r looked.stays looked.stands c.list_directory.ensures.keeps.told c.in-Ok.ensures.rule reads)
    c.list_directory.ensures.rule

pub returns-in-Err-clause-rule : goal.returns-in-Err-clause-rule
returns-in-Err-clause-rule g c =
    rw c.refused_answer.ensures
    (at_fault g.O.Listing.took g.O.Listing.took_part g.O.Listing.faults c.args.out.now c.args.out.now
    (ReadsAs (g.V.View.stands_for c.args.view.now) (g.V.View.is_gone c.args.view.now) (g.V.View.tells c.look_below.new.view) (g.V.View.is_gone c.look_below.new.view) (ls_below c.args.path.now c.args.g.now))
    c.in-Err.fault refl (below_unread c.args.g.now c.args.path.now c.in-Err.fault c.look_below.ensures.keeps.stays c.in-Err.ensures.rule))

pub returns-in-Ok-clause-consults : goal.returns-in-Ok-clause-consults
returns-in-Ok-clause-consults g c =
    let first = c.look_below.ensures.keeps in
    let second = c.list_directory.ensures.keeps in
    consults_both g.V.View g.met.V.View.fetched_both first second
    (λ is v holds. (first.stands v holds, λ b h. ls_below_second c.args.g.now c.args.path.now _ c.in-Ok.inode v b ((c.in-Ok.ensures.rule.rule (second.told is) v holds).answer) h)) (λ h. h)
    (consults_along g.V.View (λ is v holds. (holds, ls_below_first c.args.g.now c.args.path.now v)) (λ h. h) c.in-Ok.ensures.consults) c.list_directory.ensures.consults

pub returns-in-Err-clause-consults : goal.returns-in-Err-clause-consults
returns-in-Err-clause-consults g c = rw c.refused_answer.ensures (consults_along g.V.View (λ is v holds. (holds, ls_below_first c.args.g.now c.args.path.now v)) (refused_unanswered c.in-Err.fault) c.in-Err.ensures.consults)

pub returns-in-Err-clause-stays : goal.returns-in-Err-clause-stays
returns-in-Err-clause-stays g c = rw c.refused_answer.ensures (refused_stays c.in-Err.fault _)
