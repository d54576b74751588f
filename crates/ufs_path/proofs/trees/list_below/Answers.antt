use Rattle.std.proofs.Common.{inl, refl}
use Rattle.ufs_path.proofs.BranchLaws.{err_unanswered, on_err}
use Rattle.ufs_path.proofs.ConsultLaws.{consults_both}
use Rattle.ufs_path.proofs.GrowLaws.{grown_cut, grown_failed, grown_given, grown_wanting}
use Rattle.ufs_path.specs.Trees.{lines_below}
use Rattle.ufs_path.proofs.trees.list_below.Goals as goal

pub returns-in_err-listed-in-All-clause-consults : goal.returns-in_err-listed-in-All-clause-consults
returns-in_err-listed-in-All-clause-consults g c =
    let first = c.walk_below.ensures.keeps in
    consults_both g.V.View g.met.V.View.fetched_both first c.walk_below-in-All.ensures.keeps (λ is v holds. (first.stands v holds, λ b h. h))
    (λ h. absurd (err_unanswered c.from_residual-in_err-listed-in-All.result c.from_residual-in_err-listed-in-All.ensures.0 h)) c.walk_below.ensures.consults c.walk_below-in-All.ensures.consults

pub returns-in-All-listed-clause-rule : goal.returns-in-All-listed-clause-rule
returns-in-All-listed-clause-rule g c =
    let first = c.walk_below.ensures.keeps in
    grown_given g.O.Listing.took g.O.Listing.took_part g.O.Listing.faults (lines_below c.args.g.now 0 c.args.inode.now) c.in_ok-listed-in-All.listed c.in-All-listed.given c.args.out.now c.walk_below-in-All.new.out
    c.in-All-listed.is first.stays first.stands c.in_ok-listed-in-All.ensures.rule

pub returns-in-All-listed-clause-consults : goal.returns-in-All-listed-clause-consults
returns-in-All-listed-clause-consults g c =
    let first = c.walk_below.ensures.keeps in
    consults_both g.V.View g.met.V.View.fetched_both first c.walk_below-in-All.ensures.keeps (λ is v holds. (first.stands v holds, λ b h. h)) (λ h. absurd h) c.walk_below.ensures.consults c.walk_below-in-All.ensures.consults

pub returns-in-Unread-listed-clause-rule : goal.returns-in-Unread-listed-clause-rule
returns-in-Unread-listed-clause-rule g c =
    let first = c.walk_below.ensures.keeps in
    let second = c.walk_below-in-All.ensures.keeps in
    let walked = rw c.in-All.is at c.in_ok-consulted.ensures.rule in
    grown_cut g.O.Listing.took g.O.Listing.took_part g.O.Listing.faults (lines_below c.args.g.now 0 c.args.inode.now) (walked.0) c.in_ok-listed-in-All.listed c.in-Unread-listed.given _ c.args.out.now c.walk_below-in-All.new.out
    c.in-Unread-listed.is first.stays second.stays first.stands second.told (walked.3) c.in_ok-listed-in-All.ensures.rule

pub returns-in-Unread-listed-clause-consults : goal.returns-in-Unread-listed-clause-consults
returns-in-Unread-listed-clause-consults g c =
    let first = c.walk_below.ensures.keeps in
    consults_both g.V.View g.met.V.View.fetched_both first c.walk_below-in-All.ensures.keeps (λ is v holds. (first.stands v holds, λ b h. h)) (λ h. absurd h) c.walk_below.ensures.consults c.walk_below-in-All.ensures.consults

pub returns-in-Failed-listed-clause-rule : goal.returns-in-Failed-listed-clause-rule
returns-in-Failed-listed-clause-rule g c =
    let first = c.walk_below.ensures.keeps in
    let second = c.walk_below-in-All.ensures.keeps in
    let walked = rw c.in-All.is at c.in_ok-consulted.ensures.rule in
    grown_failed g.O.Listing.took g.O.Listing.took_part g.O.Listing.faults (lines_below c.args.g.now 0 c.args.inode.now) (walked.0) c.in_ok-listed-in-All.listed c.args.out.now c.walk_below-in-All.new.out
    c.in-Failed-listed.is g.met.O.Listing.part second.stays first.stands second.told (walked.3) c.in_ok-listed-in-All.ensures.rule

pub returns-in-Failed-listed-clause-consults : goal.returns-in-Failed-listed-clause-consults
returns-in-Failed-listed-clause-consults g c =
    let first = c.walk_below.ensures.keeps in
    consults_both g.V.View g.met.V.View.fetched_both first c.walk_below-in-All.ensures.keeps (λ is v holds. (first.stands v holds, λ b h. h)) (λ h. absurd h) c.walk_below.ensures.consults c.walk_below-in-All.ensures.consults

pub returns-in_err-consulted-clause-part : goal.returns-in_err-consulted-clause-part
returns-in_err-consulted-clause-part g c = on_err c.from_residual.result (inl refl)

pub returns-in_err-listed-in-All-clause-part : goal.returns-in_err-listed-in-All-clause-part
returns-in_err-listed-in-All-clause-part g c =
    let first = c.walk_below.ensures.keeps in
    let second = c.walk_below-in-All.ensures.keeps in
    let walked = rw c.in-All.is at c.in_ok-consulted.ensures.rule in
    on_err c.from_residual-in_err-listed-in-All.result (grown_wanting g.O.Listing.took (lines_below c.args.g.now 0 c.args.inode.now) (walked.0) c.args.out.now c.walk_below-in-All.new.out
    second.stays first.stands second.told (walked.3) c.in_err-listed-in-All.ensures.part)
