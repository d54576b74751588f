use Rattle.std.proofs.Common.{◌∙◌, ap, refl, sym}
use Rattle.std.specs.Option.{option_map}
use Rattle.ufs_model.specs.Listings.{listing_of}
use Rattle.ufs_model.specs.Readings.{ReadsAs}
use Rattle.ufs_path.proofs.AnswerLaws.{at_fault, map_answer, refused_unanswered, refused_stays}
use Rattle.ufs_path.proofs.ListLaws.{listing_read, listing_refused, listing_is}
use Rattle.ufs_path.specs.Answers.{refusal_of}
use Rattle.ufs_path.specs.Walks.{lines_before}
use Rattle.ufs_path.proofs.ConsultLaws.{consults_along, consults_none}
use Rattle.ufs_path.proofs.NeedLaws.{listing_needed}
use Rattle.ufs_path.proofs.DirectoryLaws.{none_said}
use Rattle.ufs_path.proofs.lists.list_directory.Goals as goal

pub returns-in-Some-clause-rule : goal.returns-in-Some-clause-rule
returns-in-Some-clause-rule g c =
    rw c.refused_answer.ensures
    (at_fault g.O.Listing.took g.O.Listing.took_part g.O.Listing.faults c.args.out.now c.args.out.now
    (ReadsAs (g.V.View.stands_for c.args.view.now) (g.V.View.is_gone c.args.view.now) (g.V.View.tells c.args.view.now) (g.V.View.is_gone c.args.view.now) (listing_of c.args.g.now c.args.inode.now))
    c.in-Some.fault refl
    (listing_refused c.args.g.now c.args.inode.now c.in-Some.fault (ap (option_map refusal_of) (sym c.in-Some.is) ∙ c.directory_fault.ensures.value)))

pub returns-in-None-clause-rule : goal.returns-in-None-clause-rule
returns-in-None-clause-rule g c =
    map_answer g.O.Listing.took g.O.Listing.took_part g.O.Listing.faults c.args.out.now c.list_consulted.new.out
    {one = (ReadsAs (g.V.View.stands_for c.args.view.now) (g.V.View.is_gone c.args.view.now) (g.V.View.tells c.list_consulted.new.view) (g.V.View.is_gone c.list_consulted.new.view) (lines_before c.args.g.now c.args.inode.now c.block_count.result))}
    {two = (ReadsAs (g.V.View.stands_for c.args.view.now) (g.V.View.is_gone c.args.view.now) (g.V.View.tells c.list_consulted.new.view) (g.V.View.is_gone c.list_consulted.new.view) (listing_of c.args.g.now c.args.inode.now))}
    c.list_consulted.result
    (λ r reads. listing_read c.args.g.now c.args.inode.now c.block_count.result r (ap (option_map refusal_of) (sym c.in-None.is) ∙ c.directory_fault.ensures.value) c.block_count.ensures.value reads)
    c.list_consulted.ensures.rule

pub returns-in-Some-clause-consults : goal.returns-in-Some-clause-consults
returns-in-Some-clause-consults g c = rw c.refused_answer.ensures (consults_none g.V.View c.args.view.now _ _ (g.met.V.View.fetched_none c.args.view.now) (λ h. c.in-Some.ensures.read (refused_unanswered c.in-Some.fault h)))

pub returns-in-Some-clause-stays : goal.returns-in-Some-clause-stays
returns-in-Some-clause-stays g c = rw c.refused_answer.ensures (refused_stays c.in-Some.fault _)

pub returns-in-None-clause-consults : goal.returns-in-None-clause-consults
returns-in-None-clause-consults g c =
    let accepted = none_said _ (ap (option_map refusal_of) (sym c.in-None.is) ∙ c.directory_fault.ensures.value) in
    consults_along g.V.View (λ is v holds. (holds, λ b h. listing_needed c.args.g.now c.args.inode.now c.block_count.result v b (listing_is c.args.g.now c.args.inode.now c.block_count.result accepted c.block_count.ensures.value) h)) (λ h. h) c.list_consulted.ensures.consults
