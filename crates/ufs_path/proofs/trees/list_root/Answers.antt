use Rattle.std.proofs.Common.{◌∙◌, refl, sym}
use Rattle.ufs_model.specs.Readings.{ReadsAs}
use Rattle.ufs_path.proofs.BranchLaws.{answer_map, err_some, root_needed, root_read, root_refused}
use Rattle.ufs_path.proofs.ConsultLaws.{consults_along, consults_none}
use Rattle.ufs_path.specs.Trees.{lines_below, root_lines}
use Rattle.ufs_path.proofs.trees.list_root.Goals as goal

pub returns-then-is_directory-clause-rule : goal.returns-then-is_directory-clause-rule
returns-then-is_directory-clause-rule g c =
    answer_map g.O.Listing.took g.O.Listing.took_part g.O.Listing.faults c.args.out.now c.list_below.new.out
    (ReadsAs (g.V.View.stands_for c.args.view.now) (g.V.View.is_gone c.args.view.now) (g.V.View.tells c.list_below.new.view) (g.V.View.is_gone c.list_below.new.view) (lines_below c.args.g.now 0 c.args.root.now))
    (ReadsAs (g.V.View.stands_for c.args.view.now) (g.V.View.is_gone c.args.view.now) (g.V.View.tells c.list_below.new.view) (g.V.View.is_gone c.list_below.new.view) (root_lines c.args.g.now c.args.root.now))
    c.list_below.result
    (λ r reads. root_read c.args.g.now c.args.root.now r (sym c.is_directory.ensures ∙ c.if-is_directory.true) reads)
    c.list_below.ensures.rule

pub returns-then-is_directory-clause-consults : goal.returns-then-is_directory-clause-consults
returns-then-is_directory-clause-consults g c =
    consults_along g.V.View (λ is v holds. (holds, λ b h. root_needed c.args.g.now c.args.root.now v b (sym c.is_directory.ensures ∙ c.if-is_directory.true) h)) (λ h. h) c.list_below.ensures.consults

pub returns-else-is_directory-clause-rule : goal.returns-else-is_directory-clause-rule
returns-else-is_directory-clause-rule g c = (refl, root_refused c.args.g.now c.args.root.now (sym c.is_directory.ensures ∙ c.if-is_directory.false))

pub returns-else-is_directory-clause-consults : goal.returns-else-is_directory-clause-consults
returns-else-is_directory-clause-consults g c = consults_none g.V.View c.args.view.now _ _ (g.met.V.View.fetched_none c.args.view.now) (λ h. h)

pub returns-then-is_directory-clause-part : goal.returns-then-is_directory-clause-part
returns-then-is_directory-clause-part g c =
    err_some g.O.Listing.took c.args.out.now c.list_below.new.out
    (ReadsAs (g.V.View.stands_for c.args.view.now) (g.V.View.is_gone c.args.view.now) (g.V.View.tells c.list_below.new.view) (g.V.View.is_gone c.list_below.new.view) (lines_below c.args.g.now 0 c.args.root.now))
    (ReadsAs (g.V.View.stands_for c.args.view.now) (g.V.View.is_gone c.args.view.now) (g.V.View.tells c.list_below.new.view) (g.V.View.is_gone c.list_below.new.view) (root_lines c.args.g.now c.args.root.now))
    c.list_below.result
    (λ r reads. root_read c.args.g.now c.args.root.now r (sym c.is_directory.ensures ∙ c.if-is_directory.true) reads)
    c.list_below.ensures.part
