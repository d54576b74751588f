use Rattle.std.proofs.Common.{◌∙◌, ap, sym}
use Rattle.std.specs.Option.{option_map}
use Rattle.ufs_path.proofs.BranchLaws.{branches_needed, branches_opened, branches_refused}
use Rattle.ufs_path.proofs.ConsultLaws.{consults_along, consults_none}
use Rattle.ufs_path.proofs.DirectoryLaws.{none_said}
use Rattle.ufs_path.specs.Answers.{refusal_of}
use Rattle.ufs_path.specs.Trees.{left_on}
use Rattle.ufs_path.proofs.branches.open_directory.Goals as goal

pub returns-in-Some-clause-opens : goal.returns-in-Some-clause-opens
returns-in-Some-clause-opens g c =
    branches_refused c.args.g.now c.args.depth c.args.inode.now c.in-Some.fault (ap (option_map refusal_of) (sym c.in-Some.is) ∙ c.directory_fault.ensures.value)

pub returns-in-Some-clause-consults : goal.returns-in-Some-clause-consults
returns-in-Some-clause-consults g c = consults_none g.V.View c.args.view.now _ _ (g.met.V.View.fetched_none c.args.view.now) c.in-Some.ensures.read

pub returns-in-None-clause-opens : goal.returns-in-None-clause-opens
returns-in-None-clause-opens g c =
    let accepted = none_said _ (ap (option_map refusal_of) (sym c.in-None.is) ∙ c.directory_fault.ensures.value) in
    branches_opened (g.V.View.stands_for c.args.view.now) (g.V.View.tells c.open_blocks.new.view) (g.V.View.is_gone c.args.view.now) (g.V.View.is_gone c.open_blocks.new.view)
    c.args.g.now c.args.depth c.args.inode.now c.block_count.result (left_on c.args.stack.now.items) (left_on c.open_blocks.new.stack.items) c.open_blocks.result
    accepted c.block_count.ensures.value c.open_blocks.ensures.keeps.stays c.open_blocks.ensures.opens

pub returns-in-None-clause-consults : goal.returns-in-None-clause-consults
returns-in-None-clause-consults g c =
    let accepted = none_said _ (ap (option_map refusal_of) (sym c.in-None.is) ∙ c.directory_fault.ensures.value) in
    consults_along g.V.View (λ is v holds. (holds, λ b h. branches_needed c.args.g.now c.args.depth c.args.inode.now c.block_count.result v b accepted c.block_count.ensures.value h)) (λ h. h) c.open_blocks.ensures.consults
