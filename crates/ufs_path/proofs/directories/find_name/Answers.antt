use Rattle.std.proofs.Common.{◌∙◌, ap, sym}
use Rattle.std.specs.Option.{option_map}
use Rattle.ufs_path.proofs.DirectoryLaws.{directory_read, directory_refused, none_said}
use Rattle.ufs_path.specs.Answers.{refusal_of}
use Rattle.ufs_path.proofs.ConsultLaws.{consults_along, consults_none}
use Rattle.ufs_path.proofs.NeedLaws.{search_needed}
use Rattle.ufs_path.proofs.directories.find_name.Goals as goal

pub returns-in-Some-clause-rule : goal.returns-in-Some-clause-rule
returns-in-Some-clause-rule g c =
    directory_refused c.args.g.now c.args.inode.now c.args.name.now c.in-Some.fault
    (ap (option_map refusal_of) (sym c.in-Some.is) ∙ c.directory_fault.ensures.value)

pub returns-in-None-clause-rule : goal.returns-in-None-clause-rule
returns-in-None-clause-rule g c =
    directory_read c.args.g.now c.args.inode.now c.args.name.now c.block_count.result _
    (ap (option_map refusal_of) (sym c.in-None.is) ∙ c.directory_fault.ensures.value) c.block_count.ensures.value c.find_in_blocks.ensures.rule

pub returns-in-Some-clause-consults : goal.returns-in-Some-clause-consults
returns-in-Some-clause-consults g c = consults_none g.V.View c.args.view.now _ _ (g.met.V.View.fetched_none c.args.view.now) c.in-Some.ensures.read

pub returns-in-None-clause-consults : goal.returns-in-None-clause-consults
returns-in-None-clause-consults g c =
    let accepted = none_said _ (ap (option_map refusal_of) (sym c.in-None.is) ∙ c.directory_fault.ensures.value) in
    consults_along g.V.View (λ is v holds. (holds, λ b h. search_needed c.args.g.now c.args.inode.now c.args.name.now c.block_count.result v b accepted c.block_count.ensures.value h)) (λ h. h) c.find_in_blocks.ensures.consults
