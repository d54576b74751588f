use Rattle.std.proofs.Common.{◌+◌, ◌≤◌, arith}
use Rattle.ufs_model.specs.Metadata.{IsMetadataBy}
use Rattle.ufs_check.proofs.GroupLaws.{group_area, group_need}
use Rattle.ufs_check.proofs.PassLaws.{area_lost, only_needs, read_value}
use Rattle.ufs_check.proofs.inodes.hold_group.Goals as goal

pub returns-clause-holds : goal.returns-clause-holds
returns-clause-holds g c = λ could told v stands before.
    let area = group_area c.args.g.now c.args.c _ _ c.requires.geometry.fsize c.group_block.ensures.value in
    read_value c.read_block.result _ (rw area at c.read_block.ensures.rule) could told v stands

pub returns-clause-gone : goal.returns-clause-gone
returns-clause-gone g c = λ missed.
    let inside : c.group_block.result + c.args.g.now.frag ≤ g.V.View.count c.args.view.now = let low = c.group_block.ensures.inside in let high = c.requires.geometry.size in omega arith in
    area_lost (IsMetadataBy c.args.g.now) (g.V.View.size c.args.view.now) c.group_block.result c.args.g.now.frag c.read_block.result inside
    (group_need c.args.g.now c.args.c _ _ c.requires.group c.requires.geometry.fsize c.group_block.ensures.value) missed c.read_block.ensures.area

pub returns-clause-fetched : goal.returns-clause-fetched
returns-clause-fetched g c =
    only_needs (IsMetadataBy c.args.g.now) (group_need c.args.g.now c.args.c _ _ c.requires.group c.requires.geometry.fsize c.group_block.ensures.value) c.read_block.ensures.fetched
