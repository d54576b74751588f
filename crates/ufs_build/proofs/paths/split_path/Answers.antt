use Rattle.std.proofs.Common.{◌∙◌}
use Rattle.ufs_build.proofs.SlashLaws.{cut_name, cut_parent}
use Rattle.ufs_build.proofs.paths.split_path.Goals as goal

pub returns-clause-parent : goal.returns-clause-parent
returns-clause-parent c =
    c.split_at-2.ensures.front ∙ cut_parent c.args.path.now _ c.name_start.result c.name_start.ensures.some c.name_start.ensures.inside c.name_start.ensures.slash
    c.name_start.ensures.last c.split_at.ensures.front

pub returns-clause-name : goal.returns-clause-name
returns-clause-name c =
    c.split_at.ensures.back ∙ cut_name c.args.path.now c.name_start.result c.name_start.ensures.some c.name_start.ensures.slash c.name_start.ensures.last
