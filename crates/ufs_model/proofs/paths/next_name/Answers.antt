use Rattle.ufs_model.proofs.PathLaws.{first_name}
use Rattle.ufs_model.proofs.paths.next_name.Goals as goal

pub returns-clause-names : goal.returns-clause-names
returns-clause-names c =
    first_name c.args.path.now c.split_at.result.1.now c.split_at-2.result.0.now c.split_at-2.result.1.now c.first_slash.result c.unwrap_or-end.result c.requires
    c.split_at.ensures.back c.first_slash.ensures c.unwrap_or-end.ensures c.split_at-2.ensures.front c.split_at-2.ensures.back
