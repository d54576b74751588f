use Rattle.ufs_model.proofs.PathLaws.{no_names, some_names}
use Rattle.ufs_model.proofs.paths.path_names.Goals as goal

pub returns-then-path-eq1 : goal.returns-then-path-eq1
returns-then-path-eq1 c = no_names c.args.path.now c.requires c.if-path-eq1.true

pub returns : goal.returns
returns c = some_names c.args.path.now c.requires c.if-path-eq1.false
