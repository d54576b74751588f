use Rattle.ufs_path.proofs.looks.look_below.Goals as goal

pub returns-clause-rule : goal.returns-clause-rule
returns-clause-rule g c = rw c.path_names.ensures at c.follow_names.ensures.rule

pub returns-clause-consults : goal.returns-clause-consults
returns-clause-consults g c = rw c.path_names.ensures at c.follow_names.ensures.consults
