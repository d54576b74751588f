use Rattle.dg_regroup.proofs.LawLemmas.{same_boundaries}
use Rattle.dg_regroup.proofs.laws.names_tell_boundaries.Goals as goal

pub returns : goal.returns
returns c = λ one other n m low high same. same_boundaries one other n m low high same
