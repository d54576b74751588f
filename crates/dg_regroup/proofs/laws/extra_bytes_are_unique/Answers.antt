use Rattle.dg_regroup.proofs.LawLemmas.{one_extra}
use Rattle.dg_regroup.proofs.laws.extra_bytes_are_unique.Goals as goal

pub returns : goal.returns
returns c = λ one other is also same. one_extra one other is also same
