use Rattle.dg_text.proofs.Reasons.{reading_once}
use Rattle.dg_text.proofs.laws.reading_is_unique.Goals as goal

pub returns : goal.returns
returns c = λ shape line one other h g. reading_once shape line one other h g
