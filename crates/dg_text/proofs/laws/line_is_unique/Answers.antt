use Rattle.dg_text.proofs.Spellings.{line_cut}
use Rattle.dg_text.proofs.laws.line_is_unique.Goals as goal

pub returns : goal.returns
returns c = λ shape one other rest more h g e. line_cut shape one other rest more h g e
