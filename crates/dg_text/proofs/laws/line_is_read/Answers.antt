use Rattle.dg_text.proofs.Decisions.{line_read}
use Rattle.dg_text.proofs.laws.line_is_read.Goals as goal

pub returns : goal.returns
returns c = λ shape line. line_read shape line
