use Rattle.dg_trace.proofs.AnswerLaws.{one_answer}
use Rattle.dg_trace.proofs.laws.image_has_one_answer.Goals as goal

pub returns : goal.returns
returns c = one_answer
