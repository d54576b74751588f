use Rattle.dg_text.proofs.ReplyCalls.{a_call_a_line}
use Rattle.dg_text.proofs.laws.short_lines_are_one_call.Goals as goal

pub returns : goal.returns
returns c = λ reply short. a_call_a_line reply short
