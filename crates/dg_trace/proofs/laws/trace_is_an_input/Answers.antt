use Rattle.dg_trace.proofs.InputLaws.{in_place}
use Rattle.dg_trace.proofs.laws.trace_is_an_input.Goals as goal

pub returns : goal.returns
returns c = in_place
