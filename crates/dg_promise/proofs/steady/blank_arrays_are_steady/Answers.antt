use Rattle.dg_promise.proofs.SteadyLaws.{blank_steady}
use Rattle.dg_promise.proofs.steady.blank_arrays_are_steady.Goals as goal

pub returns : goal.returns
returns c = blank_steady
