use Rattle.dg_promise.proofs.ReadingLaws.{opened_steady}
use Rattle.dg_promise.proofs.resumes.opened_arrays_are_steady.Goals as goal

pub returns : goal.returns
returns c = opened_steady
