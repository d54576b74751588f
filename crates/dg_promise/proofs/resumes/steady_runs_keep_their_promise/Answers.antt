use Rattle.dg_promise.proofs.ReadingLaws.{reads_from}
use Rattle.dg_promise.proofs.resumes.steady_runs_keep_their_promise.Goals as goal

pub returns : goal.returns
returns c = reads_from c.steps_keep_steady.ensures c.cat_keeps_its_promise.ensures
