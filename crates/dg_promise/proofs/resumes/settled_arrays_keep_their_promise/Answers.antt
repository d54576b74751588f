use Rattle.dg_promise.proofs.ReadingLaws.{settled_keeps}
use Rattle.dg_promise.proofs.resumes.settled_arrays_keep_their_promise.Goals as goal

pub returns : goal.returns
returns c = settled_keeps c.steps_keep_steady.ensures c.order_is_kept.ensures c.cat_keeps_its_promise.ensures
