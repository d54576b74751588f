use Rattle.dg_kept.proofs.InUseLaws.{opened_still, trace_still}
use Rattle.dg_kept.proofs.runs.boundaries_stay_in_use.Goals as goal

pub returns : goal.returns
returns c = record { traced = trace_still; resumed = opened_still }
