use Rattle.dg_run.specs.Resumes.{WasFound}
use Rattle.dg_uses.proofs.ResumedPromises.{resumed_reads, resumed_reads_kept}
use Rattle.dg_uses.proofs.resumed.resumed_cats_keep_their_promise.Goals as goal

pub returns : goal.returns
returns g c = record {
  plain = λ end. resumed_reads c.opened_arrays_are_steady.ensures c.steady_runs_keep_their_promise.ensures (g.R.Rack.tells end);
  kept = λ start end facts seen sees.
      resumed_reads_kept c.opened_arrays_are_steady.ensures c.steady_runs_keep_their_promise.ensures (g.R.Rack.tells end) (WasFound (g.R.Rack.steady start) sees.known facts) facts seen sees;
}
