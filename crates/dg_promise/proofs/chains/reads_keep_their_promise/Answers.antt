use Rattle.dg_promise.proofs.ChainLaws.{reads_in_run}
use Rattle.dg_promise.proofs.chains.reads_keep_their_promise.Goals as goal

pub returns : goal.returns
returns c = λ before shape front path rest replies last is fit trace.
    reads_in_run before shape front path rest replies last
    (λ earlier old reply new led settled few none step. c.runs_keep_their_promise.ensures before shape front earlier old path reply new is fit led settled few none step)
    trace
