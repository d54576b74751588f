use Rattle.std.proofs.Common.{◌*◌}
use Rattle.std.proofs.lemmas.List.{length-take-le}
use Rattle.dg_trace.proofs.ReplayLaws.{replayed}
use Rattle.dg_trace.proofs.laws.replay_holds_the_volume.Goals as goal

pub returns : goal.returns
returns c = λ asked image g before replies final some long trace none.
    replayed asked image g before replies final some (length-take-le (g.size * g.fsize) image long) trace none
