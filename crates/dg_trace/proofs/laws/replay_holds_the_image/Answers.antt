use Rattle.std.proofs.Common.{arith}
use Rattle.dg_trace.proofs.InputLaws.{volume_size}
use Rattle.dg_trace.proofs.ReplayLaws.{replayed}
use Rattle.dg_trace.proofs.laws.replay_holds_the_image.Goals as goal

pub returns : goal.returns
returns c = λ asked image g before replies final is trace none.
    replayed asked image g before replies final (let least = is.limits.least_boundaries in omega (arith, least)) (volume_size asked image g is) trace none
