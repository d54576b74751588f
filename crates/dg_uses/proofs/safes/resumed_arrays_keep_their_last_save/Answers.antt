use Rattle.dg_run.specs.Opened.{IsKnownKept, kept_moment}
use Rattle.dg_uses.proofs.Checkpoints.{resumed_found, resumed_saved}
use Rattle.dg_uses.proofs.safes.resumed_arrays_keep_their_last_save.Goals as goal

pub returns : goal.returns
returns g c = record {
  saved = λ start end facts seen sees front rest answers others number size leave ran V long known kept was.
      let reached = ran.runs V long in
      resumed_saved (IsKnownKept (g.R.Rack.tells end) facts seen sees.said ran.opened ran.source V) facts sees.said kept (kept_moment reached.resumed.state reached.resumed.beneath)
      reached.resumed.final front rest answers others number size leave (reached.keeps known kept was);
  found = λ start end facts seen sees events replies leave ran V long known kept was.
      let reached = ran.runs V long in
      resumed_found (IsKnownKept (g.R.Rack.tells end) facts seen sees.said ran.opened ran.source V) facts sees.said kept (kept_moment reached.resumed.state reached.resumed.beneath)
      reached.resumed.final events replies leave (reached.keeps known kept was);
}
