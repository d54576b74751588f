use Rattle.std.proofs.Common.{◌++◌, ◌∷◌, []}
use Rattle.dg_model.specs.declared.events.Event.TheVariants.{Save as SaveEvent}
use Rattle.dg_model.specs.declared.replies.Reply.TheVariants.{Saved}
use Rattle.dg_run.specs.Replays.{TellsBoundaries}
use Rattle.dg_uses.proofs.Held.{holds_whole}
use Rattle.dg_uses.proofs.QuietRuns.{ends_whole, history_told, keeps_none}
use Rattle.dg_uses.proofs.saves.replays_leave_saves.Goals as goal

pub returns : goal.returns
returns g c = λ start end before now images bytes events replies number none ran told.
    let Known = TellsBoundaries (g.R.Rack.tells end) ran.final.state in
    let whole = ends_whole Known before events replies number ran.final none ran.in_place ran.history in
    c.runs_end_with_saves.ensures.of_kinds before events replies number ran.final bytes
    (history_told told before (events ++ SaveEvent ∷ []) (replies ++ Saved number ∷ []) ran.final ran.history) whole.1
    (holds_whole bytes ran.final.state whole.0 whole.1 (ran.holds (keeps_none events none) told))
