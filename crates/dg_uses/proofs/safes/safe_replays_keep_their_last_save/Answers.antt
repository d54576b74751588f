use Rattle.dg_run.specs.Replays.{TellsBoundaries}
use Rattle.dg_uses.proofs.Checkpoints.{reopens_saved}
use Rattle.dg_uses.proofs.safes.safe_replays_keep_their_last_save.Goals as goal

pub returns : goal.returns
returns g c = λ start end before now images bytes shape front rest answers others number size leave ran steady told.
    reopens_saved (TellsBoundaries (g.R.Rack.tells end) ran.final.state) before bytes shape front rest answers others number ran.final size leave
    (ran.kept (λ none. none) steady told)
