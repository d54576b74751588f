use Rattle.std.proofs.Common.{subst, sym}
use Rattle.dg_run.specs.Finds.{IsSaid}
use Rattle.dg_stop.specs.DoubleOpenings.{AreFailed, Opens}
use Rattle.dg_stop.specs.StopCalls.{behind}
use Rattle.dg_run.proofs.bases.open_rack.Goals as goal

pub returns : goal.returns
returns g c =
    let opened = c.in_ok-opened.opened in
    let live = c.in_ok-live.ensures in
    record {
      opens = subst (λ s. Opens g.R.Rack c.args.rack s opened.extra.items) (sym live.rack) c.in_ok-opened.ensures.opens;
      failed = opened.failed;
      are_failed = subst (λ s. AreFailed g.R.Rack opened.failed c.args.rack (behind s)) (sym live.rack) c.in_ok-opened.ensures.failed;
      said = c.in_ok-said.said;
      is_said = subst (λ l. IsSaid l c.in_ok-said.said) c.deref.ensures.value c.in_ok-said.ensures;
      live_is = live.live;
      none = live.none;
      shows = live.shows;
    }
