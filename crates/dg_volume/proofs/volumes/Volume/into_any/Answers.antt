use Rattle.dg_volume.proofs.AnyLaws.{same_later}
use Rattle.dg_volume.proofs.volumes.Volume.into_any.Goals as goal

pub returns : goal.returns
returns g c =
    same_later g.S.InPhase g.R.Rack c.args.self c.into_any.result (record { phase_is = c.into_any.ensures.phase; kept_is = c.into_any.ensures.kept }) c.requires
