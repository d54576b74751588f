use Rattle.dg_volume.proofs.VolumeLaws.{leaves_none}
use Rattle.dg_volume.specs.Volumes.{any_phase}
use Rattle.dg_volume.proofs.lost_files.Volume+AnyPhase+R.lost_files.Goals as goal

pub returns-in-Loose-clause-leaves : goal.returns-in-Loose-clause-leaves
returns-in-Loose-clause-leaves g c = leaves_none any_phase g.R.Rack c.args.self.now c.requires.well

pub returns-in-Worn-clause-leaves : goal.returns-in-Worn-clause-leaves
returns-in-Worn-clause-leaves g c = leaves_none any_phase g.R.Rack c.args.self.now c.requires.well
