use Rattle.dg_volume.proofs.ArrayLaws.{read_none}
use Rattle.dg_volume.proofs.plans.planned.Goals as goal

pub returns-in_err-wants-clause-reads : goal.returns-in_err-wants-clause-reads
returns-in_err-wants-clause-reads g c = read_none g.R.Rack c.args.store.now c.requires.sound
