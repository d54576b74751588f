use Rattle.dg_volume.proofs.ArrayLaws.{read_none}
use Rattle.dg_volume.proofs.opens.is_still_settled.Goals as goal

pub returns-in-Loose-clause-reads : goal.returns-in-Loose-clause-reads
returns-in-Loose-clause-reads g c = read_none g.R.Rack c.args.store.now c.requires.sound

pub returns-in-Worn-clause-reads : goal.returns-in-Worn-clause-reads
returns-in-Worn-clause-reads g c = read_none g.R.Rack c.args.store.now c.requires.sound
