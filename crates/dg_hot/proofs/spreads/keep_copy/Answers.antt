use Rattle.dg_hot.proofs.StoreLaws.{moved_none}
use Rattle.dg_hot.proofs.spreads.keep_copy.Goals as goal

pub returns-in-Ok-clause-moved : goal.returns-in-Ok-clause-moved
returns-in-Ok-clause-moved g c = moved_none g.R.Rack c.args.store.now c.requires.sound
