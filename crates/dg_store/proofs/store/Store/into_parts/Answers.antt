use Rattle.dg_store.proofs.Sound.{row_of}
use Rattle.dg_store.proofs.store.Store.into_parts.Goals as goal

pub returns-clause-row : goal.returns-clause-row
returns-clause-row g c = row_of g.R.Rack c.args.self c.requires
