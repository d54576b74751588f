use Rattle.dg_claims.proofs.RunLaws.{no_entry}
use Rattle.dg_claims.proofs.runs.Runs.new.Goals as goal

pub returns : goal.returns
returns c = no_entry _ c.new.ensures.empty
