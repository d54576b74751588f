use Rattle.dg_stop.proofs.Paging.{pages_are_patched}
use Rattle.dg_stop.proofs.laws.pages_are_patched.Goals as goal

pub returns : goal.returns
returns c = pages_are_patched
