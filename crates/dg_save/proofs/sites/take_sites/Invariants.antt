use Rattle.dg_save.proofs.SiteLemmas.{AreTaken}
use Rattle.dg_save.proofs.sites.take_sites.Given as goal

abbrev pub invariant-loop-place : goal.invariant-loop-place
invariant-loop-place l = AreTaken l.shape l.fn.taken.items l.sites l.place l.taken.items
