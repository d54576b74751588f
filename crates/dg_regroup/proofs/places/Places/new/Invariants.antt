use Rattle.dg_regroup.proofs.PlaceLemmas.{IsTold}
use Rattle.dg_regroup.proofs.places.Places.new.Given as goal

abbrev pub invariant-loop-s : goal.invariant-loop-s
invariant-loop-s l = IsTold l.lost l.s l.count l.places
