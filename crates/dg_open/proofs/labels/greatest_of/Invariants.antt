use Rattle.dg_open.specs.Seen.{IsGreatestOf}
use Rattle.dg_open.proofs.labels.greatest_of.Given as goal

abbrev pub invariant-loop-member : goal.invariant-loop-member
invariant-loop-member l = IsGreatestOf l.labels l.member l.greatest
