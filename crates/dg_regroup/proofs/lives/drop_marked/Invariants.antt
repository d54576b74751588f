use Rattle.dg_regroup.proofs.DropLemmas.{IsDropped}
use Rattle.dg_regroup.proofs.lives.drop_marked.Given as goal

abbrev pub invariant-loop-x : goal.invariant-loop-x
invariant-loop-x l = IsDropped l.lost l.x l.kept l.fn.live.items l.live.items
