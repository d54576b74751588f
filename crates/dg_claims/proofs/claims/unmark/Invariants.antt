use Rattle.dg_claims.specs.Marks.{IsMarks, Unmarks}
use Rattle.dg_claims.proofs.claims.unmark.Given as goal

abbrev pub invariant-loop-i : goal.invariant-loop-i
invariant-loop-i l = record {
  sound : IsMarks l.marks;
  unmarked : Unmarks l.fn.marks l.marks l.place l.run.first l.i;
}
