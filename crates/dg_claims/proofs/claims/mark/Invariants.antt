use Rattle.dg_claims.specs.Marks.{AddsMarks, IsMarks}
use Rattle.dg_claims.proofs.claims.mark.Given as goal

abbrev pub invariant-loop-done : goal.invariant-loop-done
invariant-loop-done l = record {
  sound : IsMarks l.marks;
  marked : AddsMarks l.fn.marks l.marks l.place l.run.first l.done;
}
