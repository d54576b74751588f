use Rattle.std.proofs.Common.{arith}
use Rattle.std.proofs.lemmas.Bool.{false≢true}
use Rattle.stop_bench.proofs.MarkLemmas.{marks_two}
use Rattle.stop_bench.proofs.callers.marks.Goals as goal

pub returns-in-true-true : goal.returns-in-true-true
returns-in-true-true c = marks_two 3 c.args.first c.args.second (omega arith) (λ h. c.in-true-true.is-0) (λ h. c.in-true-true.is-1)

pub returns-in-true-false : goal.returns-in-true-false
returns-in-true-false c = marks_two 1 c.args.first c.args.second (omega arith) (λ h. c.in-true-false.is-0) (λ h. absurd (false≢true h))

pub returns-in-false-true : goal.returns-in-false-true
returns-in-false-true c = marks_two 2 c.args.first c.args.second (omega arith) (λ h. absurd (false≢true h)) (λ h. c.in-false-true.is-1)
