use Rattle.std.proofs.Common.{arith}
use Rattle.dg_claims.specs.Kept.{claimed_by}
use Rattle.dg_infer.proofs.PendingLaws.{taken_all}
use Rattle.dg_infer.proofs.pending.clear_touched.Goals as goal

pub returns-clause-marks : goal.returns-clause-marks
returns-clause-marks c = λ before watched bare b.
    taken_all c.args.marks.now c.loop-k.marks before (claimed_by c.args.claims.now.runs) c.args.watch.now c.loop-k.k (omega (arith, c.loop-k-test.false, c.count-count.ensures.value)) watched bare
    c.loop-k.invariant.marks b
