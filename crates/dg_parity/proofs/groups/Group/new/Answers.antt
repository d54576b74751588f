use Rattle.std.proofs.Common.{arith}
use Rattle.dg_parity.proofs.PartLemmas.{two-out}
use Rattle.dg_parity.proofs.groups.Group.new.Goals as goal

pub returns-clause-lost : goal.returns-clause-lost
returns-clause-lost c =
    two-out c.mark_all.new.self 0 1 (λ e. absurd (omega (arith, e))) (c.mark_all.ensures.out 0 (omega (arith, c.requires.least))) (c.mark_all.ensures.out 1 (omega (arith, c.requires.least)))
