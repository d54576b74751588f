use Rattle.std.proofs.Common.{arith}
use Rattle.dg_parity.proofs.PartLemmas.{lost-set}
use Rattle.dg_parity.proofs.groups.Group.mark.Goals as goal

pub returns-clause-lost : goal.returns-clause-lost
returns-clause-lost c h = lost-set c.args.self.now.out c.args.j (omega arith) h
