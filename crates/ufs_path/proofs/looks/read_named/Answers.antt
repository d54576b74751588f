use Rattle.ufs_path.proofs.ConsultLaws.{consults_along, consults_none}
use Rattle.ufs_path.proofs.NeedLaws.{named_needed}
use Rattle.std.proofs.Common.{arith}
use Rattle.ufs_path.proofs.looks.read_named.Goals as goal

pub returns-then-number-lt-ROOT_INODE-clause-consults : goal.returns-then-number-lt-ROOT_INODE-clause-consults
returns-then-number-lt-ROOT_INODE-clause-consults g c = consults_none g.V.View c.args.view.now _ _ (g.met.V.View.fetched_none c.args.view.now) (λ h. h)

pub returns-clause-consults : goal.returns-clause-consults
returns-clause-consults g c = consults_along g.V.View (λ is v holds. (holds, λ b h. named_needed c.args.g.now c.args.number v b (omega arith) (omega arith) h)) (λ h. h) c.read_allocated.ensures.consults
