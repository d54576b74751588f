use Rattle.ufs_pointer.proofs.SuperLaws.{none_fetched, none_read, none_there}
use Rattle.ufs_pointer.proofs.superblocks.read_any.Goals as goal

pub returns-then-k-eq0-clause-rule : goal.returns-then-k-eq0-clause-rule
returns-then-k-eq0-clause-rule g c = none_read _ c.args.a c.args.k _ c.if-k-eq0.true (none_there c.args.k _ _ _ c.if-k-eq0.true c.clear.ensures.block)

pub returns-then-k-eq0-clause-fetched : goal.returns-then-k-eq0-clause-fetched
returns-then-k-eq0-clause-fetched g c = none_fetched _ c.args.a c.args.k _ c.if-k-eq0.true (g.met.V.View.fetched_none c.args.view.now)
