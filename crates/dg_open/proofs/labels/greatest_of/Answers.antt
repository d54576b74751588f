use Rattle.dg_open.proofs.TableLemmas.{one_later}
use Rattle.dg_open.proofs.labels.greatest_of.Goals as goal

pub loop-member-preserved : goal.loop-member-preserved
loop-member-preserved c = one_later c.args.labels.now c.loop-member.member c.loop-member.greatest c.later-greatest.result c.loop-member.invariant c.later-greatest.ensures
