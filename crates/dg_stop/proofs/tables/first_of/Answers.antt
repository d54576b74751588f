use Rattle.std.proofs.Common.{arith}
use Rattle.dg_stop.proofs.TableLemmas.{none_all}
use Rattle.dg_stop.proofs.tables.first_of.Goals as goal

pub returns : goal.returns
returns c = none_all c.args.heads.now c.loop-member.member (omega (arith, c.told-heads)) (omega (arith, c.loop-member-test.false, c.loop-member.auto.member-end)) c.loop-member.invariant
