use Rattle.std.proofs.Common.{arith}
use Rattle.dg_stop.proofs.TableLemmas.{longest_all}
use Rattle.dg_stop.proofs.tables.longest_of.Goals as goal

pub returns : goal.returns
returns c = longest_all c.args.heads.now c.loop-member.most c.loop-member.member (omega (arith, c.told-heads)) (omega (arith, c.loop-member-test.false, c.loop-member.auto.member-end)) c.loop-member.invariant
