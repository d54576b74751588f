use Rattle.std.proofs.Common.{arith}
use Rattle.dg_open.proofs.ReadLemmas.{reads_both}
use Rattle.dg_open.proofs.TableLemmas.{fails_still, is_first, none_walked, quiet_still, stands_still, walked_one}
use Rattle.dg_open.proofs.bodies.first_state.Goals as goal

pub loop-member-init : goal.loop-member-init
loop-member-init g c = none_walked g.R.Rack c.args.rack.now c.args.labels.now c.args.greatest c.args.failed.now c.requires.labeled c.requires.stand c.requires.none c.told-failed

pub returns-in-Some-clause-leaves : goal.returns-in-Some-clause-leaves
returns-in-Some-clause-leaves g c = reads_both g.R.Rack c.args.rack.now c.loop-member.rack c.state_at.new.rack c.loop-member.invariant.leaves c.in_ok-source.ensures.reads.leaves

pub returns-in-Some-clause-stand : goal.returns-in-Some-clause-stand
returns-in-Some-clause-stand g c =
    let inv = c.loop-member.invariant in
    stands_still g.R.Rack c.args.rack.now c.loop-member.rack c.state_at.new.rack c.args.labels.now c.args.greatest c.loop-member.member c.loop-member.failed c.state_at.new.failed
    c.loop-member-test.true inv.size inv.stand c.in_ok-source.ensures.reads c.in_ok-source.ensures.marks

pub returns-in-Some-clause-failed : goal.returns-in-Some-clause-failed
returns-in-Some-clause-failed g c =
    let inv = c.loop-member.invariant in
    fails_still g.R.Rack c.args.rack.now c.loop-member.rack c.state_at.new.rack c.args.labels.now c.args.greatest c.loop-member.member c.loop-member.failed c.state_at.new.failed
    inv.fails inv.leaves c.in_ok-source.ensures.reads c.in_ok-source.ensures.marks

pub returns-in-Some-clause-quiet : goal.returns-in-Some-clause-quiet
returns-in-Some-clause-quiet g c =
    let inv = c.loop-member.invariant in
    quiet_still g.R.Rack c.args.rack.now c.loop-member.rack c.state_at.new.rack c.args.labels.now c.args.greatest c.loop-member.member c.loop-member.failed c.state_at.new.failed
    c.loop-member-test.true inv.size inv.quiet c.in_ok-source.ensures.reads c.in_ok-source.ensures.marks

pub returns-in-Some-clause-says : goal.returns-in-Some-clause-says
returns-in-Some-clause-says g c =
    is_first g.R.Rack c.args.rack.now c.loop-member.rack c.state_at.new.rack c.args.labels.now c.args.greatest c.loop-member.member c.loop-member.failed c.state_at.new.failed
    c.in-Some.source c.loop-member-test.true c.loop-member.invariant c.in_ok-source.ensures.reads (rw c.in-Some.is at c.in_ok-source.ensures.says)

pub loop-member-preserved : goal.loop-member-preserved
loop-member-preserved g c =
    let inv = c.loop-member.invariant in
    walked_one g.R.Rack c.args.rack.now c.loop-member.rack c.state_at.new.rack c.args.labels.now c.args.greatest c.loop-member.member c.loop-member.failed c.state_at.new.failed
    c.loop-member-test.true (omega arith) inv c.in_ok-source.ensures.reads c.in_ok-source.ensures.marks
    (rw c.in_default.is at c.in_ok-source.ensures.says)
