use Rattle.std.proofs.Common.{refl, ◌∙◌, arith}
use Rattle.dg_parity.proofs.GroupLemmas.{leaves-then}
use Rattle.dg_parity.proofs.CallLemmas.{holds-then}
use Rattle.dg_parity.proofs.NoteLemmas.{heads-more, fell-then}
use Rattle.dg_parity.proofs.disks.write_each.Goals as goal

pub returns-then-not-write_header-clause-leaves : goal.returns-then-not-write_header-clause-leaves
returns-then-not-write_header-clause-leaves g c = leaves-then g.R.Rack _ _ _ _ _ _ c.loop-j.invariant.leaves c.write_header.ensures.leaves

pub returns-then-not-write_header-clause-holds : goal.returns-then-not-write_header-clause-holds
returns-then-not-write_header-clause-holds g c = holds-then g.R.Rack _ _ _ _ _ _ c.write_header.ensures.leaves c.loop-j.invariant.holds c.write_header.ensures.holds

pub returns-then-not-write_header-clause-fell : goal.returns-then-not-write_header-clause-fell
returns-then-not-write_header-clause-fell g c =
    fell-then c.args.group.now c.loop-j.group c.write_header.new.group c.loop-j.j c.loop-j.invariant.leaves.later c.if-not-write_header.ensures.fell

pub loop-j-preserved : goal.loop-j-preserved
loop-j-preserved g c = record {
  end = refl;
  same = c.if-not-write_header.ensures.done ∙ c.loop-j.invariant.same;
  leaves = leaves-then g.R.Rack _ _ _ _ _ _ c.loop-j.invariant.leaves c.write_header.ensures.leaves;
  holds = holds-then g.R.Rack _ _ _ _ _ _ c.write_header.ensures.leaves c.loop-j.invariant.holds c.write_header.ensures.holds;
  heads = λ i lt in0. heads-more g.R.Rack c.loop-j.group c.write_header.new.group c.loop-j.rack c.write_header.new.rack c.loop-j.j i c.if-not-write_header.ensures.done lt in0
      c.loop-j.invariant.heads c.if-not-write_header.ensures.headed c.if-not-write_header.ensures.heads;
  calls = omega (arith, c.loop-j.invariant.calls, c.write_header.ensures.calls);
}
