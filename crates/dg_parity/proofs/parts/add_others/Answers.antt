use Rattle.std.proofs.Common.{ℕ, ◌+◌, refl, ap, ◌∙◌, arith}
use Rattle.dg_parity.specs.Exclusive.{with_at}
use Rattle.dg_parity.proofs.GroupLemmas.{leaves-then}
use Rattle.dg_parity.proofs.CallLemmas.{holds-then, told-back, added-more}
use Rattle.dg_parity.specs.Groups.{is_out}
use Rattle.dg_parity.specs.declared.groups.Group.{Group}
use Rattle.dg_parity.proofs.RunSteps.{calls-in, idle-calls, in-up}
use Rattle.dg_parity.proofs.parts.add_others.Goals as goal

pub returns-then-not-add_unless-clause-calls : goal.returns-then-not-add_unless-clause-calls
returns-then-not-add_unless-clause-calls g c =
    omega (
      arith,
      in-up c.args.group.now (c.loop-j.j + 1) c.args.group.now.disks (omega arith),
      calls-in c.args.group.now c.loop-j.j _ _ _
          (λ out. idle-calls g.R.Rack _ _ (c.add_unless.ensures.idle (ap (λ (k : Group). is_out k c.loop-j.j) c.loop-j.invariant.same ∙ out)))
          c.add_unless.ensures.calls c.loop-j.invariant.calls,
    )

pub returns-then-not-add_unless-clause-leaves : goal.returns-then-not-add_unless-clause-leaves
returns-then-not-add_unless-clause-leaves g c = leaves-then g.R.Rack _ _ _ _ _ _ c.loop-j.invariant.leaves c.add_unless.ensures.leaves

pub returns-then-not-add_unless-clause-holds : goal.returns-then-not-add_unless-clause-holds
returns-then-not-add_unless-clause-holds g c = holds-then g.R.Rack _ _ _ _ _ _ c.add_unless.ensures.leaves c.loop-j.invariant.holds c.add_unless.ensures.holds

pub loop-j-preserved : goal.loop-j-preserved
loop-j-preserved g c = record {
  end = refl;
  same = c.if-not-add_unless.ensures.done ∙ c.loop-j.invariant.same;
  leaves = leaves-then g.R.Rack _ _ _ _ _ _ c.loop-j.invariant.leaves c.add_unless.ensures.leaves;
  holds = holds-then g.R.Rack _ _ _ _ _ _ c.add_unless.ensures.leaves c.loop-j.invariant.holds c.add_unless.ensures.holds;
  calls = calls-in c.args.group.now c.loop-j.j _ _ _
      (λ out. idle-calls g.R.Rack _ _ (c.add_unless.ensures.idle (ap (λ (k : Group). is_out k c.loop-j.j) c.loop-j.invariant.same ∙ out)))
      c.add_unless.ensures.calls c.loop-j.invariant.calls;
  added = λ has all held k lt.
      let back = told-back g.R.Rack _ _ _ _ c.add_unless.ensures.leaves all in
      added-more (with_at (with_at (λ (i : ℕ). has i (c.args.place + k)) c.args.a 0) c.args.b 0) _ _ _ c.loop-j.j
      (c.loop-j.invariant.added has back held k (omega arith))
      (c.if-not-add_unless.ensures.added has all (c.loop-j.invariant.holds has back held) k lt);
}
