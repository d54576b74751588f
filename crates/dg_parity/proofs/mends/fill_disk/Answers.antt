use Rattle.dg_parity.specs.Runs.{runs_of}
use Rattle.std.proofs.Common.{◌≡◌, ◌≤◌, ◌-◌, ◌+◌, ◌*◌, ℕ, refl, ap, ◌∙◌, arith}
use Rattle.dg_parity.proofs.RunSteps.{pass-calls, runs-next}
use Rattle.dg_parity.proofs.CallLemmas.{even-later}
use Rattle.dg_parity.proofs.MendLemmas.{but-then, but-holds-then, but-back, but-blank, held-blank, refilled-blank, filled-none}
use Rattle.dg_parity.proofs.mends.fill_disk.Goals as goal

pub returns-then-not-mend_stripes-clause-leaves : goal.returns-then-not-mend_stripes-clause-leaves
returns-then-not-mend_stripes-clause-leaves g c = but-then g.R.Rack c.args.j _ _ _ _ _ _ c.loop-t.invariant.leaves c.mend_stripes.ensures.leaves

pub returns-then-not-mend_stripes-clause-holds : goal.returns-then-not-mend_stripes-clause-holds
returns-then-not-mend_stripes-clause-holds g c = but-holds-then g.R.Rack c.args.j _ _ _ _ _ _ c.mend_stripes.ensures.leaves c.loop-t.invariant.holds c.mend_stripes.ensures.holds

pub loop-t-preserved : goal.loop-t-preserved
loop-t-preserved g c = record {
  within = omega (arith, c.part_of-part.ensures.most);
  calls = pass-calls c.args.group.now.disks _ _ _ _ _ (runs-next c.args.count c.loop-t.t c.part_of-part.result (omega arith) c.part_of-part.ensures.runs) (omega (arith, c.mend_stripes.ensures.calls, c.loop-t.invariant.leaves.later.disks)) c.loop-t.invariant.calls;
  same = c.if-not-mend_stripes.ensures.done ∙ c.loop-t.invariant.same;
  leaves = but-then g.R.Rack c.args.j _ _ _ _ _ _ c.loop-t.invariant.leaves c.mend_stripes.ensures.leaves;
  refilled = c.if-not-mend_stripes.ensures.refilled;
  holds = but-holds-then g.R.Rack c.args.j _ _ _ _ _ _ c.mend_stripes.ensures.leaves c.loop-t.invariant.holds c.mend_stripes.ensures.holds;
  filled = λ has all held even.
      let back = but-back g.R.Rack c.args.j _ _ _ _ c.mend_stripes.ensures.leaves all in
      c.if-not-mend_stripes.ensures.filled has all (c.loop-t.invariant.holds has back held)
      (even-later _ _ has c.loop-t.invariant.leaves.later even) (c.loop-t.invariant.filled has back held even);
}

pub returns-in-Err-clause-leaves : goal.returns-in-Err-clause-leaves
returns-in-Err-clause-leaves g c =
    but-blank g.R.Rack c.args.group.now c.args.j c.disk.result _ c.args.rack.now c.blank.new.self c.requires.out c.disk.ensures c.in-Err.ensures.leaves c.requires.ready

pub loop-t-init : goal.loop-t-init
loop-t-init g c = record {
  within = omega arith;
  calls =
      let none : c.args.group.now.disks * runs_of (c.args.count - 0) ≡ c.args.group.now.disks * runs_of c.args.count =
      ap (λ (k : ℕ). c.args.group.now.disks * runs_of k) (let z : c.args.count - 0 ≡ c.args.count = omega arith in z) in
      omega (arith, c.in-Ok.ensures.leaves.counted, none);
  same = refl;
  leaves = but-blank g.R.Rack c.args.group.now c.args.j c.disk.result _ c.args.rack.now c.blank.new.self c.requires.out c.disk.ensures c.in-Ok.ensures.leaves c.requires.ready;
  refilled = refilled-blank g.R.Rack c.args.group.now c.blank.new.self c.args.rack.now c.args.j c.disk.result (512 + 512 * c.args.count) c.disk.ensures
      (ap (λ (n : ℕ). 512 + 512 * n) c.requires.stripes) c.in-Ok.ensures.stands c.in-Ok.ensures.ok;
  holds = held-blank g.R.Rack c.args.group.now c.args.j c.disk.result _ c.args.rack.now c.blank.new.self c.requires.out c.disk.ensures c.in-Ok.ensures.leaves;
  filled = λ has all held even. filled-none g.R.Rack c.args.group.now c.blank.new.self c.args.j has;
}

pub returns-then-not-mend_stripes-clause-calls : goal.returns-then-not-mend_stripes-clause-calls
returns-then-not-mend_stripes-clause-calls g c =
    let next : (g.R.Rack.counts c.mend_stripes.new.rack).calls + c.args.group.now.disks * runs_of (c.args.count - (c.loop-t.t + c.part_of-part.result))
    ≤ (g.R.Rack.counts c.args.rack.now).calls + (c.args.group.now.disks * runs_of c.args.count + 1) =
    pass-calls c.args.group.now.disks _ _ _ _ _ (runs-next c.args.count c.loop-t.t c.part_of-part.result (omega arith) c.part_of-part.ensures.runs)
    (omega (arith, c.mend_stripes.ensures.calls, c.loop-t.invariant.leaves.later.disks)) c.loop-t.invariant.calls in
    omega (arith, next)

pub returns-clause-calls : goal.returns-clause-calls
returns-clause-calls g c = omega (arith, c.loop-t.invariant.calls)

pub returns-then-not-mend_stripes-clause-calm : goal.returns-then-not-mend_stripes-clause-calm
returns-then-not-mend_stripes-clause-calm g c alive = c.mend_stripes.ensures.calm alive ∙ c.loop-t.invariant.same

pub returns-in-Err-clause-calm : goal.returns-in-Err-clause-calm
returns-in-Err-clause-calm g c alive = refl

pub returns-clause-calm : goal.returns-clause-calm
returns-clause-calm g c alive = c.loop-t.invariant.same
