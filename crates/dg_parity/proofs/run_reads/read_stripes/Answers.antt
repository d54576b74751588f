use Rattle.std.proofs.Common.{arith}
use Rattle.dg_parity.proofs.GroupLemmas.{leaves-then}
use Rattle.dg_parity.proofs.CallLemmas.{told-back, holds-then, even-later}
use Rattle.dg_parity.proofs.RunSteps.{in-most, reads-later}
use Rattle.dg_parity.proofs.run_reads.read_stripes.Goals as goal

pub returns-in-Some-clause-calls : goal.returns-in-Some-clause-calls
returns-in-Some-clause-calls g c = omega (arith, c.read_made.ensures.calls, in-most c.args.group.now c.args.group.now.disks)

pub returns-then-read_plain-clause-calls : goal.returns-then-read_plain-clause-calls
returns-then-read_plain-clause-calls g c = omega (arith, c.read_plain.ensures.calls, in-most c.args.group.now c.args.group.now.disks)

pub returns-then-is_lost-clause-calls : goal.returns-then-is_lost-clause-calls
returns-then-is_lost-clause-calls g c = omega (arith, c.read_plain.ensures.calls, in-most c.args.group.now c.args.group.now.disks)

pub returns-then-not-read_made-clause-leaves : goal.returns-then-not-read_made-clause-leaves
returns-then-not-read_made-clause-leaves g c = leaves-then g.R.Rack _ _ _ _ _ _ c.read_plain.ensures.leaves c.read_made-2.ensures.leaves

pub returns-then-not-read_made-clause-holds : goal.returns-then-not-read_made-clause-holds
returns-then-not-read_made-clause-holds g c = holds-then g.R.Rack _ _ _ _ _ _ c.read_made-2.ensures.leaves c.read_plain.ensures.holds c.read_made-2.ensures.holds

pub returns-then-not-read_made-clause-calls : goal.returns-then-not-read_made-clause-calls
returns-then-not-read_made-clause-calls g c =
    omega (
      arith,
      c.read_plain.ensures.calls,
      in-most c.args.group.now c.args.group.now.disks,
      c.read_made-2.ensures.calls,
      in-most c.read_plain.new.group c.read_plain.new.group.disks,
      c.read_plain.ensures.leaves.later.disks,
    )

pub returns-clause-leaves : goal.returns-clause-leaves
returns-clause-leaves g c = leaves-then g.R.Rack _ _ _ _ _ _ c.read_plain.ensures.leaves c.read_made-2.ensures.leaves

pub returns-clause-holds : goal.returns-clause-holds
returns-clause-holds g c = holds-then g.R.Rack _ _ _ _ _ _ c.read_made-2.ensures.leaves c.read_plain.ensures.holds c.read_made-2.ensures.holds

pub returns-clause-got : goal.returns-clause-got
returns-clause-got g c has all held even =
    reads-later _ _ c.args.at has c.read_made-2.new.buf c.read_plain.ensures.leaves.later.disks
    (c.if-not-read_made.ensures.got has all
    (c.read_plain.ensures.holds has (told-back g.R.Rack _ _ _ _ c.read_made-2.ensures.leaves all) held)
    (even-later _ _ has c.read_plain.ensures.leaves.later even))

pub returns-clause-calls : goal.returns-clause-calls
returns-clause-calls g c =
    omega (
      arith,
      c.read_plain.ensures.calls,
      in-most c.args.group.now c.args.group.now.disks,
      c.read_made-2.ensures.calls,
      in-most c.read_plain.new.group c.read_plain.new.group.disks,
      c.read_plain.ensures.leaves.later.disks,
    )
