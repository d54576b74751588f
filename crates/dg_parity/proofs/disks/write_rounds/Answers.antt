use Rattle.std.proofs.Common.{sym, ◌∙◌, arith}
use Rattle.dg_parity.proofs.GroupLemmas.{leaves-then}
use Rattle.dg_parity.proofs.CallLemmas.{holds-then}
use Rattle.dg_parity.proofs.NoteLemmas.{noted-now}
use Rattle.dg_parity.proofs.disks.write_rounds.Goals as goal

pub returns-clause-leaves : goal.returns-clause-leaves
returns-clause-leaves g c = leaves-then g.R.Rack _ _ _ _ _ _ c.write_round.ensures.leaves c.write_round-2.ensures.leaves

pub returns-clause-noted : goal.returns-clause-noted
returns-clause-noted g c alive =
    noted-now c.args.group.now c.write_round.new.group c.write_round-2.new.group alive c.write_round-2.ensures.leaves.later (sym c.is_noted.ensures ∙ c.if-is_noted.false)
    c.write_round.ensures.noted c.write_round-2.ensures.noted

pub returns-clause-holds : goal.returns-clause-holds
returns-clause-holds g c = holds-then g.R.Rack _ _ _ _ _ _ c.write_round-2.ensures.leaves c.write_round.ensures.holds c.write_round-2.ensures.holds

pub returns-clause-calls : goal.returns-clause-calls
returns-clause-calls g c = omega (arith, c.write_round.ensures.calls, c.write_round-2.ensures.calls, c.write_round.ensures.leaves.later.disks)

pub returns-then-is_noted-clause-calls : goal.returns-then-is_noted-clause-calls
returns-then-is_noted-clause-calls g c = omega (arith, c.write_round.ensures.calls)

pub returns-then-is_lost-2-clause-calls : goal.returns-then-is_lost-2-clause-calls
returns-then-is_lost-2-clause-calls g c = omega (arith, c.write_round.ensures.calls)
