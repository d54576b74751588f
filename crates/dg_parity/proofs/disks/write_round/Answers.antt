use Rattle.std.proofs.Common.{ℕ, inl, inr, subst, arith}
use Rattle.dg_parity.specs.Groups.{MostCalls}
use Rattle.dg_parity.proofs.GroupLemmas.{leaves-then}
use Rattle.dg_parity.proofs.HoldLemmas.{holds-alike}
use Rattle.dg_parity.proofs.NoteLemmas.{renewed, settled, settled-holds, fell-alike}
use Rattle.dg_parity.proofs.disks.write_round.Goals as goal

pub write_each-requires : goal.write_each-requires
write_each-requires g c = record {
  ready = (renewed g.R.Rack c.args.group.now c.renew.new.self c.args.rack.now c.renew.ensures.same c.renew.ensures.later c.renew.ensures.noted c.requires.ready).ready;
  renewed = c.renew.ensures.noted;
}

pub returns-then-not-write_each-clause-leaves : goal.returns-then-not-write_each-clause-leaves
returns-then-not-write_each-clause-leaves g c =
    leaves-then g.R.Rack _ _ _ _ _ _ (renewed g.R.Rack c.args.group.now c.renew.new.self c.args.rack.now c.renew.ensures.same c.renew.ensures.later c.renew.ensures.noted c.requires.ready)
    c.write_each.ensures.leaves

pub returns-then-not-write_each-clause-noted : goal.returns-then-not-write_each-clause-noted
returns-then-not-write_each-clause-noted g c = inr (fell-alike c.args.group.now c.renew.new.self c.write_each.new.group c.renew.ensures.same c.if-not-write_each.ensures.fell)

pub returns-then-not-write_each-clause-holds : goal.returns-then-not-write_each-clause-holds
returns-then-not-write_each-clause-holds g c has all held =
    c.write_each.ensures.holds has all (holds-alike g.R.Rack c.args.group.now c.renew.new.self c.args.rack.now has c.renew.ensures.same c.renew.ensures.later held)

pub returns-then-not-write_each-clause-calls : goal.returns-then-not-write_each-clause-calls
returns-then-not-write_each-clause-calls g c =
    subst (λ (n : ℕ). MostCalls g.R.Rack n c.args.rack.now c.write_each.new.rack) c.renew.ensures.same.disks c.write_each.ensures.calls

pub returns-clause-leaves : goal.returns-clause-leaves
returns-clause-leaves g c =
    leaves-then g.R.Rack _ _ _ _ _ _ (leaves-then g.R.Rack _ _ _ _ _ _
    (renewed g.R.Rack c.args.group.now c.renew.new.self c.args.rack.now c.renew.ensures.same c.renew.ensures.later c.renew.ensures.noted c.requires.ready)
    c.write_each.ensures.leaves)
    (settled g.R.Rack c.renew.new.self c.write_each.new.group c.settle.new.self c.write_each.new.rack c.if-not-write_each.ensures.done c.renew.ensures.first c.settle.ensures.same c.settle.ensures.epoch
    c.if-not-write_each.ensures.heads c.write_each.ensures.leaves.ready)

pub returns-clause-noted : goal.returns-clause-noted
returns-clause-noted g c = inl c.settle.ensures.noted

pub returns-clause-holds : goal.returns-clause-holds
returns-clause-holds g c has all held =
    settled-holds g.R.Rack c.args.group.now c.renew.new.self c.write_each.new.group c.settle.new.self c.args.rack.now c.write_each.new.rack has
    c.renew.ensures.same c.renew.ensures.later c.settle.ensures.same (omega (arith, c.settle.ensures.epoch))
    (settled g.R.Rack c.renew.new.self c.write_each.new.group c.settle.new.self c.write_each.new.rack c.if-not-write_each.ensures.done c.renew.ensures.first c.settle.ensures.same c.settle.ensures.epoch
    c.if-not-write_each.ensures.heads c.write_each.ensures.leaves.ready)
    c.write_each.ensures.holds all held

pub returns-clause-calls : goal.returns-clause-calls
returns-clause-calls g c =
    subst (λ (n : ℕ). MostCalls g.R.Rack n c.args.rack.now c.write_each.new.rack) c.renew.ensures.same.disks c.write_each.ensures.calls
