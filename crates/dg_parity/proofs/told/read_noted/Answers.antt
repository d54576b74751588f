use Rattle.std.proofs.Common.{inl, inr, ap, sym, ◌∙◌, arith}
use Rattle.dg_parity.specs.declared.groups.Group.{Group}
use Rattle.dg_parity.proofs.RunSteps.{fell-later, idle-calls}
use Rattle.dg_parity.proofs.GroupLemmas.{leaves-then}
use Rattle.dg_parity.proofs.CallLemmas.{told-back}
use Rattle.dg_parity.proofs.MemberSteps.{stands-noted, noted-false}
use Rattle.dg_parity.proofs.told.read_noted.Goals as goal

pub returns-then-not-noted-clause-noted : goal.returns-then-not-noted-clause-noted
returns-then-not-noted-clause-noted g c noted alive = noted-false c.args.group.now c.is_noted-noted.result c.is_noted-noted.ensures c.if-not-noted.true noted

pub returns-then-is_lost-clause-leaves : goal.returns-then-is_lost-clause-leaves
returns-then-is_lost-clause-leaves g c = leaves-then g.R.Rack _ _ _ _ _ _ c.read_member.ensures.leaves c.note.ensures.leaves

pub returns-then-is_lost-clause-stands : goal.returns-then-is_lost-clause-stands
returns-then-is_lost-clause-stands g c bytes all h =
    stands-noted g.R.Rack c.read_member.new.group c.note.new.group c.read_member.new.rack c.note.new.rack c.note.ensures.leaves c.note.ensures.holds bytes all
    (c.read_member.ensures.stands bytes (told-back g.R.Rack _ _ _ _ c.note.ensures.leaves all) h)

pub returns-clause-leaves : goal.returns-clause-leaves
returns-clause-leaves g c = leaves-then g.R.Rack _ _ _ _ _ _ c.read_member.ensures.leaves c.note.ensures.leaves

pub returns-clause-stands : goal.returns-clause-stands
returns-clause-stands g c bytes all h =
    stands-noted g.R.Rack c.read_member.new.group c.note.new.group c.read_member.new.rack c.note.new.rack c.note.ensures.leaves c.note.ensures.holds bytes all
    (c.read_member.ensures.stands bytes (told-back g.R.Rack _ _ _ _ c.note.ensures.leaves all) h)

pub returns-clause-got : goal.returns-clause-got
returns-clause-got g c bytes all h k lt =
    c.if-not-read_member.ensures.got bytes (told-back g.R.Rack _ _ _ _ c.note.ensures.leaves all) h k lt

pub returns-then-not-read_member-clause-calls : goal.returns-then-not-read_member-clause-calls
returns-then-not-read_member-clause-calls g c = omega (arith, c.read_member.ensures.calls)

pub returns-then-not-noted-clause-calls : goal.returns-then-not-noted-clause-calls
returns-then-not-noted-clause-calls g c = omega (arith, c.read_member.ensures.calls)

pub returns-then-is_lost-clause-calls : goal.returns-then-is_lost-clause-calls
returns-then-is_lost-clause-calls g c = omega (arith, c.read_member.ensures.leaves.later.disks, c.read_member.ensures.calls, c.note.ensures.calls)

pub returns-clause-calls : goal.returns-clause-calls
returns-clause-calls g c = omega (arith, c.read_member.ensures.leaves.later.disks, c.read_member.ensures.calls, c.note.ensures.calls)

pub returns-clause-steady : goal.returns-clause-steady
returns-clause-steady g c = elim c.if-not-read_member.ensures.steady [
  | inr fell ↦ inr (fell-later c.args.group.now c.read_member.new.group c.note.new.group c.note.ensures.leaves.later fell)
  | inl same ↦
      let idle = c.note.ensures.idle (ap (λ (k : Group). k.noted) same.0 ∙ sym c.is_noted-noted.ensures ∙ c.if-not-noted.false) in
      inl (idle.0 ∙ same.0, omega (arith, same.1, idle-calls g.R.Rack _ _ idle.1))
]
