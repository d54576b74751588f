use Rattle.std.proofs.Common.{sym, ap, ◌∙◌, arith, length, inl}
use Rattle.std.specs.Prelude.{not}
use Rattle.dg_parity.specs.Groups.{is_lost}
use Rattle.dg_parity.specs.declared.groups.Group.{Group}
use Rattle.dg_parity.proofs.PartLemmas.{others-in}
use Rattle.dg_parity.proofs.CallLemmas.{lost-by}
use Rattle.dg_parity.proofs.RunSteps.{right-made, in-most, in-few}
use Rattle.dg_parity.proofs.parts.make_part.Goals as goal

pub add_others-requires-clause-there : goal.add_others-requires-clause-there
add_others-requires-clause-there g c j lt na nb = others-in c.args.group.now c.args.j j c.requires.alive c.requires.out na

pub returns-then-not-add_others-clause-alive : goal.returns-then-not-add_others-clause-alive
returns-then-not-add_others-clause-alive g c =
    let h = c.if-not-add_others.ensures.fell in
    sym (ap not (lost-by c.args.group.now c.add_others.new.group c.args.j c.add_others.ensures.leaves.later c.requires.out (h.0, h.1, h.3)))

pub returns-clause-alive : goal.returns-clause-alive
returns-clause-alive g c = sym (ap (λ (k : Group). not (is_lost k)) c.if-not-add_others.ensures.done ∙ ap not c.requires.alive)

pub returns-clause-got : goal.returns-clause-got
returns-clause-got g c has all held even k lt =
    right-made c.args.group.now has c.args.j c.args.place c.clear.new.row c.add_others.new.row k (length c.args.buf.now) c.requires.disk c.requires.behind even c.requires.below
    (omega (arith, lt, c.add_others.auto.row, c.clear.auto.row)) (c.clear.ensures k (omega (arith, lt, c.add_others.auto.row, c.clear.auto.row))) (c.if-not-add_others.ensures.added has all held k lt)

pub returns-then-not-add_others-clause-calls : goal.returns-then-not-add_others-clause-calls
returns-then-not-add_others-clause-calls g c = omega (arith, c.add_others.ensures.calls, in-most c.args.group.now c.args.group.now.disks)

pub returns-clause-calls : goal.returns-clause-calls
returns-clause-calls g c = omega (arith, c.add_others.ensures.calls, in-most c.args.group.now c.args.group.now.disks)

pub returns-clause-steady : goal.returns-clause-steady
returns-clause-steady g c = inl c.if-not-add_others.ensures.done

pub returns-clause-few : goal.returns-clause-few
returns-clause-few g c = inl (c.if-not-add_others.ensures.done, omega (arith, c.add_others.ensures.calls, in-few c.args.group.now c.args.j c.requires.disk c.requires.out))
