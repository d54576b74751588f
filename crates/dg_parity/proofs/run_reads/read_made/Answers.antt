use Rattle.std.proofs.Common.{◌*◌, ◌<◌, ℕ, sym, ap, subst, ◌∙◌, arith}
use Rattle.std.proofs.lemmas.List.{length-take-le}
use Rattle.std.specs.Prelude.{not}
use Rattle.dg_parity.specs.Groups.{is_lost}
use Rattle.dg_parity.specs.Runs.{ScattersRow}
use Rattle.dg_parity.specs.declared.groups.Group.{Group}
use Rattle.dg_parity.proofs.RunSteps.{lost-fell, made-got}
use Rattle.dg_parity.proofs.run_reads.read_made.Goals as goal

pub returns-then-not-add_rows-clause-alive : goal.returns-then-not-add_rows-clause-alive
returns-then-not-add_rows-clause-alive g c =
    sym (ap not (lost-fell c.args.group.now c.add_rows.new.group c.args.o c.add_rows.ensures.leaves.later c.requires.out c.if-not-add_rows.ensures.fell))

pub returns-clause-alive : goal.returns-clause-alive
returns-clause-alive g c = sym (ap (λ (k : Group). not (is_lost k)) c.if-not-add_rows.ensures.done ∙ ap not c.requires.alive)

pub returns-clause-got : goal.returns-clause-got
returns-clause-got g c has all held even =
    made-got c.args.group.now c.args.o c.args.at c.args.window c.clear.new.row c.add_rows.new.sum c.args.buf.now c.add_rows.new.buf c.scatter.new.buf has
    c.requires.disk c.requires.window (omega (arith, c.requires.size, c.requires.below)) even
    (omega (arith, c.add_rows.auto.sum, c.clear.auto.row)) (c.add_rows.auto.sum ∙ c.clear.auto.row ∙ length-take-le (512 * c.args.window.count) _ (omega (arith, c.requires.window.most))) c.add_rows.auto.buf c.scatter.auto.buf
    (λ k lt. c.clear.ensures k (subst (λ (n : ℕ). k < n) c.clear.auto.row lt))
    (λ k lt. c.if-not-add_rows.ensures.added has all held k lt)
    (λ k lt other. c.if-not-add_rows.ensures.got has all held k lt other)
    (subst (λ (k : Group). ScattersRow k.disks c.args.o c.args.window.first c.args.at c.add_rows.new.sum c.add_rows.new.buf c.scatter.new.buf) c.if-not-add_rows.ensures.done c.scatter.ensures)
