use Rattle.std.proofs.Common.{◌+◌, ◌*◌, ℕ, arith}
use Rattle.dg_parity.proofs.PartLemmas.{others-in}
use Rattle.dg_parity.proofs.RunSteps.{added-none, added-own}
use Rattle.dg_parity.proofs.run_reads.add_row.Goals as goal

pub returns-then-j-o-clause-own : goal.returns-then-j-o-clause-own
returns-then-j-o-clause-own g c has all held ne = absurd (ne c.if-j-o.true)

pub returns-then-j-o-clause-added : goal.returns-then-j-o-clause-added
returns-then-j-o-clause-added g c has all held k lt = added-none (λ (i : ℕ). has i (512 + 512 * c.args.window.first + k)) c.args.o c.args.j _ c.if-j-o.true

pub read_row-requires-clause-there : goal.read_row-requires-clause-there
read_row-requires-clause-there g c = others-in c.args.group.now c.args.o c.args.j c.requires.alive c.requires.out c.if-j-o.false

pub returns-then-not-read_row-clause-idle : goal.returns-then-not-read_row-clause-idle
returns-then-not-read_row-clause-idle g c e = absurd (c.if-j-o.false e)

pub returns-clause-idle : goal.returns-clause-idle
returns-clause-idle g c e = absurd (c.if-j-o.false e)

pub returns-clause-own : goal.returns-clause-own
returns-clause-own g c has all held ne = c.if-not-read_row.ensures.own has all held

pub returns-clause-added : goal.returns-clause-added
returns-clause-added g c has all held k lt =
    added-own (λ (i : ℕ). has i (512 + 512 * c.args.window.first + k)) c.args.o c.args.j _ _ _ c.if-j-o.false
    (c.xor_into.ensures k (omega (arith, lt, c.xor_into.auto.row)))
    (c.if-not-read_row.ensures.row has all held k (omega (arith, lt, c.xor_into.auto.row, c.read_row.auto.row, c.requires.size, c.requires.sum)))
