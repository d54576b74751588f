use Rattle.std.proofs.Common.{subst, arith}
use Rattle.dg_parity.specs.Runs.{ScattersRow}
use Rattle.dg_parity.specs.declared.groups.Group.{Group}
use Rattle.dg_parity.proofs.RunSteps.{reads-on}
use Rattle.dg_parity.proofs.run_reads.read_row.Goals as goal

pub returns-then-not-read_disk-clause-fell : goal.returns-then-not-read_disk-clause-fell
returns-then-not-read_disk-clause-fell g c = record { disk = c.args.j; before = c.requires.there; now = c.if-not-read_disk.ensures.fell }

pub returns-clause-own : goal.returns-clause-own
returns-clause-own g c has all held =
    reads-on c.args.group.now.disks c.args.j c.args.at c.args.window c.read_disk.new.buf c.args.buf.now c.scatter.new.buf has c.args.group.now.least c.requires.window
    (omega (arith, c.read_disk.auto.buf, c.requires.size)) c.scatter.auto.buf
    (subst (λ (k : Group). ScattersRow k.disks c.args.j c.args.window.first c.args.at c.read_disk.new.buf c.args.buf.now c.scatter.new.buf) c.if-not-read_disk.ensures.done c.scatter.ensures)
    (λ k lt. c.if-not-read_disk.ensures.got has all held k lt)
