use Rattle.std.proofs.Common.{◌+◌, refl}
use Rattle.dg_parity.specs.Stripes.{spot_of}
use Rattle.dg_parity.proofs.PartLemmas.{others-in}
use Rattle.dg_parity.proofs.StripeLemmas.{disk-below}
use Rattle.dg_parity.proofs.run_reads.wanted_out.Goals as goal

pub returns-in_default-clause-none : goal.returns-in_default-clause-none
returns-in_default-clause-none c is k lt =
    c.in_default.ensures.none refl (spot_of c.args.group.now.disks (c.args.at + k)).disk (disk-below c.args.group.now.disks (c.args.at + k) c.args.group.now.least)

pub returns-then-not-is_wanted-clause-none : goal.returns-then-not-is_wanted-clause-none
returns-then-not-is_wanted-clause-none c is k lt =
    others-in c.args.group.now c.in-Some.o (spot_of c.args.group.now.disks (c.args.at + k)).disk c.requires.alive c.in-Some.ensures.some.1 (c.if-not-is_wanted.ensures.no k lt)
