use Rattle.std.proofs.Common.{arith}
use Rattle.dg_volume.proofs.BesideSteps.{marked_all}
use Rattle.dg_volume.proofs.besides.marks_of.Goals as goal

pub returns-clause-marked : goal.returns-clause-marked
returns-clause-marked c = marked_all c.args.blocks.now c.args.count c.loop-place.place c.loop-place.marks.items c.loop-place.invariant (omega arith) c.requires.ascend
