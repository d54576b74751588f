use Rattle.std.proofs.Common.{rules}
use Rattle.dg_volume.proofs.LostLaws.{grown}
use Rattle.dg_volume.proofs.lost_inodes.grow.Goals as goal

pub loop-marks-preserved : goal.loop-marks-preserved
loop-marks-preserved c = grown c.args.marks.now.items c.loop-marks.marks.items c.push.new.self.items (search rules) c.loop-marks.invariant
