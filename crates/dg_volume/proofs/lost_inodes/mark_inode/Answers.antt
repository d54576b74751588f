use Rattle.std.proofs.Common.{rules}
use Rattle.dg_volume.proofs.LostLaws.{marked_one}
use Rattle.dg_volume.proofs.lost_inodes.mark_inode.Goals as goal

pub returns : goal.returns
returns c = marked_one c.args.marks.now.items c.grow.new.marks.items _ c.args.inode (search rules) c.in_ok-grow.ensures.same (search rules)
