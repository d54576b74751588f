use Rattle.dg_placed.proofs.UseLaws.{marks_more}
use Rattle.dg_placed.proofs.files.used_homes.Goals as goal

pub loop-block-preserved : goal.loop-block-preserved
loop-block-preserved c =
    marks_more c.args.homes.now c.args.wants.now c.loop-block.block c.loop-block.used.items c.mark_home_of.new.used.items c.loop-block-test.true c.loop-block.invariant c.mark_home_of.ensures
