use Rattle.dg_promise.proofs.UncutBlocks.{uncut_stays}
use Rattle.dg_promise.proofs.cut_blocks.uncut_blocks_stay.Goals as goal

pub returns : goal.returns
returns c = λ old r c0 new size step. uncut_stays old r c0 new size step.1
