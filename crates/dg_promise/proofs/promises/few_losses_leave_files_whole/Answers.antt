use Rattle.dg_promise.proofs.ValidLaws.{keeps_word}
use Rattle.dg_promise.proofs.promises.few_losses_leave_files_whole.Goals as goal
use Rattle.dg_promise.specs.Promises.{AreTold}

pub returns : goal.returns
returns c = λ state path table size order few.
    let whole = c.volumes_of_whole_blocks.ensures state.table.shape.l state.table.shape.n state.blocks size in
    keeps_word c.files_are_tame.ensures AreTold tt state path table whole order few
