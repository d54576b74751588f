use Rattle.dg_promise.proofs.CatSteps.{keeps_promise}
use Rattle.dg_promise.proofs.promises.cat_keeps_its_promise.Goals as goal
use Rattle.dg_promise.specs.Promises.{AreTold}

pub returns : goal.returns
returns c = λ old path reply new table size order few none step.
    let whole = c.volumes_of_whole_blocks.ensures old.table.shape.l old.table.shape.n old.blocks size in
    keeps_promise c.files_are_tame.ensures AreTold tt old path reply new table whole order few none step
