use Rattle.dg_promise.proofs.CatSteps.{keeps_promise}
use Rattle.dg_promise.proofs.OrderLaws.{Volumes}
use Rattle.dg_promise.proofs.SteadyLaws.{trace_steady}
use Rattle.dg_promise.proofs.chains.runs_keep_their_promise.Goals as goal
use Rattle.dg_promise.specs.Promises.{AreTold}

pub returns : goal.returns
returns c = λ before shape events replies old path reply new is fit trace settled few none step.
    let facts : Volumes = record { loose = c.change_of_loose_blocks.ensures; local = c.parts_are_local.ensures.inode } in
    let steady = trace_steady facts c.targets_of_plans.ensures.plan c.volumes_of_whole_blocks.ensures before shape events replies old is fit trace in
    let whole = c.volumes_of_whole_blocks.ensures old.table.shape.l old.table.shape.n old.blocks steady.size in
    keeps_promise c.files_are_tame.ensures AreTold tt old path reply new steady.sites whole (steady.settled settled) few none step
