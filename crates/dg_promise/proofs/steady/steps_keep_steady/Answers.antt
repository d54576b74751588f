use Rattle.dg_promise.proofs.OrderLaws.{Volumes}
use Rattle.dg_promise.proofs.SteadyLaws.{step_steady}
use Rattle.dg_promise.proofs.steady.steps_keep_steady.Goals as goal

pub returns : goal.returns
returns c =
    let facts : Volumes = record { loose = c.change_of_loose_blocks.ensures; local = c.parts_are_local.ensures.inode } in
    step_steady facts c.targets_of_plans.ensures.plan c.volumes_of_whole_blocks.ensures
