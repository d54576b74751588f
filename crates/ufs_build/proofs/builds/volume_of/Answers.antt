use Rattle.std.proofs.Common.{◌∙◌, length, ap}
use Rattle.ufs_build.proofs.BuildLaws.{parents_length}
use Rattle.ufs_build.proofs.builds.volume_of.Goals as goal

pub volume_of_items-requires-clause-parents : goal.volume_of_items-requires-clause-parents
volume_of_items-requires-clause-parents c = ap length c.deref.ensures.value ∙ parents_length c.args.items.now c.in-Ok.parents.items c.in-Ok.ensures.found
