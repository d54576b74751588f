use Rattle.std.proofs.Common.{◌-◌}
use Rattle.ufs_model.specs.Claims.{level_of}
use Rattle.ufs_check.proofs.reaches.+first_through.Given as goal

abbrev pub decreases-first_through : goal.decreases-first_through
decreases-first_through l = 4 - level_of l.source
