use Rattle.std.proofs.Math.Nat.{mul-le-mul_right}
use Rattle.ufs_pointer.proofs.levels.area_bytes.Goals as goal

pub returns-clause-fits : goal.returns-clause-fits
returns-clause-fits c = mul-le-mul_right c.args.l c.requires
