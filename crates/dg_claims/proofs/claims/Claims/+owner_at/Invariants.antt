use Rattle.std.proofs.Common.{◌-◌}
use Rattle.dg_claims.proofs.claims.Claims.+owner_at.Given as goal

abbrev pub decreases-owner_at : goal.decreases-owner_at
decreases-owner_at l = 4 - l.level
