use Rattle.std.proofs.Common.{Some, refl}
use Rattle.dg_claims.proofs.ScanLaws.{stored_source}
use Rattle.dg_claims.proofs.laws.slots_of_inodes.Goals as goal

pub returns : goal.returns
returns c = λ g v number slot low high. stored_source g (Some g) v number slot _ _ g.fsize _ refl low high refl refl refl refl
