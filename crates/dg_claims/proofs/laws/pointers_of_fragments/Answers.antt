use Rattle.std.proofs.Common.{Some, refl}
use Rattle.dg_claims.proofs.ScanLaws.{pointer_source}
use Rattle.dg_claims.proofs.laws.pointers_of_fragments.Goals as goal

pub returns : goal.returns
returns c = λ g v fragment level at. pointer_source g (Some g) v fragment level at g.fsize _ refl refl refl
