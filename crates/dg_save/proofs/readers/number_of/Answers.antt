use Rattle.std.proofs.Common.{◌∷◌, [], refl, arith}
use Rattle.std.proofs.lemmas.Nat.{le_bytes_4}
use Rattle.dg_save.proofs.ReadLemmas.{four_bytes}
use Rattle.dg_save.proofs.readers.number_of.Goals as goal

pub returns : goal.returns
returns c =
    le_bytes_4 (c.args.first ∷ c.args.second ∷ c.args.third ∷ c.args.fourth ∷ []) c.from_le_bytes.result refl
    (four_bytes c.args.first c.args.second c.args.third c.args.fourth (omega arith) (omega arith) (omega arith) (omega arith)) c.from_le_bytes.ensures
