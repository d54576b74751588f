use Rattle.std.proofs.Common.{◌≡◌, ◌∙◌, ◌∷◌, [], Some}
use Rattle.dg_words.proofs.Takes.{some_same}
use Rattle.dg_words.proofs.values.path_value.Goals as goal

pub returns-in-Ok : goal.returns-in-Ok
returns-in-Ok c =
    let found : _ ≡ Some c.found.result.now ∷ [] = cc in
    some_same _ (c.found.result.now ∷ []) (c.in-Ok.ensures.ok.same ∙ found)
