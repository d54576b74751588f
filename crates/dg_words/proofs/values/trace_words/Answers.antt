use Rattle.std.proofs.Common.{◌≡◌, ◌∙◌, ◌∷◌, [], Some}
use Rattle.dg_words.proofs.Takes.{some_same}
use Rattle.dg_words.proofs.values.trace_words.Goals as goal

pub returns-in-Ok : goal.returns-in-Ok
returns-in-Ok c =
    let found : _ ≡ Some c.found.result.now ∷ Some c.found-in-Ok.result.now ∷ Some c.found-in-Ok-2.result.now ∷ Some c.found-in-Ok-3.result.now ∷ [] = cc in
    some_same _ (c.found.result.now ∷ c.found-in-Ok.result.now ∷ c.found-in-Ok-2.result.now ∷ c.found-in-Ok-3.result.now ∷ []) (c.in-Ok.ensures.ok.same ∙ found)
