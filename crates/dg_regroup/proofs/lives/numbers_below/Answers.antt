use Rattle.std.proofs.Common.{◌∙◌, ◌++◌, ◌∷◌, [], ℕ, List, sym, ap}
use Rattle.dg_regroup.proofs.LeftLemmas.{range_more}
use Rattle.dg_regroup.proofs.lives.numbers_below.Goals as goal

pub loop-number-preserved : goal.loop-number-preserved
loop-number-preserved c =
    c.in-Ok.ensures.items ∙ ap (λ (xs : List ℕ). xs ++ c.loop-number.number ∷ []) c.loop-number.invariant ∙ sym (range_more c.loop-number.number)
