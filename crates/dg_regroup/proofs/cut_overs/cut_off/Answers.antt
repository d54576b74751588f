use Rattle.std.proofs.Common.{◌∙◌, ◌++◌, ℕ, List, refl, sym, ap}
use Rattle.std.specs.Prelude.{option_to_list}
use Rattle.dg_regroup.proofs.CutLemmas.{cut_more}
use Rattle.dg_regroup.proofs.cut_overs.cut_off.Goals as goal

pub loop-block-preserved : goal.loop-block-preserved
loop-block-preserved c =
    c.in_ok-push_some.ensures
    ∙ ap (λ (xs : List ℕ). xs ++ option_to_list c.cut_block.result) c.loop-block.invariant
    ∙ rw c.cut_block.ensures (sym (cut_more c.args.map.now c.args.now.now c.loop-block.block _ refl))
