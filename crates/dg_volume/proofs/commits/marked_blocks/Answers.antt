use Rattle.std.proofs.Common.{◌∙◌, ℕ, Bool, List, false, [], ◌∷◌, ◌++◌, sym, ap, arith, if◌then◌else◌}
use Rattle.std.proofs.lemmas.List.{get_or_default}
use Rattle.dg_model.specs.Marks.{is_marked}
use Rattle.dg_volume.proofs.LeftLists.{filter_more}
use Rattle.dg_volume.proofs.commits.marked_blocks.Goals as goal

pub loop-block-preserved : goal.loop-block-preserved
loop-block-preserved c =
    let marks = c.args.marks.now in
    c.in_ok-push_marked.ensures
    ∙ ap (λ (mark : Bool). c.loop-block.blocks.items ++ (if mark then c.loop-block.block ∷ [] else [])) (get_or_default marks c.loop-block.block _ false (omega arith))
    ∙ ap (λ (xs : List ℕ). xs ++ (if is_marked marks c.loop-block.block then c.loop-block.block ∷ [] else [])) c.loop-block.invariant
    ∙ sym (filter_more (λ b. is_marked marks b) c.loop-block.block)
