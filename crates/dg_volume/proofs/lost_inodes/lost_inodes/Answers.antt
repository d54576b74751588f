use Rattle.std.proofs.Common.{◌≡◌, ◌∙◌, ◌↔◌, arith, Bool, List, ℕ, subst, sym, true, rules}
use Rattle.dg_model.specs.Marks.{is_marked}
use Rattle.dg_volume.proofs.LostLaws.{below_next, below_none}
use Rattle.dg_volume.specs.LostFiles.{LostBelow}
use Rattle.dg_volume.proofs.lost_inodes.lost_inodes.Goals as goal

pub loop-block-init : goal.loop-block-init
loop-block-init c =
    subst (λ (l : List Bool). (i : ℕ) → (is_marked l i ≡ true) ↔ LostBelow c.args.inference.now c.args.cut.now 0 i) (sym c.new-marks.ensures.items)
    (below_none c.args.inference.now c.args.cut.now)

pub loop-block-preserved : goal.loop-block-preserved
loop-block-preserved c =
    below_next c.args.inference.now c.args.cut.now c.loop-block.marks.items c.mark_if.new.marks.items c.loop-block.block c.loop-block.invariant c.in_ok-mark_if.ensures

pub returns : goal.returns
returns c =
    let end : c.loop-block.block ≡ c.args.count = search (rules, arith) in
    subst (λ (n : ℕ). (i : ℕ) → (is_marked c.loop-block.marks.items i ≡ true) ↔ LostBelow c.args.inference.now c.args.cut.now n i) (end ∙ sym c.requires) c.loop-block.invariant
