use Rattle.std.proofs.Common.{◌<◌, length, ap, sym, ◌∙◌, arith}
use Rattle.dg_model.specs.Plans.{each_ok, place_kept}
use Rattle.dg_plan.proofs.EachLaws.{block_no, block_yes, kept_no_from}
use Rattle.dg_plan.proofs.kept.place_kept.Goals as goal
use Rattle.dg_plan.proofs.kept.place_kept.Goals.{else-has_places-via-then-has_places+else-not-place_block, else-has_places-via-else-has_places}

pub returns-then-not-place_block-clause-none : goal.returns-then-not-place_block-clause-none
returns-then-not-place_block-clause-none c =
    let k = c.loop-block.block in
    let below : k < length c.args.wants.now = omega (arith, c.loop-block-test.true, c.requires.blocks) in
    λ _. sym c.loop-block.invariant.left
    ∙ block_no c.args.shape.now c.args.wants.now k c.loop-block.rooms.items below (sym c.has_places.ensures ∙ c.if-has_places.true) (c.place_block.ensures.none c.if-not-place_block.true)

pub loop-block-preserved : goal.loop-block-preserved
loop-block-preserved c =
    let k = c.loop-block.block in
    let s = c.args.shape.now in
    let wants = c.args.wants.now in
    let below : k < length wants = omega (arith, c.loop-block-test.true, c.requires.blocks) in
    elim c.else-has_places.branch [
      | else-has_places-via-then-has_places+else-not-place_block w ↦
          rw w.rooms-is
          (record {
            left = sym (block_yes s wants k c.loop-block.rooms.items w.place_block.new.rooms.items below (sym c.has_places.ensures ∙ w.if-has_places.true) (w.place_block.ensures.placed w.if-not-place_block.false)) ∙ c.loop-block.invariant.left;
            size = w.place_block.ensures.size ∙ c.loop-block.invariant.size;
          })
      | else-has_places-via-else-has_places w ↦
          rw w.rooms-is
          (record {
            left = ap (λ xs. each_ok place_kept xs c.loop-block.rooms.items) (sym (kept_no_from s wants k below (sym c.has_places.ensures ∙ w.if-has_places.false))) ∙ c.loop-block.invariant.left;
            size = c.loop-block.invariant.size;
          })
    ]
