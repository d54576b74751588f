use Rattle.std.proofs.Common.{◌∙◌, ◌≡◌, ◌≤◌, ◌+◌, arith, ap, refl}
use Rattle.dg_store.specs.Stores.{table_of}
use Rattle.dg_model.specs.Tables.{Table, used_in}
use Rattle.dg_model.specs.declared.shapes.Shape.{Shape}
use Rattle.dg_move.proofs.CursorLaws.{least_keeps, least_takes}
use Rattle.dg_move.proofs.cursors.least_cursor.Goals.{then-at-block+then-used-shape, else-at-block, else-at-block-via-then-at-block+else-used-shape, else-at-block-via-else-at-block}
use Rattle.dg_move.proofs.cursors.least_cursor.Goals as goal

pub loop-boundary-preserved : goal.loop-boundary-preserved
loop-boundary-preserved g c =
    let table = table_of c.args.store.now in
    let k = c.loop-boundary.boundary in
    let slots : c.shape-shape.result.now.k ≡ table.shape.k = ap (λ (s : Shape). s.k) c.shape-shape.ensures in
    elim c.if-at-block.branch [
      | then-at-block+then-used-shape w ↦
          let used = w.used.ensures.used ∙ ap (λ (t : Table). used_in t k) w.map.ensures in
          let room : used_in table k ≤ table.shape.k = omega (arith, w.if-used-shape.true, used, slots) in
          rw (w.least-is, w.block-is) (least_takes table c.args.next.now k c.loop-boundary.least c.loop-boundary.block c.loop-boundary.invariant (k + 1) refl w.if-at-block.true room)
      | else-at-block w ↦
          rw (w.least-is, w.block-is)
          (least_keeps table c.args.next.now k c.loop-boundary.least c.loop-boundary.block c.loop-boundary.invariant (k + 1) refl
          (λ less room. elim w.else-at-block.branch [
            | else-at-block-via-then-at-block+else-used-shape v ↦
                let used = v.used.ensures.used ∙ ap (λ (t : Table). used_in t k) v.map.ensures in
                absurd (omega (arith, v.if-used-shape.false, used, slots, room))
            | else-at-block-via-else-at-block v ↦ absurd (omega (arith, v.if-at-block.false, less))
          ]))
    ]
