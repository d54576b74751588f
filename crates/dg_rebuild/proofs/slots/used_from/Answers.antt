use Rattle.std.proofs.Common.{◌≡◌, ◌+◌, Bool, sym, ◌∙◌, ap, arith}
use Rattle.std.specs.Prelude.{if◌then◌else◌}
use Rattle.dg_model.specs.Tables.{used_between}
use Rattle.dg_store.specs.Stores.{table_of}
use Rattle.dg_rebuild.proofs.Counts.{used_by, used_none, used_split}
use Rattle.dg_rebuild.proofs.slots.used_from.Goals as goal
use Rattle.dg_rebuild.proofs.slots.used_from.Goals.{then-is_some, else-is_some}

pub loop-slot-init : goal.loop-slot-init
loop-slot-init g c = record { counted = sym (used_none (table_of c.args.store.now) c.args.boundary c.args.from c.args.from (omega arith)); few = omega arith }

pub loop-slot-preserved : goal.loop-slot-preserved
loop-slot-preserved g c =
    let table = table_of c.args.store.now in
    let slot = c.loop-slot.slot in
    let one = used_by table c.args.boundary slot c.block_in.result c.requires.sound.table c.block_in.ensures.block in
    let split = used_split c.args.boundary c.args.from slot (slot + 1) c.loop-slot.auto.slot (omega arith) table in
    let old = c.loop-slot.invariant in
    elim c.if-is_some.branch [
      | then-is_some w ↦
          let here : used_between table c.args.boundary slot (slot + 1) ≡ 1 =
          one ∙ ap (λ (t : Bool). if t then 1 else 0) (sym c.is_some.ensures ∙ w.if-is_some.true)
          in
          record { counted = omega (arith, split, here, old.counted, w.used-is); few = omega (arith, old.few, w.used-is) }
      | else-is_some w ↦
          let here : used_between table c.args.boundary slot (slot + 1) ≡ 0 =
          one ∙ ap (λ (t : Bool). if t then 1 else 0) (sym c.is_some.ensures ∙ w.if-is_some.false)
          in
          record { counted = omega (arith, split, here, old.counted, w.used-is); few = omega (arith, old.few, w.used-is) }
    ]
