use Rattle.std.proofs.Common.{sym, ◌∙◌, ap}
use Rattle.dg_model.specs.Tables.{Table}
use Rattle.dg_store_tests.proofs.refill_tests.reopened.Goals as goal

pub opened-requires-clause-shape : goal.opened-requires-clause-shape
opened-requires-clause-shape g c = ap (λ (t : Table). t.shape) c.into_parts-rack.ensures.map ∙ sym c.shape-shape.ensures

pub opened-requires-clause-table : goal.opened-requires-clause-table
opened-requires-clause-table g c = rw c.into_parts-rack.ensures.map c.requires.table

pub opened-requires-clause-row : goal.opened-requires-clause-row
opened-requires-clause-row g c = rw c.shape-shape.ensures c.into_parts-rack.ensures.row
