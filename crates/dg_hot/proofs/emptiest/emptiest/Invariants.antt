use Rattle.std.proofs.Common.{◌≡◌, ◌<◌}
use Rattle.std.specs.Prelude.{IfSome}
use Rattle.dg_model.specs.Copies.{emptiest_of}
use Rattle.dg_store.specs.Stores.{shape_of, table_of}
use Rattle.dg_hot.proofs.emptiest.emptiest.Given as goal

abbrev pub invariant-loop-boundary : goal.invariant-loop-boundary
invariant-loop-boundary g l = record {
  best : l.best ≡ emptiest_of (table_of l.store) l.home l.boundary;
  within : IfSome l.best (λ s. s < (shape_of l.store).b);
}
