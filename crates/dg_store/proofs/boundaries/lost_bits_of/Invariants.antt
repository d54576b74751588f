use Rattle.std.proofs.Common.{◌≡◌}
use Rattle.dg_store.specs.Stores.{lost_bits}
use Rattle.dg_store.specs.Rows.{members_in}
use Rattle.dg_store.proofs.boundaries.lost_bits_of.Given as goal

abbrev pub invariant-loop-boundary : goal.invariant-loop-boundary
invariant-loop-boundary l = l.bits ≡ lost_bits (members_in l.row.items) l.boundary
