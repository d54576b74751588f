use Rattle.dg_store.specs.Stores.{table_of}
use Rattle.dg_volume.proofs.WantLaws.{AreFirst}
use Rattle.dg_volume.proofs.plans.all_wants.Given as goal

abbrev pub invariant-loop-block : goal.invariant-loop-block
invariant-loop-block g l = AreFirst (table_of l.store) l.inference l.wants.items l.block
