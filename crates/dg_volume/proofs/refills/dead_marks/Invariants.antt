use Rattle.dg_store.specs.Stores.{table_of}
use Rattle.dg_volume.proofs.RefillLaws.{AreFirstMarks}
use Rattle.dg_volume.proofs.refills.dead_marks.Given as goal

abbrev pub invariant-loop-block : goal.invariant-loop-block
invariant-loop-block g l = AreFirstMarks (table_of l.store) l.inference l.marks.items l.block
