use Rattle.ufs_model.specs.Blocks.{Volume}
use Rattle.ufs_model.specs.declared.geometries.Geometry.{Geometry}
use Rattle.ufs_check.specs.Links.{ParentsBefore}
use Rattle.ufs_check.specs.OwnedEntries.{AreOwned}
use Rattle.ufs_check.proofs.parents.add_links.Given as goal

abbrev pub invariant-loop-entry : goal.invariant-loop-entry
invariant-loop-entry l = (g : Geometry) (v : Volume) → AreOwned g v l.i l.entries → ParentsBefore g v l.i 0 l.fn.parents → ParentsBefore g v l.i l.entry-index l.parents
