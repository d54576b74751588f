-- What is wrong with the group blocks of a volume.
use Rattle.std.specs.Prelude.{ℕ}
use Rattle.ufs_model.specs.Blocks.{Volume}
use Rattle.ufs_model.specs.Malformations.{IsBad}
use Rattle.ufs_model.specs.declared.geometries.Geometry.{Geometry}
use Rattle.ufs_model.specs.declared.malformations.BadKind.TheVariants.{GroupMagic, GroupMap}
use Rattle.ufs_model.specs.Audits.{AreAll}
use Rattle.ufs_check.specs.Notes.{AreAllBelow}
use Rattle.ufs_check.specs.declared.verdicts.GroupFaults.{GroupFaults}

-- of each kind all groups
pub record AreGroupFaults (g : Geometry) (v : Volume) (faults : GroupFaults) : Type 0 where
  pub magic : AreAll (IsBad g v GroupMagic) faults.magic.items
  pub map : AreAll (IsBad g v GroupMap) faults.map.items

-- those below a bound
pub record AreGroupFaultsBelow (g : Geometry) (v : Volume) (bound : ℕ) (faults : GroupFaults) : Type 0 where
  pub magic : AreAllBelow (IsBad g v GroupMagic) bound faults.magic.items
  pub map : AreAllBelow (IsBad g v GroupMap) bound faults.map.items
