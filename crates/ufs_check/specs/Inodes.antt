-- What is wrong with the inodes of a volume.
use Rattle.std.specs.Prelude.{ℕ}
use Rattle.ufs_model.specs.Blocks.{Volume}
use Rattle.ufs_model.specs.Malformations.{IsBad}
use Rattle.ufs_model.specs.declared.geometries.Geometry.{Geometry}
use Rattle.ufs_model.specs.declared.malformations.BadKind.TheVariants.{WrongType, Filesize, Past, Wild, Align, Run, Unused}
use Rattle.ufs_model.specs.Audits.{AreAll}
use Rattle.ufs_check.specs.Notes.{AreAllBelow}
use Rattle.ufs_check.specs.declared.verdicts.InodeFaults.{InodeFaults}

-- of each kind all inodes
pub record AreInodeFaults (g : Geometry) (v : Volume) (faults : InodeFaults) : Type 0 where
  pub wrong_type : AreAll (IsBad g v WrongType) faults.wrong_type.items
  pub filesize : AreAll (IsBad g v Filesize) faults.filesize.items
  pub past : AreAll (IsBad g v Past) faults.past.items
  pub wild : AreAll (IsBad g v Wild) faults.wild.items
  pub align : AreAll (IsBad g v Align) faults.align.items
  pub run : AreAll (IsBad g v Run) faults.run.items
  pub unused : AreAll (IsBad g v Unused) faults.unused.items

-- those below a bound, of the kinds that only inodes with pointers have
pub record ArePointedFaultsBelow (g : Geometry) (v : Volume) (bound : ℕ) (faults : InodeFaults) : Type 0 where
  pub filesize : AreAllBelow (IsBad g v Filesize) bound faults.filesize.items
  pub past : AreAllBelow (IsBad g v Past) bound faults.past.items
  pub wild : AreAllBelow (IsBad g v Wild) bound faults.wild.items
  pub align : AreAllBelow (IsBad g v Align) bound faults.align.items
  pub run : AreAllBelow (IsBad g v Run) bound faults.run.items

-- the same of all kinds
pub record AreInodeFaultsBelow (g : Geometry) (v : Volume) (bound : ℕ) (faults : InodeFaults) : Type 0 where
  pub wrong_type : AreAllBelow (IsBad g v WrongType) bound faults.wrong_type.items
  pub unused : AreAllBelow (IsBad g v Unused) bound faults.unused.items
  pub pointed : ArePointedFaultsBelow g v bound faults
