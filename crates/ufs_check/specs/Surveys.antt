-- All that is wrong with a volume, and what is noted beside it.
use Rattle.ufs_model.specs.Audits.{AreAll, IsUnclaimed, IsUnnamed}
use Rattle.ufs_model.specs.Blocks.{Volume}
use Rattle.ufs_model.specs.declared.geometries.Geometry.{Geometry}
use Rattle.ufs_check.specs.Verdicts.{AreAllFaults}
use Rattle.ufs_check.specs.declared.faults.Faults.{Faults}
use Rattle.ufs_check.specs.declared.surveys.Notes.{Notes}

-- what is noted
pub record AreNotes (g : Geometry) (v : Volume) (notes : Notes) : Type 0 where
  pub unnamed : AreAll (IsUnnamed g v) notes.unnamed.items
  pub unclaimed : AreAll (IsUnclaimed g v) notes.unclaimed.items

-- all of it
pub record IsSurvey (g : Geometry) (v : Volume) (found : Faults) (noted : Notes) : Type 0 where
  pub faults : AreAllFaults g v found
  pub notes : AreNotes g v noted
