-- A superblock that is refused makes its volume bad.
use Rattle.std.proofs.Common.{ℕ, Bool, Some, None, Result}
use Rattle.ufs_model.proofs.ReadingLaws.{reads_map, reads_none}
use Rattle.ufs_model.specs.Blocks.{Volume}
use Rattle.ufs_model.specs.Paths.{or_bad_super, volume_geometry}
use Rattle.ufs_model.specs.Readings.{Grows, ReadsAs}
use Rattle.ufs_model.specs.Superblocks.{geometry_of}
use Rattle.ufs_model.specs.declared.geometries.BadSuper.{BadSuper}
use Rattle.ufs_model.specs.declared.geometries.Geometry.{Geometry}

pub geometry_read : {stands : Volume → Type 0} {tells : Type 0} {before after : ℕ → Bool} (l n : ℕ) (found : Result Geometry BadSuper) → Grows before after
    → ReadsAs stands before tells after (geometry_of l n) (Some found) → ReadsAs stands before tells after (volume_geometry l n) (Some (or_bad_super found))
unfolding volume_geometry
geometry_read l n found grows reads = reads_map or_bad_super grows reads

pub geometry_unread : {stands : Volume → Type 0} {tells : Type 0} {before after : ℕ → Bool} (l n : ℕ)
    → ReadsAs stands before tells after (geometry_of l n) None → ReadsAs stands before tells after (volume_geometry l n) None
unfolding volume_geometry
geometry_unread l n reads = reads_none _ reads
