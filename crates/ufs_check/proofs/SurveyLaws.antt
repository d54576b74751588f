-- What is fetched for the notes has the volume's structure.
use Rattle.std.proofs.Common.{ℕ, List}
use Rattle.ufs_model.specs.Blocks.{Volume}
use Rattle.ufs_model.specs.Metadata.{IsMetadataBy, IsStructure}
use Rattle.ufs_model.specs.declared.geometries.Geometry.{Geometry}
use Rattle.dg_claims.specs.Tables.{ClaimTable}
use Rattle.ufs_pointer.specs.Fetches.{FetchesOnly}
use Rattle.ufs_check.specs.Verdicts.{IsOnView}
use Rattle.ufs_check.proofs.CheckLaws.{metadata_structure}
use Rattle.ufs_check.proofs.PassLaws.{only_told}

-- what is fetched of the metadata later
pub notes_only : {S : Type 0} {fetched : S → List ℕ → S → Type 0} {stands still : Volume → Type 0} {tells : Type 0} {old new : S} (l n : ℕ) (g : Geometry) (table : ClaimTable)
    → ((v : Volume) → stands v → still v) → FetchesOnly fetched still tells (IsMetadataBy g) old new → FetchesOnly fetched (IsOnView stands l n g table) tells (IsStructure l n) old new
notes_only l n g table keeps one = only_told (IsMetadataBy g) (IsStructure l n) (λ told v on. (keeps v (on.0), λ block is. metadata_structure l n g v block (on.2) is)) one
