-- An accepted superblock has a geometry of its volume.
use Rattle.std.proofs.Common.{◌≡◌, ◌↔◌, ℕ, List, Result, Ok, Err, IfOk, sym}
use Rattle.ufs_model.specs.Geometries.{IsGeometryOn}
use Rattle.ufs_model.specs.Superblocks.{geometry_in, IsSuperblock}
use Rattle.ufs_model.specs.declared.geometries.BadSuper.{BadSuper}
use Rattle.ufs_model.specs.declared.geometries.Geometry.{Geometry}

pub geometry_on : (bytes : List ℕ) (l n : ℕ) (result : Result Geometry BadSuper) → result ≡ geometry_in bytes l n
    → ((g : Geometry) → (geometry_in bytes l n ≡ Ok g) ↔ IsSuperblock bytes l n g) → IfOk result (λ (g : Geometry). IsGeometryOn l n g)
geometry_on bytes l n (Ok g) is law = ((law g).0 (sym is)).geometry
geometry_on bytes l n (Err bad) is law = _
