-- A malformation of a built volume is one by its geometry.
use Rattle.std.proofs.Common.{◌≡◌, ℕ, ◌%◌, List, sym, subst}
use Rattle.std.specs.Prelude.{Result}
use Rattle.ufs_model.specs.Malformations.{IsBad, IsBadBy, IsMalformed}
use Rattle.ufs_model.specs.Superblocks.{geometry_of}
use Rattle.ufs_model.specs.declared.geometries.BadSuper.{BadSuper}
use Rattle.ufs_model.specs.declared.geometries.Geometry.{Geometry}
use Rattle.ufs_model.specs.declared.malformations.BadKind.{BadKind}
use Rattle.ufs_build.specs.Images.{volume_bytes}
use Rattle.ufs_build.specs.declared.items.Item.{Item}
use Rattle.ufs_build.specs.declared.volumes.Spec.{Spec}
use Rattle.ufs_image_laws.specs.Built.{IsBuilt, blocks_in, nodes_in}
use Rattle.ufs_image_laws.proofs.BuiltLaws.{are_volume}
use Rattle.ufs_image_laws.proofs.SuperLaws.{geometry_of_built}
use Rattle.ufs_image_laws.proofs.SuperReads.{geometry_read}

pub bad_by_geometry : (spec : Spec) (items : List Item) (image : List ℕ) (is : IsBuilt spec items image) (kind : BadKind) (number : ℕ) → 8192 % spec.l ≡ 0
    → IsMalformed spec.l is.g.size (blocks_in spec.l is.g.size image) kind number
    → IsBad is.g (blocks_in is.g.fsize is.g.size (volume_bytes is.g (nodes_in is) is.all)) kind number
unfolding IsMalformed
bad_by_geometry spec items image is kind number divides bad =
    let geometry = geometry_of_built spec is.g is.geometry in
    let v = volume_bytes is.g (nodes_in is) is.all in
    let read = geometry_read spec.l is.g (nodes_in is) is.all (sym geometry.fsize) divides geometry.numbers (are_volume spec items image is) in
    let own = subst (λ (bytes : List ℕ). IsBadBy (blocks_in spec.l is.g.size bytes) ((geometry_of spec.l is.g.size (blocks_in spec.l is.g.size bytes)).value) kind number) is.bytes bad in
    let by = subst (λ (found : Result Geometry BadSuper). IsBadBy (blocks_in spec.l is.g.size v) found kind number) read own in
    subst (λ (l : ℕ). IsBad is.g (blocks_in l is.g.size v) kind number) (sym geometry.fsize) by
