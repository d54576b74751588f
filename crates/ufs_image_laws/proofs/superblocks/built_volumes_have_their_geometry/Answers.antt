use Rattle.std.proofs.Common.{◌∙◌, ℕ, List, ap, sym}
use Rattle.ufs_model.specs.Superblocks.{geometry_of}
use Rattle.ufs_image_laws.specs.Built.{blocks_in, nodes_in}
use Rattle.ufs_image_laws.proofs.BuiltLaws.{are_volume}
use Rattle.ufs_image_laws.proofs.SuperLaws.{geometry_of_built}
use Rattle.ufs_image_laws.proofs.SuperReads.{geometry_read}
use Rattle.ufs_image_laws.proofs.superblocks.built_volumes_have_their_geometry.Goals as goal

pub returns : goal.returns
returns c = λ spec items image is divides.
    let geometry = geometry_of_built spec is.g is.geometry in
    ap (λ (bytes : List ℕ). (geometry_of spec.l is.g.size (blocks_in spec.l is.g.size bytes)).value) is.bytes
    ∙ geometry_read spec.l is.g (nodes_in is) is.all (sym geometry.fsize) divides geometry.numbers (are_volume spec items image is)
