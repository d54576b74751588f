use Rattle.ufs_image_laws.proofs.SuperLaws.{geometry_of_built}
use Rattle.ufs_image_laws.proofs.superblocks.geometries_are_of_specs.Goals as goal

pub returns : goal.returns
returns c = λ spec g e. let is = geometry_of_built spec g e in
    record { tests = is.on; endian = is.endian; fsize = is.fsize; frag = is.frag; ncg = is.ncg; ipg = is.ipg; fpg = is.fpg; size = is.size }
