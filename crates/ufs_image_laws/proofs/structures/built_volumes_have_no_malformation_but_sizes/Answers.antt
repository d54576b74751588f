use Rattle.ufs_image_laws.proofs.BuiltReads.{bad_by_geometry}
use Rattle.ufs_image_laws.proofs.SoundLaws.{no_kind}
use Rattle.ufs_image_laws.proofs.structures.built_volumes_have_no_malformation_but_sizes.Goals as goal

pub returns : goal.returns
returns c = λ spec items image is kind number divides other bad. no_kind spec items image is kind number other (bad_by_geometry spec items image is kind number divides bad)
