use Rattle.std.proofs.Common.{ℕ, subst, sym}
use Rattle.ufs_model.specs.Malformations.{IsMalformed}
use Rattle.ufs_image_laws.specs.Built.{blocks_in}
use Rattle.ufs_image_laws.proofs.BuiltLaws.{is_built}
use Rattle.ufs_image_laws.proofs.BuiltReads.{bad_by_geometry}
use Rattle.ufs_image_laws.proofs.SoundLaws.{sound}
use Rattle.ufs_image_laws.proofs.SuperLaws.{geometry_of_built}
use Rattle.ufs_image_laws.proofs.structures.built_volumes_are_sound.Goals as goal

pub returns : goal.returns
returns c = λ spec items image e divides few kind number bad.
    let is = is_built spec items image e in
    let geometry = geometry_of_built spec is.g is.geometry in
    sound spec items image is kind number few
    (bad_by_geometry spec items image is kind number divides (subst (λ (n : ℕ). IsMalformed spec.l n (blocks_in spec.l n image) kind number) (sym geometry.size) bad))
