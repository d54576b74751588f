use Rattle.std.proofs.Common.{◌∙◌, ℕ, ap, sym}
use Rattle.ufs_model.specs.Paths.{cat_of}
use Rattle.ufs_image_laws.specs.Built.{blocks_in}
use Rattle.ufs_image_laws.proofs.BuiltLaws.{is_built}
use Rattle.ufs_image_laws.proofs.LookLaws.{item_catted}
use Rattle.ufs_image_laws.proofs.SuperLaws.{geometry_of_built}
use Rattle.ufs_image_laws.proofs.paths.built_files_are_read.Goals as goal

pub returns : goal.returns
returns c = λ spec items image k item e divides few there file.
    let is = is_built spec items image e in
    let geometry = geometry_of_built spec is.g is.geometry in
    ap (λ (n : ℕ). (cat_of spec.l n item.path (blocks_in spec.l n image)).value) (sym geometry.size)
    ∙ ap (λ (l : ℕ). (cat_of l is.g.size item.path (blocks_in l is.g.size image)).value) (sym geometry.fsize)
    ∙ item_catted spec items image is k item divides few there file
