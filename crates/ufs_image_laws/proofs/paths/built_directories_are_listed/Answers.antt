use Rattle.std.proofs.Common.{◌≡◌, ◌∙◌, ℕ, [], ◌∷◌, ◌+◌, ap, sym, arith}
use Rattle.std.specs.Prelude.{Ok}
use Rattle.ufs_build.specs.Directories.{directory_entries}
use Rattle.ufs_model.specs.Listings.{ls_of}
use Rattle.ufs_image_laws.specs.Built.{blocks_in, nodes_in}
use Rattle.ufs_image_laws.specs.Lines.{lines_of}
use Rattle.ufs_image_laws.proofs.ListingReads.{item_listed, root_listed}
use Rattle.ufs_image_laws.proofs.SuperLaws.{geometry_of_built}
use Rattle.ufs_image_laws.proofs.paths.built_directories_are_listed.Goals as goal

pub returns : goal.returns
returns c = record {
  root = λ spec items image is divides few.
      let geometry = geometry_of_built spec is.g is.geometry in
      ap (λ (l : ℕ). (ls_of l is.g.size (47 ∷ []) (blocks_in l is.g.size image)).value) (sym geometry.fsize) ∙ root_listed spec items image is divides few;
  items = λ spec items image is k item parent divides few e dir f.
      let geometry = geometry_of_built spec is.g is.geometry in
      let turn : 3 + k ≡ k + 3 = omega arith in
      ap (λ (l : ℕ). (ls_of l is.g.size item.path (blocks_in l is.g.size image)).value) (sym geometry.fsize)
      ∙ item_listed spec items image is k item parent divides few e dir f
      ∙ ap (λ (i : ℕ). Ok (lines_of (nodes_in is) (directory_entries items is.parents i parent))) turn;
}
