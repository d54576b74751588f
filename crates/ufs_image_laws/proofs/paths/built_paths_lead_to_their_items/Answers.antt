use Rattle.std.proofs.Common.{◌≡◌, ◌∙◌, ℕ, ◌+◌, ap, sym, arith}
use Rattle.std.specs.Prelude.{Ok}
use Rattle.ufs_model.specs.Inodes.{inode_of}
use Rattle.ufs_model.specs.Paths.{look_of}
use Rattle.ufs_image_laws.specs.Built.{blocks_in}
use Rattle.ufs_image_laws.proofs.LookLaws.{item_looked}
use Rattle.ufs_image_laws.proofs.SuperLaws.{geometry_of_built}
use Rattle.ufs_image_laws.proofs.paths.built_paths_lead_to_their_items.Goals as goal

pub returns : goal.returns
returns c = λ spec items image is k item inode divides few e here.
    let geometry = geometry_of_built spec is.g is.geometry in
    let turn : k + 3 ≡ 3 + k = omega arith in
    let own = ap (λ (i : ℕ). (inode_of is.g i (blocks_in is.g.fsize is.g.size image)).value) (sym turn)
    ∙ ap (λ (l : ℕ). (inode_of is.g (k + 3) (blocks_in l is.g.size image)).value) geometry.fsize ∙ here in
    ap (λ (l : ℕ). (look_of l is.g.size item.path (blocks_in l is.g.size image)).value) (sym geometry.fsize)
    ∙ item_looked spec items image is k item inode divides few e own
    ∙ ap (λ (i : ℕ). Ok (i, inode)) (sym turn)
