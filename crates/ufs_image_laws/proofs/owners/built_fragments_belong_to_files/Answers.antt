use Rattle.std.proofs.Common.{ℕ, ◌+◌, List, subst}
use Rattle.ufs_image_laws.specs.Built.{blocks_in, nodes_in}
use Rattle.ufs_image_laws.specs.Owners.{IsOwned}
use Rattle.ufs_image_laws.proofs.BuiltFiles.{built_whole}
use Rattle.ufs_image_laws.proofs.OwnerLaws.{few_owned, owned_is}
use Rattle.ufs_image_laws.proofs.owners.built_fragments_belong_to_files.Goals as goal

pub returns : goal.returns
returns c = record {
  files = λ spec items image is i f owned. let whole = built_whole spec items image is in
      owned_is is.g (nodes_in is) is.all i f whole.files (subst (λ (bytes : List ℕ). IsOwned is.g (blocks_in is.g.fsize is.g.size bytes) i f) is.bytes owned);
  few = λ spec items image is k node e. let whole = built_whole spec items image is in
      few_owned is.g (nodes_in is) is.all k node (IsOwned is.g (blocks_in is.g.fsize is.g.size image) (2 + k)) whole.files e
      (λ f owned. subst (λ (bytes : List ℕ). IsOwned is.g (blocks_in is.g.fsize is.g.size bytes) (2 + k) f) is.bytes owned);
}
