use Rattle.std.proofs.Common.{◌∙◌, ℕ, List, ap, sym, subst, get_or, length}
use Rattle.ufs_image_laws.specs.Built.{nodes_in, parts_in}
use Rattle.ufs_image_laws.specs.Reads.{Misses, Stands}
use Rattle.ufs_image_laws.proofs.BuiltLaws.{are_volume}
use Rattle.ufs_image_laws.proofs.ListLaws.{each_of_all, has_contained, pairs_apart}
use Rattle.ufs_image_laws.proofs.VolumeLaws.{parts_apart, volume_size, volume_stands, volume_zeros}
use Rattle.ufs_image_laws.proofs.parts.parts_are_apart.Goals as goal

pub returns : goal.returns
returns c = record {
  apart = λ spec items image is. let facts = parts_apart is.g (nodes_in is) is.all (are_volume spec items image is) in pairs_apart (parts_in is) facts.apart;
  stand = λ spec items image is part has. subst (λ (bytes : List ℕ). Stands bytes part.at part.bytes) (sym is.bytes)
      (volume_stands is.g (nodes_in is) is.all part (are_volume spec items image is) (has_contained part (parts_in is) has));
  zeros = λ spec items image is p misses. ap (λ (bytes : List ℕ). get_or bytes p 0) is.bytes
      ∙ volume_zeros is.g (nodes_in is) is.all p (each_of_all (Misses p) (parts_in is) misses);
  size = λ spec items image is. ap (λ (bytes : List ℕ). length bytes) is.bytes ∙ volume_size is.g (nodes_in is) is.all;
}
