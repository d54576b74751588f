use Rattle.std.proofs.Common.{◌≡◌, ◌+◌, drop}
use Rattle.ufs_build.specs.Images.{file_parts}
use Rattle.ufs_build.specs.Parts.{put_parts}
use Rattle.ufs_build.specs.Placings.{files_of}
use Rattle.ufs_build.proofs.images.put_files.Given as goal

abbrev pub invariant-loop-k : goal.invariant-loop-k
invariant-loop-k l = put_parts (file_parts l.g (l.k + 2) (files_of (drop l.k l.nodes)) (drop l.k l.files)) l.image ≡ put_parts (file_parts l.g 2 (files_of l.nodes) l.files) l.initial.image
