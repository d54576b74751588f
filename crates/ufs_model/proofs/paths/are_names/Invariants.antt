use Rattle.std.proofs.Common.{◌≡◌, length}
use Rattle.std.specs.List.{list_all}
use Rattle.ufs_model.specs.Paths.{is_path_name, names_after}
use Rattle.ufs_model.proofs.paths.are_names.Given as goal

abbrev pub invariant-loop-rest : goal.invariant-loop-rest
invariant-loop-rest l = list_all is_path_name (names_after l.rest) ≡ list_all is_path_name (names_after l.path)

abbrev pub decreases-loop-rest : goal.decreases-loop-rest
decreases-loop-rest l = length l.rest
