use Rattle.std.proofs.Common.{◌≡◌, ◌+◌, ◌&&◌, not, map}
use Rattle.std.specs.List.{range_with_len}
use Rattle.ufs_build.specs.Placements.{is_used}
use Rattle.ufs_model.specs.Geometries.{cgbase}
use Rattle.ufs_model.specs.Roles.{is_data_of, role}
use Rattle.ufs_build.proofs.maps.fragment_bits.Given as goal

abbrev pub invariant-loop-i : goal.invariant-loop-i
invariant-loop-i l = l.bits.items ≡ map (λ i. is_data_of l.c (role l.g (cgbase l.g l.c + i)) && not (is_used l.used (cgbase l.g l.c + i))) (range_with_len 0 l.i)
