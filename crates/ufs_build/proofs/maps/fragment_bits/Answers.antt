use Rattle.std.proofs.Common.{◌+◌, ◌&&◌, not}
use Rattle.ufs_model.specs.Geometries.{cgbase}
use Rattle.ufs_model.specs.Roles.{is_data_of, role}
use Rattle.ufs_build.specs.Placements.{is_used}
use Rattle.ufs_build.proofs.ListSteps.{given_more}
use Rattle.ufs_build.proofs.maps.fragment_bits.Goals as goal

pub loop-i-preserved : goal.loop-i-preserved
loop-i-preserved c =
    given_more (λ i. is_data_of c.args.c (role c.args.g.now (cgbase c.args.g.now c.args.c + i)) && not (is_used c.args.used.now (cgbase c.args.g.now c.args.c + i)))
    c.loop-i.i _ _ _ c.loop-i.invariant (rw (c.from-base.ensures, c.cgbase.ensures.value, c.from.ensures) at c.is_free.ensures) c.in_ok-push_bit.ensures
