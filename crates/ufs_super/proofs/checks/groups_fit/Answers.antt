use Rattle.std.proofs.Common.{◌≡◌, false, sym, arith}
use Rattle.ufs_model.specs.Superblocks.{group_fits}
use Rattle.ufs_super.proofs.BelowLaws.{all_below_fails}
use Rattle.ufs_super.proofs.checks.groups_fit.Goals as goal

pub returns-then-not-group_fits : goal.returns-then-not-group_fits
returns-then-not-group_fits c =
    sym (all_below_fails (group_fits c.args.g.now) c.args.g.now.ncg c.loop-c.c (let f : group_fits c.args.g.now c.loop-c.c ≡ false = cc in f) (omega arith))
