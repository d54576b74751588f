use Rattle.std.proofs.Common.{length, arith}
use Rattle.dg_model.proofs.HomeLaws.{put_at, same_default}
use Rattle.dg_hot.proofs.home_lists.place_for.Goals as goal

pub returns-then-home-homes-clause-place : goal.returns-then-home-homes-clause-place
returns-then-home-homes-clause-place c =
    put_at c.args.home.now c.args.homes.now c.loop-place.place c.args.home.now c.loop-place.auto.place-end c.loop-place.invariant
    (λ low. same_default c.args.homes.now c.loop-place.place _ c.args.home.now c.args.home.now.inode low c.if-home-homes.true)

pub returns-clause-place : goal.returns-clause-place
returns-clause-place c =
    put_at c.args.home.now c.args.homes.now (length c.args.homes.now) c.args.home.now (omega arith)
    (λ k low. c.loop-place.invariant k (omega (arith, low, c.loop-place-test.false))) (λ low. absurd (omega (arith, low)))
