use Rattle.std.proofs.Common.{◌<◌, ◌≤◌, ◌-◌, length, arith, rules}
use Rattle.dg_model.specs.declared.homes.Home.{Home}
use Rattle.dg_plan.proofs.RiseLaws.{ascend_each, rises}
use Rattle.dg_plan.proofs.home_lists.ascend.Goals as goal

pub returns-then-homes-place : goal.returns-then-homes-place
returns-then-homes-place c = (
  λ e. absurd (cc),
  λ ascend.
      let none : Home = record { inode = 0; boundary = 0 } in
      let k = c.loop-place.place in
      let first : 1 ≤ k = c.loop-place.auto.place in
      let within : k < length c.args.homes.now = omega (arith, c.loop-place-test.true) in
      let low = rises (k - 1) k c.args.homes.now none ascend (omega arith) within in
      absurd (omega (arith, low, c.if-homes-place.true)),
)

pub returns : goal.returns
returns c = (
  λ e. ascend_each c.args.homes.now c.loop-place.place c.loop-place-test.false (λ k d low _. c.loop-place.invariant k d low),
  λ ascend. search rules,
)
