use Rattle.std.proofs.Common.{◌≡◌, ◌<◌, ◌≤◌, ◌+◌, ◌-◌, ℕ, length, slice_index, subst, arith, rules}
use Rattle.dg_regroup.proofs.lives.in_order.Goals as goal

pub returns-then-live-place : goal.returns-then-live-place
returns-then-live-place c = (
  λ e. absurd (cc),
  λ ascend.
      let k = c.loop-place.place in
      let first : 1 ≤ k = c.loop-place.auto.place in
      let within : k < length c.args.live.now = omega (arith, c.loop-place-test.true) in
      let e : k - 1 + 1 ≡ k = omega arith in
      let low : slice_index c.args.live.now (k - 1) < slice_index c.args.live.now k =
      subst (λ (j : ℕ). slice_index c.args.live.now (k - 1) < slice_index c.args.live.now j) e (ascend (k - 1) (omega (arith, within))) in
      absurd (omega (arith, low, c.if-live-place.true)),
)

pub returns : goal.returns
returns c = (
  λ e k low. c.loop-place.invariant k (let end = c.loop-place-test.false in omega (arith, low, end)),
  λ ascend. search rules,
)
