use Rattle.std.proofs.Common.{◌≡◌, ◌<◌, ◌≤◌, ◌+◌, ◌-◌, ℕ, length, slice_index, subst, arith, rules}
use Rattle.dg_regroup.proofs.lives.ascend.Goals as goal

pub returns-then-numbers-place : goal.returns-then-numbers-place
returns-then-numbers-place c = (
  λ e. absurd (cc),
  λ ascend.
      let k = c.loop-place.place in
      let first : 1 ≤ k = c.loop-place.auto.place in
      let within : k < length c.args.numbers.now = omega (arith, c.loop-place-test.true) in
      let e : k - 1 + 1 ≡ k = omega arith in
      let low : slice_index c.args.numbers.now (k - 1) < slice_index c.args.numbers.now k =
      subst (λ (j : ℕ). slice_index c.args.numbers.now (k - 1) < slice_index c.args.numbers.now j) e (ascend (k - 1) (omega (arith, within))) in
      absurd (omega (arith, low, c.if-numbers-place.true)),
)

pub returns : goal.returns
returns c = (
  λ e k low. c.loop-place.invariant k (let end = c.loop-place-test.false in omega (arith, low, end)),
  λ ascend. search rules,
)
