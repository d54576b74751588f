use Rattle.std.proofs.Common.{◌≡◌, ◌≤◌, ◌<◌, ◌+◌, ◌-◌, ◌⊎◌, ℕ, inl, inr, arith, ◌∙◌}
use Rattle.dg_io.proofs.ToldLemmas.{Took-more}
use Rattle.std.proofs.lemmas.Grind.{common_steps}
use Rattle.dg_io.proofs.outside.write_all.Goals as goal

-- a call of n bytes that takes the rest of a piece of `all` bytes is the first one
one_call : (at n all before mid new : ℕ) → at < all → n ≡ all - at → new ≤ mid + 1
    → (mid ≤ before) ⊎ ((at ≡ all) × (mid ≤ before + 1)) → (new ≤ before) ⊎ ((at + n ≡ all) × (new ≤ before + 1))
one_call at n all before mid new more takes most (inl none) = inr (omega (arith, more, takes), omega (arith, most, none))
one_call at n all before mid new more takes most (inr past) = absurd (omega (arith, more, past.0))

pub loop-at-preserved : goal.loop-at-preserved
loop-at-preserved g c = record {
  within = omega (arith, c.in_ok-at.ensures.within);
  told = Took-more c.args.piece.now _ c.loop-at.at c.in_ok-at.field-0 (grind (arith, common_steps)) _ _ _ c.loop-at.invariant.told c.in_ok-at.ensures.bytes;
  kept = c.in_ok-at.ensures.cause.kept ∙ c.loop-at.invariant.kept;
  whole_on = (λ w. c.in_ok-at.ensures.whole_on.0 (c.loop-at.invariant.whole_on.0 w), λ w. c.loop-at.invariant.whole_on.1 (c.in_ok-at.ensures.whole_on.1 w));
  later = omega (arith, c.loop-at.invariant.later, c.in_ok-at.ensures.counted.later);
  each_call =
      let some : 0 < c.in_ok-at.field-0 = c.in_ok-at.ensures.some (omega (arith, c.loop-at-test.true)) in
      omega (arith, some, c.loop-at.invariant.each_call, c.in_ok-at.ensures.counted.most);
  few_calls = λ w. one_call _ _ _ _ _ _ (omega (arith, c.loop-at-test.true))
      (let all : c.in_ok-at.field-0 ≡ _ = c.in_ok-at.ensures.takes_whole (c.loop-at.invariant.whole_on.0 w) in omega (arith, all))
      c.in_ok-at.ensures.counted.most (c.loop-at.invariant.few_calls w);
}
