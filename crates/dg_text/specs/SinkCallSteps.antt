-- How calls of a sink go on from one another.
use Rattle.std.proofs.Common.{◌≤◌, ◌+◌, ℕ, arith}
use Rattle.dg_io.specs.SinkCalls.{LeavesSink}

-- no call
pub leaves_none : {K : Type 0} (whole : K → Type 0) (calls : K → ℕ) (a : K) → LeavesSink whole calls 0 0 a a
leaves_none whole calls a = record {
  whole_on = (λ w. w, λ w. w);
  later = omega arith;
  few_calls = λ w. omega arith;
  each_call = omega arith;
}

-- calls, and then others
pub leaves_both : {K : Type 0} (whole : K → Type 0) (calls : K → ℕ) (few each few_then each_then : ℕ) (a b c : K)
    → LeavesSink whole calls few each a b → LeavesSink whole calls few_then each_then b c → LeavesSink whole calls (few + few_then) (each + each_then) a c
leaves_both whole calls few each few_then each_then a b c first second = record {
  whole_on = (λ w. second.whole_on.0 (first.whole_on.0 w), λ w. first.whole_on.1 (second.whole_on.1 w));
  later = omega (arith, first.later, second.later);
  few_calls = λ w. omega (arith, first.few_calls w, second.few_calls (first.whole_on.0 w));
  each_call = omega (arith, first.each_call, second.each_call);
}

-- no more calls than so many are no more than a greater number
pub leaves_more : {K : Type 0} (whole : K → Type 0) (calls : K → ℕ) (few each more_few more_each : ℕ) (a b : K) → few ≤ more_few → each ≤ more_each
    → LeavesSink whole calls few each a b → LeavesSink whole calls more_few more_each a b
leaves_more whole calls few each more_few more_each a b fewer within leaves = record {
  whole_on = leaves.whole_on;
  later = leaves.later;
  few_calls = λ w. omega (arith, fewer, leaves.few_calls w);
  each_call = omega (arith, within, leaves.each_call);
}

-- where no call takes no byte, there are no more calls than bytes
pub leaves_each : {K : Type 0} (whole : K → Type 0) (calls : K → ℕ) (few each : ℕ) (a b : K) → LeavesSink whole calls few each a b → LeavesSink whole calls each each a b
leaves_each whole calls few each a b leaves = record { whole_on = leaves.whole_on; later = leaves.later; few_calls = λ w. leaves.each_call; each_call = leaves.each_call }
