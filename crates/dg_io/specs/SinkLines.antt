-- How many calls of a sink write a text: one for each line, and one more for each so many bytes.
use Rattle.std.proofs.Common.{◌≡◌, ◌≤◌, ◌+◌, ◌*◌, ◌==◌, ℕ, List, ◌++◌, length, arith, subst, sym, ap}
use Rattle.std.specs.Prelude.{◌↔◌, Option, Some, None, if◌then◌else◌}
use Rattle.std.specs.List.{sum_by}
use Rattle.std.proofs.Math.Nat.{mul-add, mul-le-mul_left}
use Rattle.std.proofs.lemmas.List.{length-append}
use Rattle.std.proofs.lemmas.List.Sums.{sum_by-append}
use Rattle.dg_io.specs.SinkCalls.{LeavesSink}
use Rattle.dg_io.specs.Told.{Told, Took}

-- how many line feeds are in a text
abbrev pub feeds_in : List ℕ → ℕ
feeds_in text = sum_by (λ byte. if byte == 10 then 1 else 0) text

-- a call for each line of a text and one for each w bytes, w times that
abbrev pub weight_of : ℕ → List ℕ → ℕ
weight_of w text = w * feeds_in text + length text

-- so many calls, each of which takes a line or w bytes, may write this text
abbrev pub MayWrite : ℕ → ℕ → List ℕ → Type 0
MayWrite w calls text = w * calls ≤ weight_of w text

-- What calls on a sink leave where none failed: it takes each piece whole or not, as before; and where it does, no more calls were made than the text
-- that it took in them has lines, and w bytes.
pub record LeavesLines {S : Type 0} (w : ℕ) (whole : S → Type 0) (calls : S → ℕ) (taken : S → Option (List ℕ)) (old new : S) : Type 0 where
  pub whole_on : whole old ↔ whole new
  pub few_calls : whole old → Told (λ before after. w * calls new + weight_of w before ≤ w * calls old + weight_of w after) (taken old) (taken new)

-- ---- one after another

no_more : (n : ℕ) (told : Option (List ℕ)) (w : ℕ) → Told (λ before after. n + weight_of w before ≤ n + weight_of w after) told told
no_more n None w = tt
no_more n (Some text) w = omega arith

two_told : (w x y z : ℕ) (a b c : Option (List ℕ)) → Told (λ before after. y + weight_of w before ≤ x + weight_of w after) a b
    → Told (λ before after. z + weight_of w before ≤ y + weight_of w after) b c → Told (λ before after. z + weight_of w before ≤ x + weight_of w after) a c
two_told w x y z a b None first second = tt
two_told w x y z a None (Some t) first second = absurd second
two_told w x y z None (Some s) (Some t) first second = absurd first
two_told w x y z (Some r) (Some s) (Some t) first second = omega (arith, first, second)

weight_both : (w : ℕ) (x y : List ℕ) → weight_of w (x ++ y) ≡ weight_of w x + weight_of w y
weight_both w x y = times_sum w (feeds_in (x ++ y)) (feeds_in x) (feeds_in y) (length (x ++ y)) (length x) (length y)
    (sum_by-append (λ byte. if byte == 10 then 1 else 0) x y) (length-append x y)
  where
    times_sum : (w m a b n c d : ℕ) → m ≡ a + b → n ≡ c + d → w * m + n ≡ (w * a + c) + (w * b + d)
    times_sum w m a b n c d feeds bytes = omega (arith, ap (λ (k : ℕ). w * k) feeds, mul-add w a b, bytes)

one_told : (w few m n : ℕ) (text : List ℕ) (a b : Option (List ℕ)) → MayWrite w few text → w * n ≤ w * m + w * few → Told (Took text) a b
    → Told (λ before after. w * n + weight_of w before ≤ w * m + weight_of w after) a b
one_told w few m n text a None may fewer took = tt
one_told w few m n text None (Some s) may fewer took = absurd took
one_told w few m n text (Some r) (Some s) may fewer took =
    subst (λ (l : List ℕ). w * n + weight_of w r ≤ w * m + weight_of w l) (sym took) (omega (arith, weight_both w r text, may, fewer))

times_le : (w n m k : ℕ) → n ≤ m + k → w * n ≤ w * m + w * k
times_le w n m k le = let more : w * n ≤ w * (m + k) = mul-le-mul_left w le in omega (arith, more, mul-add w m k)

module _ {S : Type 0} (w : ℕ) (whole : S → Type 0) (calls : S → ℕ) (taken : S → Option (List ℕ)) where
  -- no call
  pub lines_none : (a : S) → LeavesLines w whole calls taken a a
  lines_none a = record { whole_on = (λ h. h, λ h. h); few_calls = λ h. no_more (w * calls a) (taken a) w }

  -- calls, and then others
  pub lines_both : (a b c : S) → LeavesLines w whole calls taken a b → LeavesLines w whole calls taken b c → LeavesLines w whole calls taken a c
  lines_both a b c first second = record {
    whole_on = (λ h. second.whole_on.0 (first.whole_on.0 h), λ h. first.whole_on.1 (second.whole_on.1 h));
    few_calls = λ h. two_told w (w * calls a) (w * calls b) (w * calls c) (taken a) (taken b) (taken c) (first.few_calls h) (second.few_calls (first.whole_on.0 h));
  }

  -- no more calls than may write a text, which was taken
  pub lines_of_text : (few each : ℕ) (text : List ℕ) (a b : S) → MayWrite w few text → LeavesSink whole calls few each a b → Told (Took text) (taken a) (taken b)
      → LeavesLines w whole calls taken a b
  lines_of_text few each text a b may leaves took = record {
    whole_on = leaves.whole_on;
    few_calls = λ h. one_told w few (calls a) (calls b) text (taken a) (taken b) may (times_le w (calls b) (calls a) few (leaves.few_calls h)) took;
  }
