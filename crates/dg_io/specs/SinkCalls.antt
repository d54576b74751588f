-- How often a source or a sink is called.
use Rattle.std.specs.Prelude.{◌↔◌, ◌+◌, ◌≤◌, ℕ}

-- What calls on a sink leave: it takes each piece whole or not, as before, and where it does, no more than `few` calls were made. `each` is a bound
-- for any sink.
pub record LeavesSink {S : Type 0} (whole : S → Type 0) (calls : S → ℕ) (few each : ℕ) (old new : S) : Type 0 where
  pub whole_on : whole old ↔ whole new
  pub later : calls old ≤ calls new
  pub few_calls : whole old → calls new ≤ calls old + few
  pub each_call : calls new ≤ calls old + each
