-- The answers that faults cause. A count of faults is a 64-bit number that stands still at its end.
use Rattle.std.specs.Prelude.{◌≡◌, ◌≢◌, ◌≤◌, ℕ, Result, OnOk, OnErr}
use Rattle.dg_model.specs.Causes.{Rose}

-- the count didn't fall; it rose where the call failed, and is as it was where it didn't
pub record HasCause {T E : Type 0} (before now : ℕ) (result : Result T E) : Type 0 where
  pub later : before ≤ now
  pub failed : OnErr result (Rose before now)
  pub kept : OnOk result (now ≡ before)

-- each other member's count is as it was
abbrev pub OnlyMember : ℕ → (ℕ → ℕ) → (ℕ → ℕ) → Type 0
OnlyMember member old new = (q : ℕ) → q ≢ member → new q ≡ old q
