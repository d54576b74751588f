-- What an opening takes of the members of a rack where no call on them fails. The rules are this project's own.
use Rattle.std.specs.Prelude.{◌≡◌, ◌⊎◌, ◌<◌, ◌≤◌, ℕ, List, Option, Some, None, IfSome}
use Rattle.dg_model.specs.Openings.{Found, HasOwnLabel, IsNewest, IsUnclean, Says}
use Rattle.dg_model.specs.Saves.{Label, SavedState}

-- a member with the greatest number comes before member q, and its body says a state
pub record ComesFirst (taken : ℕ → Option Found) (q : ℕ) : Type 0 where
  pub p : ℕ
  pub found : Found
  pub saved : SavedState
  pub before : p < q
  pub newest : IsNewest taken p found
  pub says : found.state ≡ Some saved

-- a member has a greater number than this label
pub record IsOutdone (taken : ℕ → Option Found) (label : Label) : Type 0 where
  pub p : ℕ
  pub found : Found
  pub there : taken p ≡ Some found
  pub greater : label.sequence < found.label.sequence

-- the body of member q needn't be read: whatever it says, the array isn't opened from it
abbrev pub IsSpared : (ℕ → Option Found) → ℕ → Label → Type 0
IsSpared taken q label = IsOutdone taken label ⊎ (IsUnclean taken ⊎ ComesFirst taken q)

-- what is taken of the body of member q: the state that it says; or none, where it says none or needn't be read
abbrev pub IsBodyTaken : (ℕ → Option Found) → ℕ → Label → List ℕ → Option SavedState → Type 0
IsBodyTaken taken q label all (Some saved) = Says label all (Some saved)
IsBodyTaken taken q label all None = Says label all None ⊎ IsSpared taken q label

-- what is taken of member q, with these bytes: its own label and what its body says; or nothing, where it has no label of its own
abbrev pub IsTaken : (ℕ → Option Found) → ℕ → List ℕ → Option Found → Type 0
IsTaken taken q all None = (label : Label) → HasOwnLabel q all label → ⊥
IsTaken taken q all (Some found) = HasOwnLabel q all found.label × IsBodyTaken taken q found.label all found.state

-- What is taken of the members 0 to 31 with these bytes, and of no others.
pub record AreTaken (images : ℕ → Option (List ℕ)) (taken : ℕ → Option Found) : Type 0 where
  pub each : (q : ℕ) → q < 32 → IfSome (images q) (λ all. IsTaken taken q all (taken q))
  pub others : (q : ℕ) → 32 ≤ q → taken q ≡ None
