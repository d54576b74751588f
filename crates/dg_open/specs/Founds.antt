-- What an opening finds of the members of a rack. The rules are this project's own.
use Rattle.std.specs.Prelude.{◌≡◌, ◌⊎◌, ◌<◌, ◌≤◌, ℕ, List, Option, Some, None, IfSome}
use Rattle.dg_model.specs.Causes.{Rose}
use Rattle.dg_model.specs.Openings.{Found, HasOwnLabel, IsNewest, IsUnclean, Says}
use Rattle.dg_model.specs.Saves.{Label, SavedState}

-- a member before member q has the greatest number too, and its body was read and says a state
pub record ComesBefore (taken : ℕ → Option Found) (q : ℕ) : Type 0 where
  pub p : ℕ
  pub found : Found
  pub saved : SavedState
  pub before : p < q
  pub newest : IsNewest taken p found
  pub state : found.state ≡ Some saved

-- a member has a greater number than this label
pub record IsOlder (taken : ℕ → Option Found) (label : Label) : Type 0 where
  pub p : ℕ
  pub found : Found
  pub there : taken p ≡ Some found
  pub greater : label.sequence < found.label.sequence

-- Whatever the body of member q says, the array isn't opened from it: its label is older than another one; or one of the newest is opened; or
-- a newest member before it says a state. So it needn't be read.
abbrev pub IsPassed : (ℕ → Option Found) → ℕ → Label → Type 0
IsPassed taken q label = IsOlder taken label ⊎ (IsUnclean taken ⊎ ComesBefore taken q)

-- What is taken of the body of member q: the state that it says; or none, where it says none, where the member's count of faults rose, or
-- where it wasn't read.
abbrev pub IsBodyRead : (ℕ → Option Found) → ℕ → ℕ → ℕ → Label → List ℕ → Option SavedState → Type 0
IsBodyRead taken q before now label all (Some saved) = Says label all (Some saved)
IsBodyRead taken q before now label all None = Says label all None ⊎ (Rose before now ⊎ IsPassed taken q label)

-- what is taken of member q, with these bytes: its own label, and of its body that; or nothing, where it has no label of its own, or its count
-- of faults rose
abbrev pub IsRead : (ℕ → Option Found) → ℕ → ℕ → ℕ → List ℕ → Option Found → Type 0
IsRead taken q before now all None = ((label : Label) → HasOwnLabel q all label → ⊥) ⊎ Rose before now
IsRead taken q before now all (Some found) = HasOwnLabel q all found.label × IsBodyRead taken q before now found.label all found.state

-- What is taken of the members 0 to 31 of a rack with these bytes, where they are told, and these counts of faults; and of no others.
pub record AreRead (bytes : ℕ → Option (List ℕ)) (before now : ℕ → ℕ) (taken : ℕ → Option Found) : Type 0 where
  pub each : (q : ℕ) → q < 32 → IfSome (bytes q) (λ all. IsRead taken q (before q) (now q) all (taken q))
  pub others : (q : ℕ) → 32 ≤ q → taken q ≡ None
