-- What reading a body gives.
use Rattle.std.specs.Prelude.{◌≡◌, ℕ, List, [], Option, Some, None}
use Rattle.dg_model.specs.Saves.{IsBody, SavedState as SavedValue, body_of}
use Rattle.dg_model.specs.declared.shapes.Shape.{Shape}
use Rattle.dg_save.specs.Parts.{IsSpelled}
use Rattle.dg_save.specs.States.{state_of}
use Rattle.dg_save.specs.declared.states.SavedState.{SavedState}

-- the body says this state, or none
abbrev pub IsDecoded : ℕ → Shape → List ℕ → Option SavedState → Type 0
IsDecoded format shape body None = (saved : SavedValue) → IsBody format shape body saved → ⊥
IsDecoded format shape body (Some state) = IsBody format shape body (state_of state)

-- a state with the parts that a body of the format has, whether they fit together or not
pub record HasParts (format : ℕ) (shape : Shape) (saved : SavedValue) : Type 0 where
  pub spelled : IsSpelled shape saved
  pub no_copies : format ≡ 1 → saved.copies ≡ []
  pub no_recent : format ≡ 1 → saved.recent ≡ []

-- the body spells this
pub record SpellsState (format : ℕ) (shape : Shape) (body : List ℕ) (state : SavedState) : Type 0 where
  pub parts : HasParts format shape (state_of state)
  pub says : body ≡ body_of format (state_of state)

-- it spells no such state
abbrev pub SpellsNone : ℕ → Shape → List ℕ → Type 0
SpellsNone format shape body = (saved : SavedValue) → HasParts format shape saved → body ≡ body_of format saved → ⊥
