-- Laws of what is saved.
use Rattle.std.specs.Prelude.{◌≡◌, ◌≤◌, ℕ, length}
use Rattle.dg_model.specs.Saves.{HasForm, IsLabel, Label, SavedState, body_of, label_bytes, room_of}

-- two states of a format's form, of arrays with the same numbers, are equal where their bodies are
abbrev pub BodiesAreUnique : Type 0
BodiesAreUnique = (format : ℕ) (a b : SavedState) → HasForm format a → HasForm format b
    → a.table.shape ≡ b.table.shape → body_of format a ≡ body_of format b → a ≡ b

-- two labels are equal where their bytes are
abbrev pub LabelsAreUnique : Type 0
LabelsAreUnique = (a b : Label) → IsLabel a → IsLabel b → label_bytes a ≡ label_bytes b → a ≡ b

-- a body of a state of the format's form has room
abbrev pub BodiesHaveRoom : Type 0
BodiesHaveRoom = (format : ℕ) (a : SavedState) → HasForm format a → length (body_of format a) ≤ room_of format a.table.shape
