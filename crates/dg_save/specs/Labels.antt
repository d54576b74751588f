-- What reading a label gives.
use Rattle.std.specs.Prelude.{◌≡◌, ◌⊎◌, ◌==◌, ◌/◌, ◌%◌, ℕ, List, Option, Some, None, if◌then◌else◌}
use Rattle.std.specs.Option.{option_map}
use Rattle.dg_model.specs.Saves.{IsLabel, Label as LabelValue, label_bytes}
use Rattle.dg_model.specs.Saves.{HasLength}
use Rattle.dg_model.specs.declared.shapes.Shape.{Shape}
use Rattle.dg_save.specs.declared.labels.Label.{Label}

-- what a label says
abbrev pub label_of : Label → LabelValue
label_of label = record {
  format = label.format;
  sequence = label.sequence;
  sealed = label.sealed;
  boundary = label.boundary;
  side = label.side;
  shape = label.shape;
  body = label.body;
}

-- these bytes are a label that says this
pub record SaysLabel (all : List ℕ) (label : Label) : Type 0 where
  pub is : IsLabel (label_of label)
  pub says : all ≡ label_bytes (label_of label)

-- they are no label
abbrev pub HasNoLabel : List ℕ → Type 0
HasNoLabel bytes = (label : LabelValue) → IsLabel label → bytes ≡ label_bytes label → ⊥

-- if they are a label, it says this
abbrev pub SaysJust : List ℕ → Option Label → Type 0
SaysJust bytes found = (label : LabelValue) → IsLabel label → bytes ≡ label_bytes label → option_map label_of found ≡ Some label

-- the format of a digit, if it is one
abbrev pub format_in : ℕ → Option ℕ
format_in digit = if digit == 0x31 then Some 1 else if digit == 0x32 then Some 2 else None

abbrev pub IsFormat : ℕ → Type 0
IsFormat format = (format ≡ 1) ⊎ (format ≡ 2)

-- if the bytes are a label, it has this shape
abbrev pub HasShape : List ℕ → Option Shape → Type 0
HasShape bytes found = (label : LabelValue) → IsLabel label → bytes ≡ label_bytes label → found ≡ Some label.shape

-- the label is of member q, whose length is one that it gives
pub record IsOwn (q size : ℕ) (label : LabelValue) : Type 0 where
  pub boundary : label.boundary ≡ q / 2
  pub side : label.side ≡ q % 2
  pub size_is : HasLength label size
