-- A label where boundaries go out of use: what it says of the members that are left stays, under their new places.
use Rattle.std.specs.Prelude.{◌≡◌, ◌<◌, ◌/◌, ℕ, true, false, List, Option, length}
use Rattle.std.specs.Option.{option_map}
use Rattle.dg_io.specs.declared.outside.Rack.{Ghosts}
use Rattle.dg_label.specs.Labels.{HaveSameNumbers, IsLabeled, StandsLabeled, is_long, is_sealed}
use Rattle.dg_label.specs.declared.labels.KeptLabel.{KeptLabel}
use Rattle.dg_model.specs.Regroups.{label_left, member_before}
use Rattle.dg_model.specs.Seals.{LastLabel}
use Rattle.dg_model.specs.States.{has_lost}
use Rattle.dg_model.specs.declared.shapes.Shape.{Shape}
use Rattle.dg_store.specs.Reduced.{IsReduced, left_in}
use Rattle.dg_store.specs.Stores.{members_of, shape_of}
use Rattle.dg_store.specs.declared.store.Store.{Store}

-- Each member of a boundary that is left is as long as it was, and the numbers are the same. `left` has the old places of these boundaries.
pub record KeepsLeft (left : List ℕ) (before after : Option KeptLabel) : Type 0 where
  pub long : (q : ℕ) → q / 2 < length left → is_long after q ≡ is_long before (member_before left q)
  pub numbers : HaveSameNumbers before after

-- an opened label of an array that goes on without its lost boundaries is one of what is left
abbrev pub LabelsAreLeft : {R : Type 0} → Ghosts R → (R → ℕ) → (R → ℕ → R → Type 0) → Type 0
LabelsAreLeft {R} rack boundaries dropped = (line : Shape) (old new : Store R) (before after : Option KeptLabel) → IsReduced rack boundaries dropped old new
    → is_sealed before ≡ false → KeepsLeft (left_in old) before after → IsLabeled rack line old before → IsLabeled rack line new after

-- and it stands, where some boundary was lost, on those of its members that are left
abbrev pub LabelsStandLeft : {R : Type 0} → Ghosts R → (R → ℕ) → (R → ℕ → R → Type 0) → Type 0
LabelsStandLeft {R} rack boundaries dropped = (line : Shape) (old new : Store R) (before after : Option KeptLabel) → IsReduced rack boundaries dropped old new
    → is_sealed before ≡ false → KeepsLeft (left_in old) before after → IsLabeled rack line old before → has_lost (shape_of old) (members_of old) ≡ true
    → (last : Option LastLabel) → StandsLabeled rack line old before last → StandsLabeled rack line new after (option_map (label_left (left_in old)) last)
