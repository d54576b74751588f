-- What a save leaves of the bytes of the members, and how many calls it makes. In which order it writes is this project's own: on each member the
-- opened label, then the body, then the new label. So a label with the seal of a save is above the body of that save, and above no other.
use Rattle.std.specs.Prelude.{◌≡◌, ◌⊎◌, ◌+◌, ◌*◌, ℕ, Bool, true, false, not, List, Option, drop, if◌then◌else◌, length, slice_range, take}
use Rattle.dg_io.specs.DiskAnswers.{count_upto}
use Rattle.dg_io.specs.declared.outside.Rack.{Ghosts}
use Rattle.dg_label.specs.Labels.{is_long, is_sealed, next_number}
use Rattle.dg_label.specs.Pages.{opened_page, page_of}
use Rattle.dg_label.specs.declared.labels.KeptLabel.{KeptLabel}
use Rattle.dg_model.specs.Members.{is_good}
use Rattle.dg_model.specs.Saves.{HasBody, body_place}
use Rattle.dg_model.specs.declared.shapes.Shape.{Shape}
use Rattle.dg_store.specs.Leaves.{BytesChange}
use Rattle.dg_store.specs.Stores.{members_of, rack_of, shape_of}
use Rattle.dg_store.specs.declared.store.Store.{Store}

-- ---- members

-- the numbers of the label that a save of this body writes
abbrev pub saved_numbers : Option KeptLabel → List ℕ → KeptLabel
saved_numbers before body = record { format = 2; sequence = next_number before; sealed = true; body = length body; long = 0 }

-- member q has that label, above the body
abbrev pub IsSaved : Shape → Option KeptLabel → List ℕ → ℕ → List ℕ → Type 0
IsSaved shape before body q all = (take 512 all ≡ page_of shape (saved_numbers before body) q) × HasBody all shape body

-- its seal was to be opened, and it fell there
abbrev pub FellUnopened : Option KeptLabel → Bool → Type 0
FellUnopened before good = (is_sealed before ≡ true) × (good ≡ false)

-- What a save leaves of member q, which was good, whether it still is or not. Where the rack isn't steady its first page may be torn.
pub record LeavesMember (steady : Type 0) (shape : Shape) (before : Option KeptLabel) (body : List ℕ) (q : ℕ) (good : Bool) (old new : List ℕ) : Type 0 where
  -- its slots are as they were
  pub slots : slice_range new 512 (body_place shape) ≡ slice_range old 512 (body_place shape)
  -- one that is still good is saved
  pub saved : good ≡ true → IsSaved shape before body q new
  -- On a steady rack its first page is the opened one, or it is saved; or it fell before its seal was opened, and nothing on it has changed.
  pub page : steady → (take 512 new ≡ opened_page shape before q (take 512 old)) ⊎ IsSaved shape before body q new ⊎ (FellUnopened before good × (new ≡ old))
  -- On any rack its first page is the opened one, or it has the body; or it fell before its seal was opened, and nothing behind that page has changed.
  pub order : (take 512 new ≡ opened_page shape before q (take 512 old)) ⊎ HasBody new shape body ⊎ (FellUnopened before good × (drop 512 new ≡ drop 512 old))

-- what it leaves of each member that was good
abbrev pub LeavesMembers : {R : Type 0} → Ghosts R → List ℕ → Option KeptLabel → Store R → Store R → Type 0
LeavesMembers rack body before old new =
    (q : ℕ) → is_good (members_of old q) ≡ true
    → BytesChange rack old new q (LeavesMember (rack.steady (rack_of old)) (shape_of old) before body q (is_good (members_of new q)))

-- ---- calls

-- how many of the first n members aren't as long as format 2 says
abbrev pub short_members : Option KeptLabel → ℕ → ℕ
short_members label n = count_upto (λ q. not (is_long label q)) n

-- The most calls that a save makes on an array of b boundaries: one on each member for its body, one for its label, one more where a seal is opened,
-- and one on each member that is to be made longer.
abbrev pub save_calls : ℕ → Option KeptLabel → ℕ
save_calls b before = 2 * (2 * b) + (if is_sealed before then 2 * b else 0) + short_members before (2 * b)
