-- What a save leaves on the members of an array, and what of it is found later. The rules are this project's own.
use Rattle.std.specs.Prelude.{◌≡◌, ◌⊎◌, ◌<◌, ◌/◌, ℕ, true, false, List, Option, IsSomeAnd, length}
use Rattle.dg_model.specs.Blocks.{block_in, zeros}
use Rattle.dg_model.specs.Members.{slot_of}
use Rattle.dg_model.specs.Openings.{HasOwnLabel}
use Rattle.dg_model.specs.Saves.{BeginsWith, HasBody, HasForm, HasLength, Label, SavedState, body_of}
use Rattle.dg_model.specs.Seals.{LastLabel, label_on}
use Rattle.dg_model.specs.Sites.{has_site}
use Rattle.dg_model.specs.Tables.{StandsIn, sites_in}

-- ---- a save

-- What was saved: the label, the state that its body says, and the values of the blocks.
pub record Save : Type 0 where
  pub label : LastLabel
  pub state : SavedState
  pub blocks : List (List ℕ)

-- The label is sealed, and stands on each member under its own number. The body says the state, of an array with the label's numbers. A block
-- without a site is zeros.
pub record IsSave (save : Save) : Type 0 where
  pub sealed : save.label.sealed ≡ true
  pub numbers : (q : ℕ) → save.label.numbers q ≡ q
  pub form : HasForm save.label.format save.state
  pub shape : save.label.shape ≡ save.state.table.shape
  pub body : save.label.body ≡ body_of save.label.format save.state
  pub size : length save.blocks ≡ save.state.table.shape.n
  pub blank : (b : ℕ) → b < save.state.table.shape.n → has_site (sites_in save.state.table b) ≡ false → block_in save.blocks b ≡ zeros save.state.table.shape.l

-- ---- members

-- slot x of boundary s, on a member with these bytes, has the value of each block that stands there
abbrev pub HasBlocks : Save → ℕ → List ℕ → Type 0
HasBlocks save s all =
    (b slot : ℕ) → b < save.state.table.shape.n → StandsIn save.state.table b s slot → slot_of save.state.table.shape.l slot all ≡ block_in save.blocks b

-- Member q, with these bytes, has what was saved: it begins with the label, has a length that this gives, and has the body and the blocks.
pub record HasSaved (save : Save) (q : ℕ) (all : List ℕ) : Type 0 where
  pub label : BeginsWith all (label_on save.label q)
  pub size : HasLength (label_on save.label q) (length all)
  pub body : HasBody all save.label.shape save.label.body
  pub blocks : HasBlocks save (q / 2) all

-- Member q, with these bytes, has no label of its own, or that of an earlier save.
abbrev pub IsOlder : Save → ℕ → List ℕ → Type 0
IsOlder save q all = (label : Label) → HasOwnLabel q all label → label.sequence < save.label.sequence

-- The save is found on members with these bytes: one of them has what was saved, and each other one has so too, or is older. The bytes of a
-- member that isn't there are none.
pub record IsFoundOn (save : Save) (images : ℕ → Option (List ℕ)) : Type 0 where
  pub one : (q : ℕ) × (q < 32) × IsSomeAnd (images q) (HasSaved save q)
  pub each : (q : ℕ) → q < 32 → IsSomeAnd (images q) (λ all. HasSaved save q all ⊎ IsOlder save q all)
