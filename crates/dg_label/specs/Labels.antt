-- What is kept of the last label of an array, beside the label of the model and the bytes of the members.
use Rattle.std.specs.Prelude.{◌≡◌, ◌≢◌, ◌⊎◌, ◌+◌, ◌^◌, ◌<◌, ◌≤◌, ◌/◌, ◌==◌, ◌||◌, ℕ, Bool, take, true, false, Option, Some, None, IfSome, if◌then◌else◌, length}
use Rattle.dg_io.specs.Commits.{is_marked}
use Rattle.dg_io.specs.declared.outside.Rack.{Ghosts}
use Rattle.dg_label.specs.Lines.{IsLineOf}
use Rattle.dg_label.specs.declared.labels.KeptLabel.{KeptLabel}
use Rattle.dg_model.specs.Blocks.{zeros}
use Rattle.dg_model.specs.Members.{is_filling}
use Rattle.dg_model.specs.Saves.{member_length, room_of}
use Rattle.dg_model.specs.Saves as saves
use Rattle.dg_model.specs.Seals.{HoldsLabel, LastLabel, keeps_label, label_on}
use Rattle.dg_model.specs.declared.members.MemberState.TheVariants.{Out}
use Rattle.dg_model.specs.declared.shapes.Shape.{Shape}
use Rattle.dg_store.specs.Stores.{members_of, rack_of, shape_of}
use Rattle.dg_store.specs.declared.store.Store.{Store}

-- ---- numbers

-- the numbers of a label on an array of this shape
pub record AreNumbers (shape : Shape) (kept : KeptLabel) : Type 0 where
  pub formats : (kept.format ≡ 1) ⊎ (kept.format ≡ 2)
  pub first : 1 ≤ kept.sequence
  pub last : kept.sequence < 2 ^ 63
  pub body : kept.body ≤ room_of kept.format shape

-- they are those of the last label of the model
pub record AreNumbersOf (last : LastLabel) (kept : KeptLabel) : Type 0 where
  pub format : last.format ≡ kept.format
  pub sequence : last.sequence ≡ kept.sequence
  pub sealed : last.sealed ≡ kept.sealed
  pub body : length last.body ≡ kept.body

-- there is no label, or these are its numbers
abbrev pub IsKeptOf : Option LastLabel → Option KeptLabel → Type 0
IsKeptOf None None = Unit {0}
IsKeptOf None (Some kept) = ⊥
IsKeptOf (Some last) None = ⊥
IsKeptOf (Some last) (Some kept) = AreNumbersOf last kept

-- there is a label, and it is sealed
abbrev pub is_sealed : Option KeptLabel → Bool
is_sealed None = false
is_sealed (Some kept) = kept.sealed

-- a label that is sealed has the numbers of an array of this shape
abbrev pub HasOwnSeal : Shape → Option KeptLabel → Type 0
HasOwnSeal shape label = is_sealed label ≡ true → IfSome label (AreNumbers shape)

-- the label with its seal opened
abbrev pub unsealed : Option KeptLabel → Option KeptLabel
unsealed None = None
unsealed (Some kept) = Some (record kept { sealed = false })

-- the number of the next save
abbrev pub next_number : Option KeptLabel → ℕ
next_number None = 1
next_number (Some kept) = kept.sequence + 1

-- ---- members

-- Whether member q is as long as format 2 says: each one is where there is no label, or one of that format; beneath one of format 1 those are
-- whose bits are set.
abbrev pub is_long : Option KeptLabel → ℕ → Bool
is_long None q = true
is_long (Some kept) q = (kept.format == 2) || is_marked kept.long q

-- how long member q is, if it isn't out: as format 2 says, or else as format 1 says
abbrev pub HasLength : Shape → Option KeptLabel → ℕ → ℕ → Type 0
HasLength shape label q size = size ≡ member_length (if is_long label q then 2 else 1) shape

-- both are none, or the numbers of one label
abbrev pub HaveSameNumbers : Option KeptLabel → Option KeptLabel → Type 0
HaveSameNumbers None None = Unit {0}
HaveSameNumbers None (Some after) = ⊥
HaveSameNumbers (Some before) None = ⊥
HaveSameNumbers (Some before) (Some after) = after ≡ record before { long = after.long }

-- member q was noted as one that is as long as format 2 says, and nothing else has changed
pub record NotesLong (q : ℕ) (before after : Option KeptLabel) : Type 0 where
  pub here : is_long after q ≡ true
  pub others : (p : ℕ) → p ≢ q → is_long after p ≡ is_long before p
  pub numbers : HaveSameNumbers before after

-- What holds between calls of a label beside an array that was made with the numbers of the line: its own are in range, where it is sealed those
-- of the boundaries in use; and each member that isn't out, and tells its bytes, is as long as it says of the line. One that is refilled was blanked
-- by this array, so it is as long as format 2 says.
pub record IsLabeled {R : Type 0} (rack : Ghosts R) (line : Shape) (store : Store R) (label : Option KeptLabel) : Type 0 where
  pub fits : IsLineOf line (shape_of store)
  pub numbers : IfSome label (AreNumbers line)
  pub sealed : HasOwnSeal (shape_of store) label
  pub lengths : (q : ℕ) → members_of store q ≢ Out → IfSome (rack.bytes (rack_of store) q) (λ all. HasLength line label q (length all))
  pub filling : (q : ℕ) → is_filling (members_of store q) ≡ true
      → IfSome (rack.bytes (rack_of store) q) (λ all. length all ≡ member_length 2 line)

-- A label of this array: it has the array's numbers, and each member has the number that it had.
pub record IsOfArray (shape : Shape) (last : LastLabel) : Type 0 where
  pub shape_is : last.shape ≡ shape
  pub numbers_are : (q : ℕ) → last.numbers q ≡ q

-- The label is of this array where it is sealed, and where all boundaries of the line are in use. An opened one may name boundaries that aren't.
abbrev pub IsOfBoundariesInUse : Shape → Shape → LastLabel → Type 0
IsOfBoundariesInUse line shape last = (last.sealed ≡ true) ⊎ (shape ≡ line) → IsOfArray shape last

-- A member that isn't out, and doesn't keep the label, was made anew since: where a label would be it has zeros.
abbrev pub AreFresh : {R : Type 0} → Ghosts R → Store R → Option LastLabel → Type 0
AreFresh rack store last =
    (q : ℕ) → q / 2 < (shape_of store).b → members_of store q ≢ Out → keeps_label last q ≡ false
    → IfSome (rack.bytes (rack_of store) q) (λ all. take 512 all ≡ zeros 512)

-- each member that keeps the label, and tells its bytes, is as long as the label says; so is one that went out since
abbrev pub AreSized : {R : Type 0} → Ghosts R → Store R → LastLabel → Type 0
AreSized rack store last =
    (q : ℕ) → last.keepers q ≡ true → IfSome (rack.bytes (rack_of store) q) (λ all. saves.HasLength (label_on last q) (length all))

-- The label is the last one of the model, and the members that keep it, and tell their bytes, have it; none of them is refilled. They are as long as
-- it says where it names all boundaries of the line: those of one that names fewer are longer.
pub record StandsLabeled {R : Type 0} (rack : Ghosts R) (line : Shape) (store : Store R) (label : Option KeptLabel) (last : Option LastLabel) : Type 0 where
  pub kept : IsKeptOf last label
  pub holds : IfSome last (λ label. HoldsLabel label (rack.bytes (rack_of store)))
  pub sizes : IfSome last (λ label. label.shape ≡ line → AreSized rack store label)
  pub of_array : IfSome last (IsOfBoundariesInUse line (shape_of store))
  pub filling : (q : ℕ) → is_filling (members_of store q) ≡ true → keeps_label last q ≡ false
  pub fresh : AreFresh rack store last
