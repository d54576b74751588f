-- What opening a seal, and saving, leave of an array and its label.
use Rattle.std.specs.Prelude.{◌≡◌, ◌*◌, ℕ, true, false, List, Option, Some}
use Rattle.dg_io.specs.RackCalls.{RackCall}
use Rattle.dg_io.specs.Told.{IsSame}
use Rattle.dg_io.specs.declared.outside.Rack.{Ghosts}
use Rattle.dg_label.specs.Labels.{IsLabeled, StandsLabeled, is_sealed, next_number, unsealed}
use Rattle.dg_label.specs.Pages.{OpensMember, page_of}
use Rattle.dg_label.specs.declared.labels.KeptLabel.{KeptLabel}
use Rattle.dg_label.specs.declared.saves.SaveAnswer.{SaveAnswer}
use Rattle.dg_label.specs.declared.saves.SaveAnswer.TheVariants.{Lost, Saved}
use Rattle.dg_model.specs.Members.{MembersFall, is_good}
use Rattle.dg_model.specs.Seals.{LastLabel, label_after}
use Rattle.dg_model.specs.States.{IsLeastLost}
use Rattle.dg_model.specs.declared.shapes.Shape.{Shape}
use Rattle.dg_store.specs.Leaves.{BytesChange, CallsAtMost, HasWritten, IsCallBelow, KeepsOut, PutsOut, StaysBy}
use Rattle.dg_store.specs.Stores.{IsSound, KeepsBlocks, members_of, rack_of, shape_of, table_of}
use Rattle.dg_store.specs.declared.store.Store.{Store}

-- some member is good; none is
abbrev pub HasGood : {R : Type 0} → Store R → Type 0
HasGood store = (q : ℕ) × (is_good (members_of store q) ≡ true)

abbrev pub HasNoGood : {R : Type 0} → Store R → Type 0
HasNoGood store = (q : ℕ) → is_good (members_of store q) ≡ false

-- What writing beside the slots leaves of an array: no site moves, only members that aren't out are called, they only fall, and each block
-- keeps its value. `may` is which calls it makes of the rack.
pub record KeepsArrayBy {R : Type 0} (rack : Ghosts R) (may : ℕ → RackCall → Type 0) (old new : Store R) : Type 0 where
  pub sound : IsSound rack new
  pub stays : StaysBy rack may old new
  pub idle : KeepsOut rack old new
  pub fell : PutsOut rack old new
  pub table : table_of new ≡ table_of old
  pub falls : MembersFall (rack.counts (rack_of old)).faults (rack.counts (rack_of new)).faults (members_of old) (members_of new)
  pub stands : KeepsBlocks rack old new

-- the same where members are read and written alone
abbrev pub KeepsArray : {R : Type 0} → Ghosts R → Store R → Store R → Type 0
KeepsArray rack old new = KeepsArrayBy rack IsCallBelow old new

-- The seal of this label was opened: what that leaves of the members that were good, and of the others.
pub record OpensMembers {R : Type 0} (rack : Ghosts R) (kept : KeptLabel) (old new : Store R) : Type 0 where
  pub good : (q : ℕ) → is_good (members_of old q) ≡ true
      → BytesChange rack old new q
      (OpensMember (rack.steady (rack_of old)) (page_of (shape_of old) (record kept { sealed = false }) q) (is_good (members_of new q)))
  pub bad : (q : ℕ) → is_good (members_of old q) ≡ false → BytesChange rack old new q IsSame

-- The seal was opened: on each member that was good and still is, the label stands with its seal opened. Where it wasn't sealed, nothing
-- was done. Where some member was good, a call that writes was made, also where it failed. The label stays that of an array of the line, whatever this is.
pub record OpensSeal {R : Type 0} (rack : Ghosts R) (old new : Store R) (before after : Option KeptLabel) : Type 0 where
  pub array : KeepsArray rack old new
  pub labeled : (line : Shape) → IsLabeled rack line old before → IsLabeled rack line new after
  pub after_is : after ≡ unsealed before
  pub quiet : is_sealed before ≡ false → new ≡ old
  pub stands : (line : Shape) (last : Option LastLabel) → IsLabeled rack line old before → is_sealed before ≡ true
      → StandsLabeled rack line old before last → StandsLabeled rack line new after (label_after true (members_of old) (members_of new) last)
  pub members : (kept : KeptLabel) → before ≡ Some kept → kept.sealed ≡ true → OpensMembers rack kept old new
  pub wrote : is_sealed before ≡ true → HasGood old → HasWritten rack old new
  pub most : CallsAtMost rack old new (2 * (shape_of old).b)

-- the label that a save leaves: on each good member, sealed, under this number, beside this body
abbrev pub saved_label : {R : Type 0} → Store R → ℕ → List ℕ → LastLabel
saved_label store sequence body = record {
  format = 2;
  sequence = sequence;
  sealed = true;
  shape = shape_of store;
  body = body;
  keepers = λ q. is_good (members_of store q);
  bodies = λ q. is_good (members_of store q);
  numbers = λ q. q;
}

-- By the answer: wherever an array of the line stood with its label, each good member has the body and the label now, sealed, under the next number; or
-- none is good, and of the label the numbers stay.
abbrev pub AnswersSave : {R : Type 0} → Ghosts R → Shape → List ℕ → Store R → Store R → Option KeptLabel → Option KeptLabel → SaveAnswer → Type 0
AnswersSave rack line body old new before after (Saved sequence) =
    HasGood new × (sequence ≡ next_number before)
    × ((last : Option LastLabel) → StandsLabeled rack line old before last → StandsLabeled rack line new after (Some (saved_label new sequence body)))
AnswersSave rack line body old new before after (Lost s) = HasNoGood new × IsLeastLost (shape_of new) (members_of new) s × (after ≡ before)
