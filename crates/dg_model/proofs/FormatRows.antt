-- Lengths and bytes of what is saved, computed, and what they are not.
use Rattle.std.proofs.Common.{◌≡◌, ◌≤◌, ◌⊎◌, ℕ, ◌++◌, Bool, true, false, List, [], ◌∷◌, length, ap, sym, ◌∙◌, refl, inl, inr, arith}
use Rattle.std.specs.Prelude.{Option, Some, None, drop, slice_index, take}
use Rattle.std.proofs.lemmas.Bool.{false≢true}
use Rattle.dg_model.specs.Changes.{AreGoodMarks}
use Rattle.dg_model.specs.Members.{is_good}
use Rattle.dg_model.specs.Saves.{BeginsWith, CanBeSaved, HasForm, IsBody, IsLabel, Label, SavedState, body_of, front_of_body, label_bytes, member_length, phase_byte, rest_of_body}
use Rattle.dg_model.specs.Seals.{KeepsLabel, LastLabel, label_after}
use Rattle.dg_model.specs.States.{State}
use Rattle.dg_model.specs.declared.members.MemberState.{MemberState}
use Rattle.dg_model.specs.declared.members.MemberState.TheVariants.{Out}
use Rattle.dg_model.specs.declared.homes.Home.{Home}
use Rattle.dg_model.specs.declared.phases.Phase.{Phase}
use Rattle.dg_model.specs.declared.phases.Phase.TheVariants.{Loose, Settled, Worn}
use Rattle.dg_model.specs.declared.shapes.Shape.{Shape}

abbrev shape : Shape
shape = record { l = 1024; n = 128; b = 4; k = 64; m = 2 }

length_of_format_1 : member_length 1 shape ≡ 69284
length_of_format_1 = refl

length_of_format_2 : member_length 2 shape ≡ 69993
length_of_format_2 = refl

-- ---- labels

abbrev label : ℕ → Bool → Label
label format sealed = record { format = format; sequence = 3; sealed = sealed; boundary = 1; side = 0; shape = shape; body = 300 }

length_of_label : length (label_bytes (label 2 true)) ≡ 512
unfolding label_bytes
length_of_label = refl

-- the bytes before the zeros
front_of_label : take 44 (label_bytes (label 2 true)) ≡
    0x44 ∷ 0x47 ∷ 0x52 ∷ 0x41 ∷ 0x49 ∷ 0x44 ∷ 0x2d ∷ 0x32 ∷ 3 ∷ 0 ∷ 0 ∷ 0 ∷ 0 ∷ 0 ∷ 0 ∷ 0
    ∷ 0x53 ∷ 1 ∷ 0 ∷ 0 ∷ 0 ∷ 4 ∷ 0 ∷ 0 ∷ 128 ∷ 0 ∷ 0 ∷ 0 ∷ 4 ∷ 0 ∷ 0 ∷ 0 ∷ 64 ∷ 0 ∷ 0 ∷ 0 ∷ 2 ∷ 0 ∷ 0 ∷ 0 ∷ 44 ∷ 1 ∷ 0 ∷ 0 ∷ []
unfolding label_bytes
front_of_label = refl

opened_seal : drop 16 (take 17 (label_bytes (label 2 false))) ≡ 0x4f ∷ []
unfolding label_bytes
opened_seal = refl

-- a label of one format isn't read as one of the other
other_format : (all : List ℕ) → BeginsWith all (label 1 true) → BeginsWith all (label 2 true) → ⊥
unfolding label_bytes
other_format all one two = let e = ap (λ (l : List ℕ). slice_index l 7) (sym one.bytes ∙ two.bytes) in omega (arith, e)

-- nor is there a third
third_format : (last : Label) → IsLabel (record last { format = 3 }) → ⊥
third_format last is = elim is.formats [ inl one ↦ omega (arith, one) | inr two ↦ omega (arith, two) ]

-- saves are counted from 1
no_number : (last : Label) → IsLabel (record last { sequence = 0 }) → ⊥
no_number last is = omega (arith, is.first)

-- ---- bodies

-- a small state: three blocks on two boundaries, the second pending, the third on both
abbrev small : SavedState
small = record {
  phase = Settled;
  good = true ∷ true ∷ false ∷ true ∷ [];
  table = record {
    shape = record { l = 512; n = 3; b = 2; k = 2; m = 1 };
    rows = [] ∷ (record { boundary = 1; slot = 0 } ∷ []) ∷ (record { boundary = 0; slot = 1 } ∷ record { boundary = 1; slot = 2 } ∷ []) ∷ [];
  };
  pending = false ∷ true ∷ false ∷ [];
  homes = record { inode = 3; boundary = 0 } ∷ [];
  copies = record { inode = 3; boundary = 1 } ∷ [];
  recent = 3 ∷ 258 ∷ [];
}

body_in_format_1 : body_of 1 small ≡
    1 ∷ 0 ∷ 0 ∷ 0 ∷ 0 ∷ 0 ∷ 1 ∷ 0 ∷ 0 ∷ 0 ∷ 1 ∷ 1 ∷ 1 ∷ 0 ∷ 0 ∷ 0 ∷ 0 ∷ 2 ∷ 0 ∷ 0 ∷ 1 ∷ 0 ∷ 0 ∷ 0 ∷ 1 ∷ 2 ∷ 0 ∷ 0 ∷ 0
    ∷ 1 ∷ 0 ∷ 0 ∷ 0 ∷ 3 ∷ 0 ∷ 0 ∷ 0 ∷ 0 ∷ []
unfolding front_of_body rest_of_body
body_in_format_1 = refl

body_in_format_2 : body_of 2 small ≡ body_of 1 small ++ 1 ∷ 0 ∷ 0 ∷ 0 ∷ 3 ∷ 0 ∷ 0 ∷ 0 ∷ 1 ∷ 2 ∷ 3 ∷ 0 ∷ 0 ∷ 0 ∷ 2 ∷ 1 ∷ 0 ∷ 0 ∷ []
unfolding front_of_body rest_of_body
body_in_format_2 = refl

first_byte : (format : ℕ) (saved : SavedState) → (format ≡ 1) ⊎ (format ≡ 2) → slice_index (body_of format saved) 0 ≡ phase_byte saved.phase
unfolding front_of_body
first_byte format saved which = elim which [
  | inl one ↦ ap (λ f. slice_index (body_of f saved) 0) one
  | inr two ↦ ap (λ f. slice_index (body_of f saved) 0) two
]

three_phases : (phase : Phase) → phase_byte phase ≤ 2
three_phases Loose = omega arith
three_phases Settled = omega arith
three_phases Worn = omega arith

-- there is no fourth phase
fourth_phase : (format : ℕ) (bytes : List ℕ) (saved : SavedState) → IsBody format shape (3 ∷ bytes) saved → ⊥
fourth_phase format bytes saved is =
    let byte = ap (λ (l : List ℕ). slice_index l 0) is.says ∙ first_byte format saved is.form.formats in
    omega (arith, byte, three_phases saved.phase)

-- format 1 has no copies
copies_in_format_1 : HasForm 1 small → ⊥
copies_in_format_1 form = let e = ap (λ (l : List Home). length l) (form.no_copies refl) in omega (arith, e)

-- no format has them but of a settled array
copies_of_loose : CanBeSaved (record small { phase = Loose }) → ⊥
copies_of_loose can = let e = ap phase_byte (can.settled (omega arith)) in omega (arith, e)

-- ---- seals and marks

abbrev sealed_label : LastLabel
sealed_label = record { format = 2; sequence = 3; sealed = true; shape = shape; body = []; keepers = λ q. true; bodies = λ q. true; numbers = λ q. q }

abbrev seal_of : Option LastLabel → Bool
seal_of None = false
seal_of (Some last) = last.sealed

opened_by : (opens : Bool) (members : ℕ → MemberState) → opens ≡ true → seal_of (label_after opens members members (Some sealed_label)) ≡ false
opened_by true members e = refl
opened_by false members e = absurd (false≢true e)

-- a seal isn't left where members were written
seal_left : (members : ℕ → MemberState) → KeepsLabel 5 9 members members (Some sealed_label) (Some sealed_label) → ⊥
seal_left members keeps =
    let opens = keeps.rose (omega arith) (omega arith) in
    false≢true (sym (ap seal_of keeps.is ∙ opened_by keeps.opens members opens))

-- a save doesn't say good of a member that is out
good_of_out : (old new : State) (marks : List Bool) → ((q : ℕ) → old.members q ≡ Out) → AreGoodMarks old new (true ∷ marks) → ⊥
good_of_out old new marks out are = false≢true (sym (ap is_good (out 0)) ∙ are.before 0 refl)
