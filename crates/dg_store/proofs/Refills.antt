-- One boundary of a store was refilled, noted on, or made longer: what its clauses say of the members, their lengths and slots.
use Rattle.std.proofs.Common.{◌≡◌, ◌≢◌, ◌⊎◌, inl, inr, ℕ, ◌+◌, ◌/◌, ◌-◌, ◌≤◌, ◌<◌, ◌++◌, Bool, List, length, take, drop, replicate, refl, sym, ◌∙◌, ap, subst, arith, length-append}
use Rattle.std.specs.Prelude.{◌↔◌, IfSome, IsSome, Option, Some, None, slice_get, if◌then◌else◌}
use Rattle.std.proofs.lemmas.Bool.{cases_eq, false≢true}
use Rattle.std.proofs.lemmas.List.{length-drop, length-replicate, length-take-le}
use Rattle.dg_io.specs.Told.{Extended, IsSame, IsZeros, OthersSame, Patched, Told}
use Rattle.dg_model.specs.Members.{ArePaired, IsRefilled, MembersFall, is_filling, is_good, partner_of}
use Rattle.dg_model.proofs.SiteLists.{apart_test, same_test}
use Rattle.dg_model.specs.Saves.{member_length}
use Rattle.dg_model.specs.declared.members.MemberState.{MemberState}
use Rattle.dg_model.specs.declared.members.MemberState.TheVariants.{Good, Filling, Out}
use Rattle.dg_model.specs.declared.shapes.Shape.{Shape}
use Rattle.dg_pair.specs.declared.boundaries.Boundary.{Boundary}
use Rattle.dg_pair.specs.declared.boundaries.CopyAnswer.{CopyAnswer}
use Rattle.dg_pair.specs.declared.boundaries.CopyAnswer.TheVariants.{Copied, Lost as CopyLost, Fell}
use Rattle.dg_pair.specs.declared.boundaries.ExtendAnswer.{ExtendAnswer}
use Rattle.dg_pair.specs.declared.boundaries.ExtendAnswer.TheVariants.{Extended as ExtendedTo, NotGood as ExtendNotGood, Fell as ExtendFell}
use Rattle.dg_pair.specs.declared.boundaries.NoteAnswer.{NoteAnswer}
use Rattle.dg_pair.specs.declared.boundaries.NoteAnswer.TheVariants.{Noted, NotGood, Fell as NoteFell}
use Rattle.dg_pair.specs.declared.boundaries.ReplaceAnswer.{ReplaceAnswer}
use Rattle.dg_pair.specs.declared.boundaries.ReplaceAnswer.TheVariants.{Replaced, Lost, NotOut, Failed}
use Rattle.dg_pair.specs.Boundaries.{HasNext, IsFilling, members_of, raised, slots_of}
use Rattle.dg_pair.specs.Calls.{copied, replaced}
use Rattle.dg_store.specs.Answers.{ChangesAt, HasAllSlots, HasNextSlot}
use Rattle.dg_store.specs.Rows.{RowStands, members_in}
use Rattle.dg_store.proofs.Calls.{same_long}
use Rattle.dg_store.proofs.Changed.{IsChanged}
use Rattle.dg_store.proofs.Rows.{set_changed}

abbrev pub IsLong : Shape → Option (List ℕ) → Type 0
IsLong shape told = IfSome told (λ all. member_length 1 shape ≤ length all)

-- a label fits before the slots
pub label_fits : (shape : Shape) (told : Option (List ℕ)) → IsLong shape told → IfSome told (λ all. 512 ≤ length all)
label_fits shape None long = tt
label_fits shape (Some all) long = omega (arith, long)

-- ---- replacements

replaced_here : (p : ℕ) (members : ℕ → MemberState) → replaced Replaced p members p ≡ Filling 0
replaced_here p members = ap (λ (b : Bool). if b then Filling 0 else members p) (same_test p p refl)

pub replaced_other : (a : ReplaceAnswer) (p : ℕ) (members : ℕ → MemberState) (q : ℕ) → q ≢ p → replaced a p members q ≡ members q
replaced_other Replaced p members q other = ap (λ (b : Bool). if b then Filling 0 else members q) (apart_test q p other)
replaced_other Lost p members q other = refl
replaced_other NotOut p members q other = refl
replaced_other Failed p members q other = refl

-- the members of the row, by those of the boundary
pub replaced_changed : (a : ReplaceAnswer) (s p : ℕ) (x y old new : ℕ → MemberState) → p / 2 ≡ s → IsChanged s x y old new → ((q : ℕ) → y q ≡ replaced a p x q) → (q : ℕ) → new q ≡ replaced a p old q
replaced_changed a s p x y old new at changed is q = elim (cases_eq (q / 2) s) [
  | inl here ↦ elim (cases_eq q p) [
    | inl same ↦ changed.here q here ∙ is q ∙ part a q same here
    | inr other ↦ changed.here q here ∙ is q ∙ replaced_other a p x q other ∙ sym (changed.was q here) ∙ sym (replaced_other a p old q other)
  ]
  | inr off ↦ changed.other q off ∙ sym (replaced_other a p old q (λ same. off (ap (λ (r : ℕ). r / 2) same ∙ at)))
]
  where
    part : (a : ReplaceAnswer) (q : ℕ) → q ≡ p → q / 2 ≡ s → replaced a p x q ≡ replaced a p old q
    part Replaced q same here =
        ap (λ (b : Bool). if b then Filling 0 else x q) (same_test q p same)
        ∙ sym (ap (λ (b : Bool). if b then Filling 0 else old q) (same_test q p same))
    part Lost q same here = sym (changed.was q here)
    part NotOut q same here = sym (changed.was q here)
    part Failed q same here = sym (changed.was q here)

blank_is_long : (shape : Shape) (size : ℕ) (before now : Option (List ℕ)) → member_length 1 shape ≤ size → Told (IsZeros size) before now → IsLong shape now
blank_is_long shape size before None least made = tt
blank_is_long shape size None (Some b) least made = absurd made
blank_is_long shape size (Some a) (Some b) least made = omega (arith, ap length made, length-replicate {A = ℕ} size 0)

-- each member is long enough after a replacement
pub replaced_long : (shape : Shape) (p size : ℕ) (a : ReplaceAnswer) (x y : ℕ → MemberState) (before now : ℕ → Option (List ℕ)) → member_length 1 shape ≤ size
    → ((q : ℕ) → y q ≡ replaced a p x q)
    → (a ≡ NotOut) ↔ (x p ≢ Out)
    → (a ≡ Replaced → Told (IsZeros size) (before p) (now p))
    → OthersSame p before now
    → ((a ≡ Lost) ⊎ (a ≡ NotOut) → now ≡ before)
    → (q : ℕ) → (x q ≢ Out → IsLong shape (before q)) → y q ≢ Out → IsLong shape (now q)
replaced_long shape p size a x y before now least is not_out made others quiet q long serving = elim (cases_eq q p) [
  | inl same ↦ subst (λ (r : ℕ). IsLong shape (now r)) (sym same) (here a (subst (λ (r : ℕ). y r ≢ Out) same serving) (is p) not_out made quiet (subst (λ (r : ℕ). x r ≢ Out → IsLong shape (before r)) same long))
  | inr other ↦ same_long shape (before q) (now q) (others q other) (long (λ out. serving (is q ∙ replaced_other a p x q other ∙ out)))
]
  where
    here : (a : ReplaceAnswer) → y p ≢ Out → y p ≡ replaced a p x p → (a ≡ NotOut) ↔ (x p ≢ Out) → (a ≡ Replaced → Told (IsZeros size) (before p) (now p))
        → ((a ≡ Lost) ⊎ (a ≡ NotOut) → now ≡ before) → (x p ≢ Out → IsLong shape (before p)) → IsLong shape (now p)
    here Replaced stands is not_out made quiet long = blank_is_long shape size (before p) (now p) least (made refl)
    here Lost stands is not_out made quiet long = absurd (let e = not_out.1 (λ out. stands (is ∙ out)) in cc e)
    here NotOut stands is not_out made quiet long = subst (λ (b : ℕ → Option (List ℕ)). IsLong shape (b p)) (sym (quiet (inr refl))) (long (λ out. stands (is ∙ out)))
    here Failed stands is not_out made quiet long = absurd (let e = not_out.1 (λ out. stands (is ∙ out)) in cc e)

-- ---- copies

copied_out : (a : CopyAnswer) (members : ℕ → MemberState) (q : ℕ) → members q ≡ Out → copied a members q ≡ Out
copied_out Copied members q out = ap raised out
copied_out CopyLost members q out = out
copied_out Fell members q out = out

-- a member that isn't out after a copy wasn't before
pub copied_in : (f g : ℕ → ℕ) (a : CopyAnswer) (x y : ℕ → MemberState) → MembersFall f g (copied a x) y → (q : ℕ) → y q ≢ Out → x q ≢ Out
copied_in f g a x y falls q serving out = elim (falls q) [
  | inl same ↦ serving (same ∙ copied_out a x q out)
  | inr fell ↦ serving fell.out
]

copied_same : (a : CopyAnswer) (members : ℕ → MemberState) (q : ℕ) → a ≢ Copied → copied a members q ≡ members q
copied_same Copied members q ne = absurd (ne refl)
copied_same CopyLost members q ne = refl
copied_same Fell members q ne = refl

falls_from : (f g : ℕ → ℕ) (x y z : ℕ → MemberState) → ((q : ℕ) → z q ≡ x q) → MembersFall f g z y → MembersFall f g x y
falls_from f g x y z same falls q = elim (falls q) [
  | inl is ↦ inl (is ∙ same q)
  | inr fell ↦ inr (record { out = fell.out; caused = elim fell.caused [ inl rose ↦ inl rose | inr partner ↦ inr (sym (ap is_filling (same q)) ∙ partner.0, partner.1) ] })
]

-- where the slot wasn't copied, members only fell
pub uncopied_falls : (f g : ℕ → ℕ) (a : CopyAnswer) (x y : ℕ → MemberState) → a ≢ Copied → MembersFall f g (copied a x) y → MembersFall f g x y
uncopied_falls f g a x y ne falls = falls_from f g x y (copied a x) (λ q. copied_same a x q ne) falls

-- ---- the member that is refilled

-- each member of the boundary changed so
pub changes_at : (change : MemberState → MemberState) (s : ℕ) (x y old new : ℕ → MemberState) → IsChanged s x y old new → ((q : ℕ) → y q ≡ change (x q)) → ChangesAt change s old new
changes_at change s x y old new changed is = record {
  here = λ q at. changed.here q at ∙ is q ∙ ap change (sym (changed.was q at));
  others = λ q off. changed.other q off;
}

filling_same : (a b : ℕ) → Filling a ≡ Filling b → a ≡ b
filling_same a b e = cc e

-- one member alone is refilled
two_filling : (number : ℕ) (members : ℕ → MemberState) (q r a b : ℕ) → ((p : ℕ) → p / 2 ≢ number → members p ≡ Out) → ArePaired members → members q ≡ Filling a → members r ≡ Filling b → a ≡ b
two_filling number members q r a b own paired first second = elim (cases_eq q r) [
  | inl same ↦ filling_same a b (sym first ∙ ap members same ∙ second)
  | inr apart ↦ elim (cases_eq (q / 2) number) [
    | inl low ↦ elim (cases_eq (r / 2) number) [
      | inl high ↦
          let partner : r ≡ partner_of q = omega arith in
          let good = paired q (ap is_filling first) in
          absurd (false≢true (sym (ap is_good (ap members (sym partner) ∙ second)) ∙ good))
      | inr off ↦ absurd (let out = own r off in cc (sym second ∙ out))
    ]
    | inr off ↦ absurd (let out = own q off in cc (sym first ∙ out))
  ]
]

module _ (l slots s : ℕ) (row : List Boundary) (x : Boundary) (within : s < length row) (was : slice_get row s ≡ Some x) (stands : RowStands l slots row) where
  part_refilled : (q have : ℕ) → IsRefilled (members_in row) s q have → members_of x q ≡ Filling have
  part_refilled q have refilled = sym ((set_changed row s x x within was).was q refilled.0) ∙ refilled.1

  row_refilled : (have : ℕ) → (filling : IsFilling (members_of x) have) → IsRefilled (members_in row) s filling.member have
  row_refilled have filling =
      let at : filling.member / 2 ≡ s = elim (cases_eq (filling.member / 2) s) [
        | inl here ↦ here
        | inr off ↦ absurd (let out = (stands s x was).own filling.member off in cc (sym filling.fills ∙ out))
      ] in
      (at, (set_changed row s x x within was).was filling.member at ∙ filling.fills)

  pub part_next : HasNextSlot (members_in row) s slots → HasNext (members_of x) (slots_of x)
  part_next next = record {
    have = next.have;
    filling = record { member = next.member; fills = part_refilled next.member next.have next.refilled };
    below = let same = (stands s x was).slots_is in let low = next.below in omega (arith, same, low);
  }

  pub part_full : HasAllSlots (members_in row) s slots → IsFilling (members_of x) (slots_of x)
  part_full all = record {
    member = all.member;
    fills = subst (λ (n : ℕ). members_of x all.member ≡ Filling n) (sym (stands s x was).slots_is) (part_refilled all.member slots all.refilled);
  }

  -- the slots that are so far are all the same one
  pub one_filling : (a b : ℕ) → IsFilling (members_of x) a → IsFilling (members_of x) b → a ≡ b
  one_filling a b first second =
      let st = stands s x was in
      two_filling s (members_of x) first.member second.member a b st.own st.paired first.fills second.fills

  pub part_filling : (next : HasNextSlot (members_in row) s slots) → IsFilling (members_of x) next.have
  part_filling next = record { member = next.member; fills = part_refilled next.member next.have next.refilled }

  -- a slot that isn't the next one is none that a member is so far with
  pub not_next : (next : HasNextSlot (members_in row) s slots) (slot : ℕ) → slot ≢ next.have → ¬ IsFilling (members_of x) slot
  not_next next slot other filling = other (one_filling slot next.have filling (part_filling next))

-- ---- notes, and members that are made longer

patched_long : (shape : Shape) (place : ℕ) (piece : List ℕ) (before now : Option (List ℕ)) → Told (Patched place piece) before now → IfSome before (λ all. place + length piece ≤ length all) → IsLong shape before → IsLong shape now
patched_long shape place piece before None made fits long = tt
patched_long shape place piece None (Some b) made fits long = absurd made
patched_long shape place piece (Some a) (Some b) made fits long =
    let size : length (take place a ++ piece ++ drop (place + length piece) a) ≡ length a = omega (
      arith,
      fits,
      length-append (take place a ++ piece) (drop (place + length piece) a),
      length-append (take place a) piece,
      length-take-le place a (omega (arith, fits)),
      length-drop (place + length piece) a,
    ) in
    subst (λ (n : ℕ). member_length 1 shape ≤ n) (sym (ap length made ∙ size)) long

extended_long : (shape : Shape) (n : ℕ) (before now : Option (List ℕ)) → Told (Extended n) before now → IsLong shape before → IsLong shape now
extended_long shape n before None made long = tt
extended_long shape n None (Some b) made long = absurd made
extended_long shape n (Some a) (Some b) made long = omega (arith, long, ap length made, length-append a (replicate (n - length a) 0))

is_good_by : (m : MemberState) → (m ≢ Good → ⊥) → m ≡ Good
is_good_by Good never = refl
is_good_by (Filling have) never = absurd (never (λ is. absurd (cc is)))
is_good_by Out never = absurd (never (λ is. absurd (cc is)))

-- each member is long enough after a note
pub noted_long : (shape : Shape) (p place : ℕ) (piece : List ℕ) (a : NoteAnswer) (x y : ℕ → MemberState) (before now : ℕ → Option (List ℕ))
    → ((q : ℕ) → y q ≢ Out → x q ≢ Out)
    → (x p ≡ Good → IfSome (before p) (λ all. place + length piece ≤ length all))
    → (a ≡ NotGood) ↔ (x p ≢ Good)
    → (a ≡ NoteFell → y p ≡ Out)
    → (a ≡ Noted → Told (Patched place piece) (before p) (now p))
    → OthersSame p before now
    → (a ≡ NotGood → now ≡ before)
    → (q : ℕ) → (x q ≢ Out → IsLong shape (before q)) → y q ≢ Out → IsLong shape (now q)
noted_long shape p place piece a x y before now was fits not_good fell made others quiet q long serving = elim (cases_eq q p) [
  | inl same ↦ subst (λ (r : ℕ). IsLong shape (now r)) (sym same) (here a (subst (λ (r : ℕ). y r ≢ Out) same serving) not_good fell made quiet (subst (λ (r : ℕ). x r ≢ Out → IsLong shape (before r)) same long))
  | inr other ↦ same_long shape (before q) (now q) (others q other) (long (was q serving))
]
  where
    here : (a : NoteAnswer) → y p ≢ Out → (a ≡ NotGood) ↔ (x p ≢ Good) → (a ≡ NoteFell → y p ≡ Out) → (a ≡ Noted → Told (Patched place piece) (before p) (now p)) → (a ≡ NotGood → now ≡ before) → (x p ≢ Out → IsLong shape (before p)) → IsLong shape (now p)
    here Noted stands not_good fell made quiet long = patched_long shape place piece (before p) (now p) (made refl) (fits (is_good_by (x p) (λ ne. let e = not_good.1 ne in absurd (cc e)))) (long (was p stands))
    here NotGood stands not_good fell made quiet long = subst (λ (b : ℕ → Option (List ℕ)). IsLong shape (b p)) (sym (quiet refl)) (long (was p stands))
    here NoteFell stands not_good fell made quiet long = absurd (stands (fell refl))

-- the same after it was made longer
pub extended_is_long : (shape : Shape) (p size : ℕ) (a : ExtendAnswer) (x y : ℕ → MemberState) (before now : ℕ → Option (List ℕ))
    → ((q : ℕ) → y q ≢ Out → x q ≢ Out)
    → (a ≡ ExtendFell → y p ≡ Out)
    → (a ≡ ExtendedTo → Told (Extended size) (before p) (now p))
    → OthersSame p before now
    → (a ≡ ExtendNotGood → now ≡ before)
    → (q : ℕ) → (x q ≢ Out → IsLong shape (before q)) → y q ≢ Out → IsLong shape (now q)
extended_is_long shape p size a x y before now was fell made others quiet q long serving = elim (cases_eq q p) [
  | inl same ↦ subst (λ (r : ℕ). IsLong shape (now r)) (sym same) (here a (subst (λ (r : ℕ). y r ≢ Out) same serving) fell made quiet (subst (λ (r : ℕ). x r ≢ Out → IsLong shape (before r)) same long))
  | inr other ↦ same_long shape (before q) (now q) (others q other) (long (was q serving))
]
  where
    here : (a : ExtendAnswer) → y p ≢ Out → (a ≡ ExtendFell → y p ≡ Out) → (a ≡ ExtendedTo → Told (Extended size) (before p) (now p)) → (a ≡ ExtendNotGood → now ≡ before) → (x p ≢ Out → IsLong shape (before p)) → IsLong shape (now p)
    here ExtendedTo stands fell made quiet long = extended_long shape size (before p) (now p) (made refl) (long (was p stands))
    here ExtendNotGood stands fell made quiet long = subst (λ (b : ℕ → Option (List ℕ)). IsLong shape (b p)) (sym (quiet refl)) (long (was p stands))
    here ExtendFell stands fell made quiet long = absurd (stands (fell refl))

pub same_told : (told : Option (List ℕ)) → Told IsSame told told
same_told None = tt
same_told (Some all) = refl

-- a member that is good while a slot is copied tells its bytes, where each good one does afterwards
pub copy_told : (s q : ℕ) (x y old new : ℕ → MemberState) → IsChanged s x y old new → ((r : ℕ) → y r ≡ raised (x r)) → ((r : ℕ) → r / 2 ≢ s → x r ≡ Out)
    → (bytes : ℕ → Option (List ℕ)) → ((r : ℕ) → new r ≡ Good → IsSome (bytes r)) → x q ≡ Good → IsSome (bytes q)
copy_told s q x y old new changed is own bytes told good = elim (cases_eq (q / 2) s) [
  | inl at ↦ told q (changed.here q at ∙ is q ∙ ap raised good)
  | inr off ↦ absurd (let out = own q off in cc (sym good ∙ out))
]
