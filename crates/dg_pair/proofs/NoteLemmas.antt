-- A write beside the slots leaves them.
use Rattle.std.proofs.Common.{◌≡◌, ◌≢◌, ◌⊎◌, inl, inr, ℕ, ◌+◌, ◌≤◌, ◌<◌, List, length, refl, sym, ◌∙◌, ap, subst, arith}
use Rattle.std.specs.Prelude.{◌↔◌, Option, Some, None, IfSome}
use Rattle.std.proofs.lemmas.Bool.{cases_eq}
use Rattle.dg_model.specs.Members.{place_of, serves, SlotOf, SlotHolds, HasRoom, MembersFall}
use Rattle.dg_model.specs.declared.members.MemberState.{MemberState}
use Rattle.dg_model.specs.declared.members.MemberState.TheVariants.{Good, Filling, Out}
use Rattle.dg_io.specs.Told.{Told, IsSame, Patched, Torn, OthersSame}
use Rattle.dg_pair.specs.declared.boundaries.NoteAnswer.{NoteAnswer}
use Rattle.dg_pair.specs.declared.boundaries.NoteAnswer.TheVariants.{Noted, NotGood, Fell}
use Rattle.dg_pair.specs.Boundaries.{MembersFit}
use Rattle.dg_pair.proofs.RangeLemmas.{torn_before, torn_behind}
use Rattle.dg_pair.proofs.SlotLemmas.{slot_end, patched_torn, torn_same}

good_or : (m : MemberState) → (m ≡ Good) ⊎ (m ≢ Good)
good_or Good = inl refl
good_or (Filling have) = inr (λ e. cc)
good_or Out = inr (λ e. cc)

-- whatever the answer, each member is torn at that place at most
pub note_torn : (answer : NoteAnswer) (m : MemberState) (p place : ℕ) (piece : List ℕ) (old new : ℕ → Option (List ℕ)) → (answer ≡ NotGood) ↔ (m ≢ Good) → (m ≡ Good → IfSome (old p) (λ all. place + length piece ≤ length all)) → (answer ≡ Noted → Told (Patched place piece) (old p) (new p)) → (answer ≡ Fell → Told (Torn place (length piece)) (old p) (new p)) → (answer ≡ NotGood → Told IsSame (old p) (new p)) → OthersSame p old new → (q : ℕ) → Told (Torn place (length piece)) (old q) (new q)
note_torn answer m p place piece old new not_good fits noted torn quiet others q = elim (cases_eq q p) [
  | inl e ↦ subst (λ (n : ℕ). Told (Torn place (length piece)) (old n) (new n)) (sym e) (at_p answer refl)
  | inr other ↦ torn_same place (length piece) (old q) (new q) (others q other)
] where
  at_p : (a : NoteAnswer) → answer ≡ a → Told (Torn place (length piece)) (old p) (new p)
  at_p Noted e = elim (good_or m) [
    | inl good ↦ patched_torn place piece (old p) (new p) (fits good) (noted e)
    | inr other ↦ absurd (let is = not_good.1 other in cc)
  ]
  at_p NotGood e = torn_same place (length piece) (old p) (new p) (quiet e)
  at_p Fell e = torn e

-- a slot of a member that is torn beside the slots
torn_slot : (l slots x place n : ℕ) (v : List ℕ) (old new : Option (List ℕ)) → x < slots → (place + n ≤ 512) ⊎ (place_of l slots ≤ place) → Told (Torn place n) old new → SlotOf l x v old → SlotOf l x v new
torn_slot l slots x place n v old None below beside torn had = tt
torn_slot l slots x place n v None (Some b) below beside torn had = absurd torn
torn_slot l slots x place n v (Some a) (Some b) below beside torn had = elim beside [
  | inl before ↦ torn_behind place n a b torn (place_of l x) (place_of l x + l) (omega arith) ∙ had
  | inr behind ↦ let end = slot_end l slots x below in torn_before place n a b torn (place_of l x) (place_of l x + l) (omega arith) (omega arith) ∙ had
]

torn_room : (l slots place n : ℕ) (old new : Option (List ℕ)) → Told (Torn place n) old new → HasRoom l slots old → HasRoom l slots new
torn_room l slots place n old None torn had = tt
torn_room l slots place n None (Some b) torn had = absurd torn
torn_room l slots place n (Some a) (Some b) torn had = omega (arith, torn.size)

module _ (l slots place n : ℕ) (old new : ℕ → MemberState) (f g : ℕ → ℕ) (before now : ℕ → Option (List ℕ)) (falls : MembersFall f g old new) (torn : (q : ℕ) → Told (Torn place n) (before q) (now q)) where
  pub note_holds : (s x : ℕ) (v : List ℕ) → x < slots → (place + n ≤ 512) ⊎ (place_of l slots ≤ place) → SlotHolds l old before s x v → SlotHolds l new now s x v
  note_holds s x v below beside had q mine serves_new = elim (falls q) [
    | inl same ↦ torn_slot l slots x place n v (before q) (now q) below beside (torn q) (had q mine (ap (λ (m : MemberState). serves m x) (sym same) ∙ serves_new))
    | inr fell ↦ absurd (let out = ap (λ (m : MemberState). serves m x) fell.out in cc)
  ]

  pub note_fits : MembersFit l slots old before → MembersFit l slots new now
  note_fits had q other = elim (falls q) [
    | inl same ↦ torn_room l slots place n (before q) (now q) (torn q) (had q (λ out. other (same ∙ out)))
    | inr fell ↦ absurd (other fell.out)
  ]

pub same_as : (old new : Option (List ℕ)) → new ≡ old → Told IsSame old new
same_as None new is = subst (λ (o : Option (List ℕ)). Told IsSame None o) (sym is) tt
same_as (Some a) new is = subst (λ (o : Option (List ℕ)). Told IsSame (Some a) o) (sym is) refl
