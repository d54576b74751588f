-- What stands beside the slots, and members that are made longer.
use Rattle.std.proofs.Common.{◌≡◌, ◌≢◌, inl, inr, ℕ, ◌+◌, ◌*◌, ◌-◌, ◌≤◌, ◌<◌, true, List, length, take, replicate, refl, sym, ◌∙◌, ap, subst, arith}
use Rattle.std.specs.Prelude.{Option, Some, None}
use Rattle.std.proofs.lemmas.Bool.{cases_eq}
use Rattle.std.proofs.lemmas.List.{take_at}
use Rattle.std.proofs.lemmas.Grind.{common_steps}
use Rattle.dg_model.specs.Members.{place_of, serves, SlotOf, SlotHolds, HasRoom, MembersFall}
use Rattle.dg_model.specs.declared.members.MemberState.{MemberState}
use Rattle.dg_model.specs.declared.members.MemberState.TheVariants.{Out}
use Rattle.dg_io.specs.Told.{Told, IsSame, Torn, Extended, KeepsFront, OthersSame}
use Rattle.dg_pair.specs.declared.boundaries.ExtendAnswer.{ExtendAnswer}
use Rattle.dg_pair.specs.declared.boundaries.ExtendAnswer.TheVariants.{Extended as ExtendedNow, NotGood, Fell}
use Rattle.dg_pair.specs.Boundaries.{MembersFit}
use Rattle.dg_pair.proofs.RangeLemmas.{torn_wider, front_range}
use Rattle.dg_pair.proofs.SlotLemmas.{slot_end, torn_same}

told_map : (f g : List ℕ → List ℕ → Type 0) → ((a b : List ℕ) → f a b → g a b) → (x y : Option (List ℕ)) → Told f x y → Told g x y
told_map f g h x None is = tt
told_map f g h (Some a) (Some b) is = h a b is
told_map f g h None (Some b) is = absurd is

-- a slot is between the label and what stands behind the slots
pub beside_slot : (l slots slot n : ℕ) (old new : Option (List ℕ)) → slot < slots → n ≡ l → Told (Torn (place_of l slot) n) old new → Told (Torn 512 (slots * l)) old new
beside_slot l slots slot n old new below is =
    let end = slot_end l slots slot below in
    told_map (Torn (place_of l slot) n) (Torn 512 (slots * l)) (λ a b torn. torn_wider (place_of l slot) n 512 (slots * l) a b (omega arith) (omega (arith, end, is)) torn) old new

pub beside_same : (l slots : ℕ) (old new : Option (List ℕ)) → Told IsSame old new → Told (Torn 512 (slots * l)) old new
beside_same l slots old new same = torn_same 512 (slots * l) old new same

extended_front : (n : ℕ) (a b : List ℕ) → Extended n a b → take (length a) b ≡ a
extended_front n a b is = ap (λ (l : List ℕ). take (length a) l) is ∙ take_at a (replicate (n - length a) 0) (length a) refl

same_front : (a b : List ℕ) → IsSame a b → take (length a) b ≡ a
same_front a b same = ap (λ (l : List ℕ). take (length a) l) same ∙ grind (arith, common_steps)

-- whatever the answer, each member begins with the bytes that it had
pub extend_front : (answer : ExtendAnswer) (p n : ℕ) (old new : ℕ → Option (List ℕ)) → (answer ≡ ExtendedNow → Told (Extended n) (old p) (new p)) → (answer ≡ Fell → Told KeepsFront (old p) (new p))
    → (answer ≡ NotGood → Told IsSame (old p) (new p)) → OthersSame p old new → (q : ℕ) → Told KeepsFront (old q) (new q)
extend_front answer p n old new done torn quiet others q = elim (cases_eq q p) [
  | inl e ↦ subst (λ (m : ℕ). Told KeepsFront (old m) (new m)) (sym e) (at_p answer refl)
  | inr other ↦ told_map IsSame KeepsFront same_front (old q) (new q) (others q other)
] where
  at_p : (a : ExtendAnswer) → answer ≡ a → Told KeepsFront (old p) (new p)
  at_p ExtendedNow e = told_map (Extended n) KeepsFront (extended_front n) (old p) (new p) (done e)
  at_p NotGood e = told_map IsSame KeepsFront same_front (old p) (new p) (quiet e)
  at_p Fell e = torn e

front_slot : (l slots x : ℕ) (v : List ℕ) (old new : Option (List ℕ)) → x < slots → HasRoom l slots old → Told KeepsFront old new → SlotOf l x v old → SlotOf l x v new
front_slot l slots x v old None below room front had = tt
front_slot l slots x v None (Some b) below room front had = absurd front
front_slot l slots x v (Some a) (Some b) below room front had =
    let end = slot_end l slots x below in
    front_range a b (place_of l x) (place_of l x + l) front (omega arith) (omega (arith, end, room)) ∙ had

front_room : (l slots : ℕ) (old new : Option (List ℕ)) → Told KeepsFront old new → HasRoom l slots old → HasRoom l slots new
front_room l slots old None front had = tt
front_room l slots None (Some b) front had = absurd front
front_room l slots (Some a) (Some b) front had = let size : length a ≤ length b = grind (arith, common_steps, ap length front) in omega (arith, size, had)

serves_some : (m : MemberState) (x : ℕ) → serves m x ≡ true → m ≢ Out
serves_some m x serving out = let e = ap (λ (k : MemberState). serves k x) (sym out) ∙ serving in cc

module _ (l slots : ℕ) (old new : ℕ → MemberState) (f g : ℕ → ℕ) (before now : ℕ → Option (List ℕ)) (falls : MembersFall f g old new) (room : MembersFit l slots old before) (front : (q : ℕ) → Told KeepsFront (before q) (now q)) where
  pub extend_holds : (s x : ℕ) (v : List ℕ) → x < slots → SlotHolds l old before s x v → SlotHolds l new now s x v
  extend_holds s x v below had q mine serving = elim (falls q) [
    | inl same ↦
        let was = ap (λ (m : MemberState). serves m x) (sym same) ∙ serving in
        front_slot l slots x v (before q) (now q) below (room q (serves_some (old q) x was)) (front q) (had q mine was)
    | inr fell ↦ absurd (serves_some (new q) x serving fell.out)
  ]

  pub extend_fits : MembersFit l slots new now
  extend_fits q other = elim (falls q) [
    | inl same ↦ front_room l slots (before q) (now q) (front q) (room q (λ out. other (same ∙ out)))
    | inr fell ↦ absurd (other fell.out)
  ]
