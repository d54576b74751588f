-- A member that is made anew.
use Rattle.std.proofs.Common.{◌≡◌, ◌≢◌, ◌⊎◌, inl, inr, ℕ, ◌≤◌, true, List, length, refl, sym, ◌∙◌, ap, subst, arith}
use Rattle.std.specs.Prelude.{◌↔◌, Option}
use Rattle.std.proofs.lemmas.Bool.{cases_eq}
use Rattle.std.proofs.lemmas.Bool.Decides.{nat_tests}
use Rattle.dg_model.specs.Members.{place_of, serves, slot_of, SlotOf, SlotHolds, HasRoom}
use Rattle.dg_model.specs.declared.members.MemberState.{MemberState}
use Rattle.dg_model.specs.declared.members.MemberState.TheVariants.{Good, Filling, Out}
use Rattle.dg_io.specs.Told.{Told, IsSame, IsZeros, OthersSame}
use Rattle.dg_pair.specs.declared.boundaries.ReplaceAnswer.{ReplaceAnswer}
use Rattle.dg_pair.specs.declared.boundaries.ReplaceAnswer.TheVariants.{Replaced, Lost, NotOut, Failed}
use Rattle.dg_pair.specs.Boundaries.{MembersFit}
use Rattle.dg_pair.specs.Calls.{replaced}
use Rattle.dg_pair.proofs.SlotLemmas.{told_same, zeros_room}

pub out_or : (m : MemberState) → (m ≡ Out) ⊎ (m ≢ Out)
out_or Good = inr (λ e. cc)
out_or (Filling have) = inr (λ e. cc)
out_or Out = inl refl

replaced_other : (answer : ReplaceAnswer) (p : ℕ) (members : ℕ → MemberState) (q : ℕ) → q ≢ p → replaced answer p members q ≡ members q
replaced_other Replaced p members q other = grind (arith, nat_tests)
replaced_other Lost p members q other = refl
replaced_other NotOut p members q other = refl
replaced_other Failed p members q other = refl

-- the member was out, and serves nothing yet
none_yet : (answer : ReplaceAnswer) (p x : ℕ) (members : ℕ → MemberState) → members p ≡ Out → serves (replaced answer p members p) x ≡ true → ⊥
none_yet Replaced p x members out serving = grind (arith, nat_tests)
none_yet Lost p x members out serving = let e = ap (λ (m : MemberState). serves m x) (sym out) ∙ serving in cc
none_yet NotOut p x members out serving = let e = ap (λ (m : MemberState). serves m x) (sym out) ∙ serving in cc
none_yet Failed p x members out serving = let e = ap (λ (m : MemberState). serves m x) (sym out) ∙ serving in cc

module _ (answer : ReplaceAnswer) (p l slots size : ℕ) (old new : ℕ → MemberState) (before now : ℕ → Option (List ℕ)) (not_out : (answer ≡ NotOut) ↔ (old p ≢ Out)) (members : (q : ℕ) → new q ≡ replaced answer p old q)
    (quiet : answer ≡ NotOut → Told IsSame (before p) (now p)) (others : OthersSame p before now) where
  pub replace_holds : (s x : ℕ) (v : List ℕ) → SlotHolds l old before s x v → SlotHolds l new now s x v
  replace_holds s x v had q mine serving = elim (cases_eq q p) [
    | inr other ↦
        let same : new q ≡ old q = members q ∙ replaced_other answer p old q other in
        told_same (λ all. slot_of l x all ≡ v) (before q) (now q) (others q other) (had q mine (ap (λ (m : MemberState). serves m x) (sym same) ∙ serving))
    | inl e ↦ subst (λ (n : ℕ). SlotOf l x v (now n)) (sym e) (elim (out_or (old p)) [
      | inl out ↦ absurd (none_yet answer p x old out (ap (λ (m : MemberState). serves m x) (sym (members p)) ∙ subst (λ (n : ℕ). serves (new n) x ≡ true) e serving))
      | inr not ↦
          let is : answer ≡ NotOut = not_out.1 not in
          let same : new p ≡ old p = members p ∙ ap (λ (a : ReplaceAnswer). replaced a p old p) is in
          told_same (λ all. slot_of l x all ≡ v) (before p) (now p) (quiet is)
          (subst (λ (n : ℕ). SlotOf l x v (before n)) e (had q mine (subst (λ (n : ℕ). serves (old n) x ≡ true) (sym e) (ap (λ (m : MemberState). serves m x) (sym same) ∙ subst (λ (n : ℕ). serves (new n) x ≡ true) e serving))))
    ])
  ]

  at_p : place_of l slots ≤ size → (answer ≡ Replaced → Told (IsZeros size) (before p) (now p)) → MembersFit l slots old before → (a : ReplaceAnswer) → answer ≡ a → new p ≢ Out → HasRoom l slots (now p)
  at_p enough blank room Replaced e other = zeros_room l slots size (before p) (now p) enough (blank e)
  at_p enough blank room NotOut e other = told_same (λ all. place_of l slots ≤ length all) (before p) (now p) (quiet e) (room p (not_out.0 e))
  at_p enough blank room Lost e other = absurd (out_stays Lost e refl other)
    where
      out_stays : (a : ReplaceAnswer) → answer ≡ a → a ≡ Lost → new p ≢ Out → ⊥
      out_stays a e1 e2 not = elim (out_or (old p)) [
        | inl out ↦ not (members p ∙ ap (λ (b : ReplaceAnswer). replaced b p old p) (e1 ∙ e2) ∙ out)
        | inr some ↦ let is : answer ≡ NotOut = not_out.1 some in cc
      ]
  at_p enough blank room Failed e other = absurd (out_stays Failed e refl other)
    where
      out_stays : (a : ReplaceAnswer) → answer ≡ a → a ≡ Failed → new p ≢ Out → ⊥
      out_stays a e1 e2 not = elim (out_or (old p)) [
        | inl out ↦ not (members p ∙ ap (λ (b : ReplaceAnswer). replaced b p old p) (e1 ∙ e2) ∙ out)
        | inr some ↦ let is : answer ≡ NotOut = not_out.1 some in cc
      ]

  pub replace_fits : place_of l slots ≤ size → (answer ≡ Replaced → Told (IsZeros size) (before p) (now p)) → MembersFit l slots old before → MembersFit l slots new now
  replace_fits enough blank room q other = elim (cases_eq q p) [
    | inr apart ↦
        let same : new q ≡ old q = members q ∙ replaced_other answer p old q apart in
        told_same (λ all. place_of l slots ≤ length all) (before q) (now q) (others q apart) (room q (λ out. other (same ∙ out)))
    | inl e ↦ subst (λ (n : ℕ). HasRoom l slots (now n)) (sym e) (at_p enough blank room answer refl (λ out. other (ap new e ∙ out)))
  ]
