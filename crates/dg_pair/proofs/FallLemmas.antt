-- The second call, after the first of two members that serve has fallen.
use Rattle.std.proofs.Common.{◌≡◌, ◌≢◌, inl, inr, ℕ, ◌+◌, ◌*◌, ◌/◌, ◌≤◌, List, false, sym, ◌∙◌, subst, arith}
use Rattle.std.specs.Prelude.{Option, Some, None}
use Rattle.std.proofs.lemmas.Bool.{cases_eq}
use Rattle.std.proofs.lemmas.Bool.Decides.{nat_tests}
use Rattle.dg_model.specs.Causes.{Rose}
use Rattle.dg_model.specs.Members.{serves, place_of, slot_of, SlotOf, MembersFall}
use Rattle.dg_model.specs.declared.members.MemberState.TheVariants.{Good}
use Rattle.dg_io.specs.Told.{Told, IsSame, Torn}
use Rattle.dg_pair.specs.declared.members.Good.{Good as GoodType}
use Rattle.dg_pair.specs.declared.members.Out.{Out as OutType}
use Rattle.dg_pair.specs.declared.members.Member.{Member}
use Rattle.dg_pair.specs.declared.boundaries.Boundary.{Boundary}
use Rattle.dg_pair.specs.declared.boundaries.Boundary.TheVariants.{Both, Half}
use Rattle.dg_pair.specs.Boundaries.{members_of}
use Rattle.dg_pair.specs.Cases.{SlotIs, KeepsAll, KeepsOthers}
use Rattle.dg_pair.proofs.SlotLemmas.{told_same, torn_then}

-- the slots are kept by both calls
pub keeps_after : (a b : Member GoodType) (out : Member OutType) (new : Boundary) (first mid last : ℕ → Option (List ℕ)) → b.l ≡ a.l → ((q : ℕ) → Told IsSame (first q) (mid q)) → KeepsAll b.l (Half b out) mid new last → KeepsAll a.l (Both a b) first new last
keeps_after a b out new first mid last l same kept x v had =
    subst (λ (n : ℕ). SlotIs new n x v last) l (kept x v (told_same (λ all. slot_of b.l x all ≡ v) _ _ (same b.number) (subst (λ (n : ℕ). SlotOf n x v (first b.number)) (sym l) had.1)))

-- and each other slot by two writes
pub kept_after : (a b : Member GoodType) (out : Member OutType) (new : Boundary) (slot : ℕ) (first mid last : ℕ → Option (List ℕ)) → b.l ≡ a.l → a.number + b.number ≡ 4 * (a.number / 2) + 1
    → ((q : ℕ) → q ≢ a.number → Told IsSame (first q) (mid q)) → KeepsOthers b.l slot (Half b out) mid new last → KeepsOthers a.l slot (Both a b) first new last
kept_after a b out new slot first mid last l numbers same kept x v other had =
    subst (λ (n : ℕ). SlotIs new n x v last) l
    (kept x v other (told_same (λ all. slot_of b.l x all ≡ v) _ _ (same b.number (λ e. omega (arith, numbers, e))) (subst (λ (n : ℕ). SlotOf n x v (first b.number)) (sym l) had.1)))

-- members have only fallen in both calls
pub falls_after : (a b : Member GoodType) (out : Member OutType) (new : Boundary) (first mid last : ℕ → ℕ) → Rose (first a.number) (mid a.number) → ((q : ℕ) → first q ≤ mid q) → ((q : ℕ) → mid q ≤ last q) → MembersFall mid last (members_of (Half b out)) (members_of new) → MembersFall first last (members_of (Both a b)) (members_of new)
falls_after a b out new first mid last rose early late falls q = elim (falls q) [
  | inl same ↦ elim (cases_eq q b.number) [
    | inl e ↦ inl (grind (arith, nat_tests))
    | inr not_b ↦ elim (cases_eq q a.number) [
      | inl e ↦ let at_a : Rose (first q) (mid q) = subst (λ (n : ℕ). Rose (first n) (mid n)) (sym e) rose in inr (record { out = grind (arith, nat_tests); caused = inl (omega (arith, at_a, late q)) })
      | inr not_a ↦ inl (grind (arith, nat_tests))
    ]
  ]
  | inr fell ↦ elim fell.caused [
    | inl own ↦ inr (record { out = fell.out; caused = inl (omega (arith, own, early q)) })
    | inr partner ↦ absurd (let filling = partner.0 in grind (arith, nat_tests))
  ]
]

-- a member that isn't good was called by neither
pub uncalled_after : (a b : Member GoodType) (out : Member OutType) (q first mid last : ℕ) → (q ≢ a.number → mid ≡ first) → (members_of (Half b out) q ≢ Good → last ≡ mid) → members_of (Both a b) q ≢ Good → last ≡ first
uncalled_after a b out q first mid last early late other =
    let not_a : q ≢ a.number = λ e. other (grind (arith, nat_tests)) in
    let not_b : q ≢ b.number = λ e. other (grind (arith, nat_tests)) in
    late (λ good. not_b (grind (arith, nat_tests))) ∙ early not_a

-- a member that doesn't serve the slot is as it was, and was called by neither
pub untaken_after : (a b : Member GoodType) (out : Member OutType) (q slot : ℕ) (X : Type 0) → (serves (members_of (Half b out) q) slot ≡ false → q ≢ a.number → X) → serves (members_of (Both a b) q) slot ≡ false → X
untaken_after a b out q slot X both other =
    let not_a : q ≢ a.number = λ e. grind (arith, nat_tests) in
    let not_b : q ≢ b.number = λ e. grind (arith, nat_tests) in
    both (grind (arith, nat_tests)) not_a

pub same_then : (first mid last : Option (List ℕ)) → Told IsSame first mid → Told IsSame mid last → Told IsSame first last
same_then first mid None one two = tt
same_then (Some a) (Some b) (Some c) one two = two ∙ one
same_then None (Some b) (Some c) one two = absurd one
same_then first None (Some c) one two = absurd two

-- a slot of each member is torn at most
pub torn_after : (a b : Member GoodType) (slot n : ℕ) (first mid last : ℕ → Option (List ℕ)) → b.l ≡ a.l → ((q : ℕ) → Told (Torn (place_of a.l slot) n) (first q) (mid q)) → ((q : ℕ) → Told (Torn (place_of b.l slot) n) (mid q) (last q)) → (q : ℕ) → Told (Torn (place_of a.l slot) n) (first q) (last q)
torn_after a b slot n first mid last l one two q = torn_then (place_of a.l slot) n (first q) (mid q) (last q) (one q) (subst (λ (k : ℕ). Told (Torn (place_of k slot) n) (mid q) (last q)) l (two q))
