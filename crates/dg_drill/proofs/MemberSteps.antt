-- A drill without faults: which members are out, and so which boundary is lost.
use Rattle.std.proofs.Common.{◌≡◌, ◌≢◌, ◌<◌, ◌+◌, ◌*◌, ◌/◌, ◌==◌, ℕ, zero, suc, Bool, true, false, cond, refl, sym, ◌∙◌, ap, inl, inr, arith}
use Rattle.std.specs.Prelude.{nat_lt}
use Rattle.std.proofs.lemmas.Bool.{cases_eq, eq-eqb, lt-ltb, ne_eqb, false≢true}
use Rattle.dg_model.specs.Causes.{NoneRose}
use Rattle.dg_model.specs.Members.{IsStruck, MembersFall, is_filling, is_lost}
use Rattle.dg_model.specs.Moves.{count_upto}
use Rattle.dg_model.specs.declared.members.MemberState.{MemberState}
use Rattle.dg_model.specs.declared.members.MemberState.TheVariants.{Good, Out}
use Rattle.dg_model.proofs.MemberLaws.{stays_where_none}
use Rattle.dg_model.proofs.SumLaws.{count_same}

-- ---- the members of the drill's array: four boundaries

-- before the losses
abbrev pub good_member : ℕ → MemberState
good_member q = cond (nat_lt (q / 2) 4) Good Out

-- once side 0 of boundary s failed, and once both sides did
abbrev pub half_member : ℕ → ℕ → MemberState
half_member s q = cond (q == 2 * s + 0) Out (good_member q)

abbrev pub lost_member : ℕ → ℕ → MemberState
lost_member s q = cond (q == 2 * s + 1) Out (half_member s q)

-- each member does what this function says
abbrev pub Do : (ℕ → MemberState) → (ℕ → MemberState) → Type 0
Do members should = (q : ℕ) → members q ≡ should q

-- none of them is refilled
abbrev pub AreWhole : (ℕ → MemberState) → Type 0
AreWhole should = (q : ℕ) → is_filling (should q) ≡ false

unfilled : (b : Bool) (state : MemberState) → is_filling state ≡ false → is_filling (cond b Out state) ≡ false
unfilled true state none = refl
unfilled false state none = none

good_unfilled : (b : Bool) → is_filling (cond b Good Out) ≡ false
good_unfilled true = refl
good_unfilled false = refl

pub good_whole : AreWhole good_member
good_whole q = good_unfilled (nat_lt (q / 2) 4)

pub half_whole : (s : ℕ) → AreWhole (half_member s)
half_whole s q = unfilled (q == 2 * s + 0) (good_member q) (good_whole q)

pub lost_whole : (s : ℕ) → AreWhole (lost_member s)
lost_whole s q = unfilled (q == 2 * s + 1) (half_member s q) (half_whole s q)

-- without a fault they stay
pub do_stay : (before now : ℕ → ℕ) (old new should : ℕ → MemberState) → NoneRose before now → AreWhole should → Do old should → MembersFall before now old new → Do new should
do_stay before now old new should none whole act falls q =
    stays_where_none before now old new none (λ p. ap is_filling (act p) ∙ whole p) falls q ∙ act q

-- one of them is made to fail
pub do_struck : (struck : ℕ) (old new should : ℕ → MemberState) → AreWhole should → Do old should → IsStruck struck old new
    → Do new (λ q. cond (q == struck) Out (should q))
do_struck struck old new should whole act is q = elim (cases_eq q struck) [
  | inl same ↦
      let test : (q == struck) ≡ true = eq-eqb q struck same in
      rw test (ap new same ∙ is.out)
  | inr other ↦
      let test : (q == struck) ≡ false = ne_eqb q struck other in
      rw test (stays_as q other)
]
  where
    stays_as : (p : ℕ) → p ≢ struck → new p ≡ should p
    stays_as p other = elim (is.others p other) [
      | inl same ↦ same ∙ act p
      | inr left ↦ absurd (false≢true (sym (ap is_filling (act p) ∙ whole p) ∙ left.0))
    ]

-- ---- the members of a boundary that fails

pub first_good : (s : ℕ) → s < 4 → good_member (2 * s + 0) ≡ Good
first_good s low = let here : (2 * s + 0) / 2 < 4 = omega (arith, low) in rw (lt-ltb ((2 * s + 0) / 2) 4 here) refl

pub second_good : (s : ℕ) → s < 4 → half_member s (2 * s + 1) ≡ Good
second_good s low =
    let here : (2 * s + 1) / 2 < 4 = omega (arith, low) in
    let other : (2 * s + 1 == 2 * s + 0) ≡ false = ne_eqb (2 * s + 1) (2 * s + 0) (λ e. omega (arith, e)) in
    rw (other, lt-ltb ((2 * s + 1) / 2) 4 here) refl

-- ---- lost boundaries

lost_same : (members should : ℕ → MemberState) (s : ℕ) → Do members should → is_lost members s ≡ is_lost should s
lost_same members should s act = rw (act (2 * s), act (2 * s + 1)) refl

-- before the losses none is
pub none_lost : (members : ℕ → MemberState) (t : ℕ) → Do members good_member → t < 4 → is_lost members t ≡ false
none_lost members t act low = rw (act (2 * t) ∙ good) refl
  where
    good : good_member (2 * t) ≡ Good
    good = let here : 2 * t / 2 < 4 = omega (arith, low) in rw (lt-ltb (2 * t / 2) 4 here) refl

-- the boundary whose members failed is lost
pub is_lost_here : (members : ℕ → MemberState) (s : ℕ) → Do members (lost_member s) → is_lost members s ≡ true
is_lost_here members s act =
    let first : lost_member s (2 * s) ≡ Out = first_out in
    let second : lost_member s (2 * s + 1) ≡ Out = second_out in
    rw (act (2 * s) ∙ first, act (2 * s + 1) ∙ second) refl
  where
    first_out : lost_member s (2 * s) ≡ Out
    first_out =
        let other : (2 * s == 2 * s + 1) ≡ false = ne_eqb (2 * s) (2 * s + 1) (λ e. omega (arith, e)) in
        let same : (2 * s == 2 * s + 0) ≡ true = eq-eqb (2 * s) (2 * s + 0) (omega arith) in
        rw (other, same) refl

    second_out : lost_member s (2 * s + 1) ≡ Out
    second_out = let same : (2 * s + 1 == 2 * s + 1) ≡ true = eq-eqb (2 * s + 1) (2 * s + 1) refl in rw same refl

-- each other one of the array stands
pub stands_there : (members : ℕ → MemberState) (s t : ℕ) → Do members (lost_member s) → t < 4 → t ≢ s → is_lost members t ≡ false
stands_there members s t act low other = rw (act (2 * t) ∙ good) refl
  where
    good : lost_member s (2 * t) ≡ Good
    good =
        let one : (2 * t == 2 * s + 1) ≡ false = ne_eqb (2 * t) (2 * s + 1) (λ e. other (omega (arith, e))) in
        let two : (2 * t == 2 * s + 0) ≡ false = ne_eqb (2 * t) (2 * s + 0) (λ e. other (omega (arith, e))) in
        let here : 2 * t / 2 < 4 = omega (arith, low) in
        rw (one, two, lt-ltb (2 * t / 2) 4 here) refl

-- so one boundary is lost
pub one_lost : (members : ℕ → MemberState) (s : ℕ) → s < 4 → Do members (lost_member s) → count_upto 4 (is_lost members) < 3
one_lost members s low act =
    let same = count_same 4 (is_lost (lost_member s)) (is_lost members) (λ t. lost_same members (lost_member s) t act) in
    omega (arith, same, by_boundary s low)
  where
    by_boundary : (s : ℕ) → s < 4 → count_upto 4 (is_lost (lost_member s)) < 3
    by_boundary zero low = omega arith
    by_boundary (suc zero) low = omega arith
    by_boundary (suc (suc zero)) low = omega arith
    by_boundary (suc (suc (suc zero))) low = omega arith
    by_boundary (suc (suc (suc (suc s)))) low = absurd (omega (arith, low))
