-- Calls in which no count of faults rose.
use Rattle.std.proofs.Common.{◌≡◌, inl, inr, ℕ, ◌+◌, ◌*◌, ◌/◌, ◌≤◌, ◌<◌, Bool, true, false, List, length, refl, sym, ◌∙◌, ap, arith}
use Rattle.std.specs.Prelude.{◌&&◌, not, if◌then◌else◌, Some, slice_get}
use Rattle.std.proofs.lemmas.Bool.{false≢true}
use Rattle.dg_model.specs.Causes.{NoneRose}
use Rattle.dg_model.specs.Members.{ArePaired, MembersFall, is_filling, is_good, is_lost, partner_of}
use Rattle.dg_model.specs.declared.members.MemberState.{MemberState}
use Rattle.dg_model.specs.declared.members.MemberState.TheVariants.{Good, Filling, Out}
use Rattle.dg_io.specs.declared.outside.Rack.{Ghosts}
use Rattle.dg_model.specs.declared.shapes.Shape.{Shape}
use Rattle.dg_pair.specs.declared.boundaries.Boundary.{Boundary}
use Rattle.dg_pair.specs.Boundaries.{goods_in, members_of, number_of}
use Rattle.dg_pair.specs.Calls.{LeavesPair}
use Rattle.dg_store.specs.Rows.{IsRow}

good_or_filling : (m : MemberState) → is_good m ≡ true → is_filling m ≡ true → ⊥
good_or_filling Good good fills = absurd (false≢true fills)
good_or_filling (Filling have) good fills = absurd (false≢true good)
good_or_filling Out good fills = absurd (false≢true good)

-- no member fell
pub none_fell : (f g : ℕ → ℕ) (old new : ℕ → MemberState) → NoneRose f g → ArePaired old → MembersFall f g old new → (q : ℕ) → new q ≡ old q
none_fell f g old new none paired falls q = elim (falls q) [
  | inl same ↦ same
  | inr fell ↦ elim fell.caused [
    | inl rose ↦ absurd (none q rose)
    | inr partner ↦ elim (falls (partner_of q)) [
      | inl still ↦ absurd (let good = paired q partner.0 in false≢true (sym (ap is_good (sym still ∙ partner.1)) ∙ good))
      | inr also ↦ elim also.caused [
        | inl rose ↦ absurd (none (partner_of q) rose)
        | inr again ↦ absurd (good_or_filling (old (partner_of q)) (paired q partner.0) again.0)
      ]
    ]
  ]
]

pub goods_same : (f g : ℕ → MemberState) (s : ℕ) → ((q : ℕ) → q / 2 ≡ s → f q ≡ g q) → goods_in f s ≡ goods_in g s
goods_same f g s same =
    let low : (2 * s) / 2 ≡ s = omega arith in
    let high : (2 * s + 1) / 2 ≡ s = omega arith in
    ap (λ (m : MemberState). (if is_good m then 1 else 0) + (if is_good (f (2 * s + 1)) then 1 else 0)) (same (2 * s) low)
    ∙ ap (λ (m : MemberState). (if is_good (g (2 * s)) then 1 else 0) + (if is_good m then 1 else 0)) (same (2 * s + 1) high)

none_good : (a b : Bool) → (not a && not b) ≡ true → (if a then 1 else 0) + (if b then 1 else 0) ≡ 0
none_good true b lost = absurd (false≢true lost)
none_good false true lost = absurd (false≢true lost)
none_good false false lost = refl

pub goods_none : (members : ℕ → MemberState) (s : ℕ) → is_lost members s ≡ true → goods_in members s ≡ 0
goods_none members s lost = none_good (is_good (members (2 * s))) (is_good (members (2 * s + 1))) lost

one_most : (a b : Bool) → (if a then 1 else 0) + (if b then 1 else 0) ≤ 2
one_most true true = omega arith
one_most true false = omega arith
one_most false true = omega arith
one_most false false = omega arith

pub goods_most : (members : ℕ → MemberState) (s : ℕ) → goods_in members s ≤ 2
goods_most members s = one_most (is_good (members (2 * s))) (is_good (members (2 * s + 1)))

-- a boundary that was called has as many good members as before
pub still_good : {R : Type 0} (rack : Ghosts R) (shape : Shape) (s : ℕ) (row : List Boundary) (x y : Boundary) (old new : R) → s < length row → slice_get row s ≡ Some x → IsRow rack shape row old
    → NoneRose (rack.counts old).faults (rack.counts new).faults → LeavesPair rack (members_of x) x y old new → goods_in (members_of y) (number_of x) ≡ goods_in (members_of x) (number_of x)
still_good rack shape s row x y old new within was is none leaves =
    goods_same (members_of y) (members_of x) (number_of x) (λ q at. none_fell _ _ (members_of x) (members_of y) none (is.stands s x was).paired leaves.falls q)
