-- The marks of members, by the numbers of the rack below and back.
use Rattle.std.proofs.Common.{◌≡◌, ◌≢◌, ◌∙◌, ◌+◌, ◌/◌, ◌^◌, ◌<◌, ◌≤◌, ◌&&◌, inl, inr, nat_lt, ℕ, zero, suc, Bool, true, false, List, All, length, slice_index, refl, sym, ap, subst, arith}
use Rattle.std.specs.Prelude.{◌==◌}
use Rattle.std.specs.List.Sorted.{IsStrictlyIncreasing}
use Rattle.std.proofs.lemmas.Bool.{cases_eq, cases_order, false≢true}
use Rattle.std.proofs.lemmas.Bool.Decides.{nat_tests}
use Rattle.std.proofs.lemmas.Nat.Bits.{bit_at-zero, bit_at_above}
use Rattle.dg_io.specs.Commits.{is_marked}
use Rattle.dg_model.proofs.RegroupLaws.{rises}
use Rattle.dg_model.specs.Lives.{member_at}
use Rattle.dg_regroup.specs.LivePlaces.{member_differs}
use Rattle.dg_regroup.specs.LiveRacks.{is_there}
use Rattle.dg_regroup.specs.Marks.{AreMarksBelow, AreMarksHere, IsMarkedAt, IsMarkedToo}

-- ---- bits

pub none_marked : (q : ℕ) → is_marked 0 q ≡ false
none_marked q = ap (λ (n : ℕ). n == 1) (bit_at-zero q)

pub high_unmarked : (marks q : ℕ) → marks < 2 ^ 32 → 32 ≤ q → is_marked marks q ≡ false
high_unmarked marks q fits high = ap (λ (n : ℕ). n == 1) (bit_at_above marks 32 q fits high)

marked_low : (marks q : ℕ) → marks < 2 ^ 32 → is_marked marks q ≡ true → q < 32
marked_low marks q fits is = elim (cases_order q 32) [
  | inl level ↦ absurd (false≢true (sym (high_unmarked marks q fits (omega (arith, level))) ∙ is))
  | inr apart ↦ elim apart [
    | inl less ↦ less
    | inr greater ↦ absurd (false≢true (sym (high_unmarked marks q fits (omega (arith, greater))) ∙ is))
  ]
]

-- ---- how many boundaries may be in use

above : (live : List ℕ) → IsStrictlyIncreasing live → (k : ℕ) → k < length live → k ≤ slice_index live k
above live rise zero within = omega arith
above live rise (suc k) within =
    let before = above live rise k (omega (arith, within)) in
    let lt = rises live rise k (suc k) (omega arith) within in
    omega (arith, before, lt)

pub few_are_there : (live : List ℕ) → IsStrictlyIncreasing live → All (λ s. s < 16) live → length live ≤ 16
few_are_there live rise few = elim (cases_order (length live) 16) [
  | inl level ↦ omega (arith, level)
  | inr apart ↦ elim apart [
    | inl less ↦ omega (arith, less)
    | inr greater ↦ absurd (let most = few 16 0 greater in let least = above live rise 16 greater in omega (arith, most, least))
  ]
]

there_low : (live : List ℕ) (q : ℕ) → length live ≤ 16 → is_there live q ≡ true → q < 32
there_low live q most there = let low : q / 2 < length live = grind (arith, nat_tests) in omega (arith, low, most)

-- ---- marks below

-- of the members below a bound, so far
pub record IsBelowUpto (live : List ℕ) (bound marks below : ℕ) : Type 0 where
  pub there : (q : ℕ) → q < bound → is_there live q ≡ true → is_marked marks q ≡ true → is_marked below (member_at live q) ≡ true
  pub only : (p : ℕ) → is_marked below p ≡ true → IsMarkedAt live marks p

pub below_begins : (live : List ℕ) (marks : ℕ) → IsBelowUpto live 0 marks 0
below_begins live marks = record {
  there = λ q low here is. absurd (omega (arith, low));
  only = λ p is. absurd (false≢true (sym (none_marked p) ∙ is));
}

below_too : (live : List ℕ) (bound marks below next : ℕ) → IsStrictlyIncreasing live → IsBelowUpto live bound marks below → is_there live bound ≡ true
    → is_marked marks bound ≡ true → IsMarkedToo below (member_at live bound) next → IsBelowUpto live (bound + 1) marks next
below_too live bound marks below next rise old there marked too = record {
  there = λ q low here is. elim (cases_eq q bound) [
    | inl same ↦ subst (λ (p : ℕ). is_marked next (member_at live p) ≡ true) (sym same) too.here
    | inr apart ↦ too.others (member_at live q) (member_differs live q bound rise here there apart) ∙ old.there q (omega (arith, low, apart)) here is
  ];
  only = λ p is. elim (cases_eq p (member_at live bound)) [
    | inl same ↦ record { place = bound; there = there; is = sym same; marked = marked }
    | inr apart ↦ old.only p (sym (too.others p apart) ∙ is)
  ];
}

below_on : (live : List ℕ) (bound marks below : ℕ) → IsBelowUpto live bound marks below → (is_there live bound ≡ true → is_marked marks bound ≡ true → ⊥)
    → IsBelowUpto live (bound + 1) marks below
below_on live bound marks below old none = record {
  there = λ q low here is. elim (cases_eq q bound) [
    | inl same ↦ absurd (none (subst (λ (p : ℕ). is_there live p ≡ true) same here) (subst (λ (p : ℕ). is_marked marks p ≡ true) same is))
    | inr apart ↦ old.there q (omega (arith, low, apart)) here is
  ];
  only = old.only;
}

pub below_step : (live : List ℕ) (bound marks below next : ℕ) → IsStrictlyIncreasing live → IsBelowUpto live bound marks below
    → (is_there live bound ≡ true → is_marked marks bound ≡ true → IsMarkedToo below (member_at live bound) next)
    → ((is_there live bound && is_marked marks bound) ≡ false → next ≡ below) → IsBelowUpto live (bound + 1) marks next
below_step live bound marks below next rise old too same = one (is_there live bound) (is_marked marks bound) refl refl where
  on : (is_there live bound && is_marked marks bound) ≡ false → (is_there live bound ≡ true → is_marked marks bound ≡ true → ⊥) → IsBelowUpto live (bound + 1) marks next
  on none apart = subst (λ (n : ℕ). IsBelowUpto live (bound + 1) marks n) (sym (same none)) (below_on live bound marks below old apart)

  one : (there marked : Bool) → is_there live bound ≡ there → is_marked marks bound ≡ marked → IsBelowUpto live (bound + 1) marks next
  one true true h m = below_too live bound marks below next rise old h m (too h m)
  one true false h m = on (rw (h, m) refl) (λ there marked. false≢true (sym m ∙ marked))
  one false b h m = on (rw h refl) (λ there marked. false≢true (sym h ∙ there))

pub below_ends : (live : List ℕ) (marks below : ℕ) → IsStrictlyIncreasing live → marks < 2 ^ 32 → IsBelowUpto live 32 marks below → AreMarksBelow live marks below
below_ends live marks below rise fits all = record {
  there = λ q here. there q here (is_marked marks q) (is_marked below (member_at live q)) refl refl;
  only = all.only;
} where
  there : (q : ℕ) → is_there live q ≡ true → (marked found : Bool) → is_marked marks q ≡ marked → is_marked below (member_at live q) ≡ found
      → is_marked below (member_at live q) ≡ is_marked marks q
  there q here true found m f = all.there q (marked_low marks q fits m) here m ∙ sym m
  there q here false false m f = f ∙ sym m
  there q here false true m f =
      let at = all.only (member_at live q) f in
      elim (cases_eq at.place q) [
        | inl same ↦ absurd (false≢true (sym m ∙ subst (λ (p : ℕ). is_marked marks p ≡ true) same at.marked))
        | inr apart ↦ absurd (member_differs live at.place q rise at.there here apart at.is)
      ]

-- ---- marks by places

-- of the members below a bound, so far
abbrev pub IsHereUpto : List ℕ → ℕ → ℕ → ℕ → Type 0
IsHereUpto live bound below marks = (q : ℕ) → is_marked marks q ≡ (nat_lt q bound && (is_there live q && is_marked below (member_at live q)))

pub here_begins : (live : List ℕ) (below : ℕ) → IsHereUpto live 0 below 0
here_begins live below q =
    let low : nat_lt q 0 ≡ false = grind (arith, nat_tests) in
    rw low (none_marked q)

pub here_step : (live : List ℕ) (bound below marks next : ℕ) → IsHereUpto live bound below marks
    → ((is_there live bound && is_marked below (member_at live bound)) ≡ true → IsMarkedToo marks bound next)
    → ((is_there live bound && is_marked below (member_at live bound)) ≡ false → next ≡ marks) → IsHereUpto live (bound + 1) below next
here_step live bound below marks next old too same q = elim (cases_eq q bound) [
  | inl level ↦ subst (λ (p : ℕ). is_marked next p ≡ (nat_lt p (bound + 1) && wanted p)) (sym level) (at (wanted bound) refl)
  | inr apart ↦
      let bounds : nat_lt q (bound + 1) ≡ nat_lt q bound = grind (arith, nat_tests, apart) in
      other apart (wanted bound) refl ∙ old q ∙ ap (λ (b : Bool). b && wanted q) (sym bounds)
]
  where
    wanted : ℕ → Bool
    wanted p = is_there live p && is_marked below (member_at live p)

    at : (b : Bool) → (is_there live bound && is_marked below (member_at live bound)) ≡ b → is_marked next bound ≡ (nat_lt bound (bound + 1) && wanted bound)
    at true is = let low : nat_lt bound (bound + 1) ≡ true = grind (arith, nat_tests) in (too is).here ∙ sym (rw (low, is) refl)
    at false is =
        let high : nat_lt bound bound ≡ false = grind (arith, nat_tests) in
        let low : nat_lt bound (bound + 1) ≡ true = grind (arith, nat_tests) in
        let was : is_marked marks bound ≡ false = rw high at (old bound) in
        subst (λ (n : ℕ). is_marked n bound ≡ false) (sym (same is)) was ∙ sym (rw (low, is) refl)

    other : q ≢ bound → (b : Bool) → (is_there live bound && is_marked below (member_at live bound)) ≡ b → is_marked next q ≡ is_marked marks q
    other apart true is = (too is).others q apart
    other apart false is = ap (λ (n : ℕ). is_marked n q) (same is)

pub here_ends : (live : List ℕ) (below marks : ℕ) → length live ≤ 16 → IsHereUpto live 32 below marks → AreMarksHere live below marks
here_ends live below marks most all q = all q ∙ one (is_there live q) refl where
  one : (there : Bool) → is_there live q ≡ there
      → (nat_lt q 32 && (is_there live q && is_marked below (member_at live q))) ≡ (is_there live q && is_marked below (member_at live q))
  one true h = let low = there_low live q most h in let test : nat_lt q 32 ≡ true = grind (arith, nat_tests, low) in rw test refl
  one false h = rw h (both (nat_lt q 32))
    where
      both : (b : Bool) → (b && false) ≡ false
      both true = refl
      both false = refl
