-- Rows of a disk: which of their bytes a piece of a member has.
use Rattle.std.proofs.Common.{◌≡◌, ◌≢◌, ℕ, ◌+◌, ◌-◌, ◌*◌, ◌/◌, ◌%◌, ◌<◌, ◌≤◌, inl, inr, List, length, sym, subst, ◌∙◌, arith}
use Rattle.std.specs.Prelude.{slice_index}
use Rattle.std.proofs.lemmas.Bool.{cases_eq}
use Rattle.std.proofs.lemmas.Nat.{div-add-mod', mod_below}
use Rattle.std.proofs.Math.Nat.{add-mul, mul-le-mul_right, one-mul}
use Rattle.dg_parity.specs.Stripes.{parity_of, stripe_of}
use Rattle.dg_parity.specs.Runs.{among, byte_in, chunk_on, Gathers, GathersRow, IsSpan, IsWhole, IsWindow}
use Rattle.dg_parity.specs.declared.windows.Window.{Window}
use Rattle.dg_parity.proofs.RunLemmas.{among-below}

pub gathers-more : (n j first q at : ℕ) (piece parities old new : List ℕ) → Gathers n j (first + q) q at piece parities old new → GathersRow n j first at piece parities old q
    → GathersRow n j first at piece parities new (q + 1)
gathers-more n j first q at piece parities old new one h = record {
  parity = λ i r lt small is. elim (cases_eq i q) [
    | inl e ↦ subst (λ (k : ℕ). slice_index new (512 * k + r) ≡ slice_index parities (512 * k + r)) (sym e) (one.parity r small (subst (λ (k : ℕ). j ≡ parity_of n (first + k)) e is))
    | inr ne ↦ one.before (512 * i + r) (omega arith) ∙ h.parity i r (omega arith) small is
  ];
  own = λ i r lt small other low high. elim (cases_eq i q) [
    | inl e ↦
        subst (λ (k : ℕ). slice_index new (512 * k + r) ≡ slice_index piece (byte_in n (first + k) j r - at)) (sym e)
        (one.own r small (subst (λ (k : ℕ). j ≢ parity_of n (first + k)) e other) (subst (λ (k : ℕ). at ≤ byte_in n (first + k) j r) e low)
        (subst (λ (k : ℕ). byte_in n (first + k) j r < at + length piece) e high))
    | inr ne ↦ one.before (512 * i + r) (omega arith) ∙ h.own i r (omega arith) small other low high
  ];
}

-- a chunk of an earlier stripe stands before each byte of a later one
pub chunk-before : (n j t b : ℕ) → 3 ≤ n → j < n → j ≢ parity_of n t → t < stripe_of n (b / 512) → chunk_on n t j < b / 512
chunk-before n j t b least lt other low =
    let s = n - 1 in
    let u = stripe_of n (b / 512) in
    let below : among (parity_of n t) j < s = among-below (parity_of n t) j n lt (mod_below t n (omega arith)) other in
    let whole : u * s + b / 512 % s ≡ b / 512 = div-add-mod' (b / 512) s in
    let next : (t + 1) * s ≤ u * s = mul-le-mul_right {m = t + 1} {n = u} s (omega arith) in
    omega (arith, below, whole, next, add-mul t 1 s, one-mul s)

pub chunk-behind : (n j t b : ℕ) → 3 ≤ n → j < n → j ≢ parity_of n t → stripe_of n (b / 512) < t → b / 512 < chunk_on n t j
chunk-behind n j t b least lt other high =
    let s = n - 1 in
    let u = stripe_of n (b / 512) in
    let below : b / 512 % s < s = mod_below (b / 512) s (omega arith) in
    let whole : u * s + b / 512 % s ≡ b / 512 = div-add-mod' (b / 512) s in
    let next : (u + 1) * s ≤ t * s = mul-le-mul_right {m = u + 1} {n = t} s (omega arith) in
    omega (arith, below, whole, next, add-mul u 1 s, one-mul s)

pub span-is : (n j at size : ℕ) (window : Window) (low cut : ℕ) → 3 ≤ n → j < n → 0 < size → IsWindow n at size window
    → (j ≡ parity_of n window.first → low ≡ 0) → low ≤ 512
    → ((r : ℕ) → j ≢ parity_of n window.first → r < low → byte_in n window.first j r < at)
    → ((r : ℕ) → j ≢ parity_of n window.first → low ≤ r → r < 512 → at ≤ byte_in n window.first j r)
    → (j ≡ parity_of n (window.first + (window.count - 1)) → cut ≡ 0) → cut ≤ 512
    → ((r : ℕ) → j ≢ parity_of n (window.first + (window.count - 1)) → r + cut < 512 → byte_in n (window.first + (window.count - 1)) j r < at + size)
    → ((r : ℕ) → j ≢ parity_of n (window.first + (window.count - 1)) → 512 ≤ r + cut → r < 512 → at + size ≤ byte_in n (window.first + (window.count - 1)) j r)
    → IsSpan n j at size window low (512 * window.count - cut)
span-is n j at size window low cut least lt some h low-parity low-most low-before low-behind cut-parity cut-most cut-before cut-behind = record {
  fits = omega arith;
  inside = λ q r within small above below other. (from-first q r within small above other, to-last q r within small below other);
  before = λ q r within small above. first-out q r within small above;
  behind = λ q r within small below. last-out q r within small below;
} where
  first-at : (q : ℕ) → q ≡ 0 → window.first ≡ window.first + q
  first-at q e = omega arith

  last-at : (q : ℕ) → q + 1 ≡ window.count → window.first + (window.count - 1) ≡ window.first + q
  last-at q e = omega arith

  from-first : (q r : ℕ) → q < window.count → r < 512 → low ≤ 512 * q + r → j ≢ parity_of n (window.first + q) → at ≤ byte_in n (window.first + q) j r
  from-first q r within small above other = elim (cases_eq q 0) [
    | inl e ↦
        subst (λ (t : ℕ). at ≤ byte_in n t j r) (first-at q e)
        (low-behind r (subst (λ (t : ℕ). j ≢ parity_of n t) (sym (first-at q e)) other) (omega arith) small)
    | inr ne ↦
        let next : at / 512 < chunk_on n (window.first + q) j = chunk-behind n j (window.first + q) at least lt other (omega (arith, h.first, ne)) in
        omega (arith, next)
  ]

  to-last : (q r : ℕ) → q < window.count → r < 512 → 512 * q + r < 512 * window.count - cut → j ≢ parity_of n (window.first + q) → byte_in n (window.first + q) j r < at + size
  to-last q r within small below other = elim (cases_eq (q + 1) window.count) [
    | inl e ↦
        subst (λ (t : ℕ). byte_in n t j r < at + size) (last-at q e)
        (cut-before r (subst (λ (t : ℕ). j ≢ parity_of n t) (sym (last-at q e)) other) (omega arith))
    | inr ne ↦
        let next : chunk_on n (window.first + q) j < (at + (size - 1)) / 512 = chunk-before n j (window.first + q) (at + (size - 1)) least lt other (omega (arith, h.last, ne)) in
        omega (arith, next)
  ]

  first-out : (q r : ℕ) → q < window.count → r < 512 → 512 * q + r < low → (j ≢ parity_of n (window.first + q)) × (byte_in n (window.first + q) j r < at)
  first-out q r within small above =
      let e : q ≡ 0 = omega arith in
      let other : j ≢ parity_of n window.first = λ is. absurd (omega (arith, low-parity is)) in
      (subst (λ (t : ℕ). j ≢ parity_of n t) (first-at q e) other, subst (λ (t : ℕ). byte_in n t j r < at) (first-at q e) (low-before r other (omega arith)))

  last-out : (q r : ℕ) → q < window.count → r < 512 → 512 * window.count - cut ≤ 512 * q + r → (j ≢ parity_of n (window.first + q)) × (at + size ≤ byte_in n (window.first + q) j r)
  last-out q r within small below =
      let e : q + 1 ≡ window.count = omega arith in
      let other : j ≢ parity_of n (window.first + (window.count - 1)) = λ is. absurd (omega (arith, cut-parity is)) in (
        subst (λ (t : ℕ). j ≢ parity_of n t) (last-at q e) other,
        subst (λ (t : ℕ). at + size ≤ byte_in n t j r) (last-at q e) (cut-behind r other (omega arith) small),
      )

-- the chunks of a stripe all of which is written
pub whole-covers : (n t j at size : ℕ) → 3 ≤ n → j < n → j ≢ parity_of n t → IsWhole n t at size → (at ≤ byte_in n t j 0) × (byte_in n t j 0 + 512 ≤ at + size)
whole-covers n t j at size least lt ne h =
    let s = n - 1 in
    let below : among (parity_of n t) j < s = among-below (parity_of n t) j n lt (mod_below t n (omega arith)) ne in
    (omega (arith, h.low), omega (arith, h.high, add-mul t 1 s, one-mul s, below))
