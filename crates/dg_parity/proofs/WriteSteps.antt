-- Writes of runs of chunks: what each stripe takes of calls.
use Rattle.std.proofs.Common.{◌≡◌, ◌≢◌, ℕ, ◌+◌, ◌-◌, ◌*◌, ◌/◌, ◌%◌, ◌<◌, ◌≤◌, ◌⊎◌, inl, inr, Bool, true, false, refl, ap, subst, ◌∙◌, arith, add-zero}
use Rattle.std.specs.Prelude.{◌==◌, if◌then◌else◌}
use Rattle.std.proofs.lemmas.Bool.{cases_eq, cases_lt, cases_Bool, and_parts}
use Rattle.std.proofs.lemmas.Bool.Decides.{nat_tests}
use Rattle.std.proofs.lemmas.Nat.{div-add-mod', mod_below}
use Rattle.std.proofs.Math.Nat.{mul-add, mul-one, mul-le-mul_left, add-mul, mul-le-mul_right, one-mul}
use Rattle.dg_parity.specs.Runs.{begins, passes_in, reads_at, IsWhole, IsWindow}
use Rattle.dg_parity.specs.declared.windows.Window.{Window}

pub reads-none : (n b : ℕ) → begins n b ≡ true → reads_at n b ≡ 0
reads-none n b e = ap (λ (k : Bool). if k then 0 else (n + 1) * n) e

pub reads-some : (n b : ℕ) → begins n b ≡ false → reads_at n b ≡ (n + 1) * n
reads-some n b e = ap (λ (k : Bool). if k then 0 else (n + 1) * n) e

-- a stripe that begins behind the first byte, or with it
pub whole-low : (n at size q : ℕ) (window : Window) → 3 ≤ n → IsWindow n at size window → (q ≡ 0 → begins n at ≡ true) → at ≤ 512 * ((window.first + q) * (n - 1))
whole-low n at size q window least h first =
    let s = n - 1 in
    let c = at / 512 in
    let whole : c / s * s + c % s ≡ c = div-add-mod' c s in
    let below : c % s < s = mod_below c s (omega arith) in
    let at-first : window.first * s ≡ c / s * s = ap (λ (k : ℕ). k * s) h.first in
    elim (cases_eq q 0) [
      | inl e ↦
          let parts = and_parts (at % 512 == 0) (c % s == 0) (first e) in
          let one : at % 512 ≡ 0 = grind (arith, nat_tests) in
          let two : c % s ≡ 0 = grind (arith, nat_tests) in
          let same : (window.first + q) * s ≡ window.first * s = ap (λ (k : ℕ). k * s) (omega (arith, e)) in
          omega (arith, whole, at-first, one, two, same)
      | inr ne ↦
          let next : (window.first + 1) * s ≤ (window.first + q) * s = mul-le-mul_right {m = window.first + 1} {n = window.first + q} s (omega arith) in
          omega (arith, whole, below, at-first, next, add-mul window.first 1 s, one-mul s)
    ]

-- a stripe that ends before the last byte, or with it
pub whole-high : (n at size q : ℕ) (window : Window) → 3 ≤ n → 0 < size → IsWindow n at size window → q < window.count → (q + 1 ≡ window.count → begins n (at + size) ≡ true)
    → 512 * ((window.first + q + 1) * (n - 1)) ≤ at + size
whole-high n at size q window least some h lt last =
    let s = n - 1 in
    let d = (at + (size - 1)) / 512 in
    let whole : d / s * s + d % s ≡ d = div-add-mod' d s in
    elim (cases_eq (q + 1) window.count) [
      | inr ne ↦
          let next : (window.first + q + 1) * s ≤ d / s * s = mul-le-mul_right {m = window.first + q + 1} {n = d / s} s (omega (arith, h.last, ne)) in
          omega (arith, whole, next, some)
      | inl e ↦
          let f = (at + size) / 512 in
          let parts = and_parts ((at + size) % 512 == 0) (f % s == 0) (last e) in
          let one : (at + size) % 512 ≡ 0 = grind (arith, nat_tests) in
          let two : f % s ≡ 0 = grind (arith, nat_tests) in
          let all : f / s * s + f % s ≡ f = div-add-mod' f s in
          let number : window.first + q + 1 ≡ d / s + 1 = omega (arith, h.last, e) in
          let below : d / s < f / s = elim (cases_lt (d / s) (f / s)) [
            | inl low ↦ low
            | inr high ↦
                let more : f / s * s ≤ d / s * s = mul-le-mul_right {m = f / s} {n = d / s} s high in
                absurd (omega (arith, more, whole, all, two, one, some))
          ] in
          let next : (window.first + q + 1) * s ≤ f / s * s = mul-le-mul_right {m = window.first + q + 1} {n = f / s} s (omega (arith, number, below)) in
          omega (arith, next, all, two, one)
    ]

pub whole-is : (n at size q : ℕ) (window : Window) → 3 ≤ n → 0 < size → IsWindow n at size window → q < window.count → (q ≡ 0 → begins n at ≡ true)
    → (q + 1 ≡ window.count → begins n (at + size) ≡ true) → IsWhole n (window.first + q) at size
whole-is n at size q window least some h lt first last = record { low = whole-low n at size q window least h first; high = whole-high n at size q window least some h lt last }

-- ---- the first and the last stripe

-- Of so many stripes q had their turn: the calls so far, where only the first and the last one may take some.
pub record IsRead (m a b count before now q : ℕ) : Type 0 where
  pub none : q ≡ 0 → now ≤ before
  pub some : q ≢ count → now ≤ before + a
  pub all : now ≤ before + (a + b)

pub read-none : (m a b count now : ℕ) → IsRead m a b count now now 0
read-none m a b count now = record { none = λ e. omega arith; some = λ ne. omega arith; all = omega arith }

pub read-next : (n at end count q before x y : ℕ) → q < count → y ≤ x + (n + 1) * n
    → ((q ≡ 0 → begins n at ≡ true) → (q + 1 ≡ count → begins n end ≡ true) → y ≡ x)
    → IsRead ((n + 1) * n) (reads_at n at) (reads_at n end) count before x q → IsRead ((n + 1) * n) (reads_at n at) (reads_at n end) count before y (q + 1)
read-next n at end count q before x y lt call whole h = elim (cases_Bool (begins n at)) [
  | inl at1 ↦ elim (cases_Bool (begins n end)) [
    | inl end1 ↦
        let same : y ≡ x = whole (λ e. at1) (λ e. end1) in
        record { none = λ e. absurd (omega (arith, e)); some = λ ne. omega (arith, same, h.some (omega (arith, lt))); all = omega (arith, same, h.all) }
    | inr end0 ↦ elim (cases_eq (q + 1) count) [
      | inr ne0 ↦
          let same : y ≡ x = whole (λ e. at1) (λ e. absurd (ne0 e)) in
          record { none = λ e. absurd (omega (arith, e)); some = λ ne. omega (arith, same, h.some (omega (arith, lt))); all = omega (arith, same, h.all) }
      | inl e0 ↦
          record { none = λ e. absurd (omega (arith, e)); some = λ ne. absurd (ne e0); all = omega (arith, call, h.some (omega (arith, lt)), reads-some n end end0) }
    ]
  ]
  | inr at0 ↦ elim (cases_eq q 0) [
    | inl zero0 ↦
        record {
          none = λ e. absurd (omega (arith, e));
          some = λ ne. omega (arith, call, h.none zero0, reads-some n at at0);
          all = omega (arith, call, h.none zero0, reads-some n at at0);
        }
    | inr later ↦ elim (cases_Bool (begins n end)) [
      | inl end1 ↦
          let same : y ≡ x = whole (λ e. absurd (later e)) (λ e. end1) in
          record { none = λ e. absurd (omega (arith, e)); some = λ ne. omega (arith, same, h.some (omega (arith, lt))); all = omega (arith, same, h.all) }
      | inr end0 ↦ elim (cases_eq (q + 1) count) [
        | inr ne0 ↦
            let same : y ≡ x = whole (λ e. absurd (later e)) (λ e. absurd (ne0 e)) in
            record { none = λ e. absurd (omega (arith, e)); some = λ ne. omega (arith, same, h.some (omega (arith, lt))); all = omega (arith, same, h.all) }
        | inl e0 ↦
            record { none = λ e. absurd (omega (arith, e)); some = λ ne. absurd (ne e0); all = omega (arith, call, h.some (omega (arith, lt)), reads-some n end end0) }
      ]
    ]
  ]
]

-- ---- several passes

-- Of a write of so many bytes from a place on some are done: the calls so far, and those of the passes that are left.
pub record IsPut (n place size before now all rest done : ℕ) : Type 0 where
  pub cut : done ≢ 0 → done ≢ size → begins n (place + done) ≡ true
  pub none : done ≡ 0 → now + n * rest ≤ before + n * all
  pub some : done ≢ size → now + n * rest ≤ before + n * all + reads_at n place
  pub most : now + n * rest ≤ before + n * all + (reads_at n place + reads_at n (place + size))

pub put-none : (n place size now all : ℕ) → IsPut n place size now now all all 0
put-none n place size now all = record { cut = λ ne. absurd (ne refl); none = λ e. omega arith; some = λ ne. omega arith; most = omega arith }

private-mul : (m x : ℕ) → m * (x + 1) ≡ m * x + m
private-mul m x = mul-add m x 1 ∙ ap (λ (k : ℕ). m * x + k) (mul-one m)

module _ (n place size before x y all rest next done part : ℕ) (lt : done < size) (some0 : 0 < part) (fits : done + part ≤ size) (more : next + 1 ≤ rest)
    (end : (done + part ≡ size) ⊎ (begins n (place + (done + part)) ≡ true))
    (call : y ≤ x + (reads_at n (place + done) + reads_at n (place + (done + part)) + n)) (h : IsPut n place size before x all rest done) where
  step : n * next + n ≤ n * rest
  step = let up : n * (next + 1) ≤ n * rest = mul-le-mul_left n more in omega (arith, up, private-mul n next)

  at-end : done + part ≡ size → reads_at n (place + (done + part)) ≡ reads_at n (place + size)
  at-end e = ap (λ (k : ℕ). reads_at n (place + k)) e

  -- the calls so far, and those at the place where this pass begins
  start : x + reads_at n (place + done) + n * rest ≤ before + n * all + reads_at n place
  start = elim (cases_eq done 0) [
    | inl e ↦ omega (arith, h.none e, ap (λ (k : ℕ). reads_at n (place + k)) e, ap (reads_at n) (add-zero place))
    | inr ne ↦ omega (arith, h.some (omega (arith, lt)), reads-none n (place + done) (h.cut ne (omega (arith, lt))))
  ]

  pub put-next : IsPut n place size before y all next (done + part)
  put-next = elim end [
    | inl e ↦ record {
      cut = λ ne other. absurd (other e);
      none = λ zero0. absurd (omega (arith, zero0, some0));
      some = λ other. absurd (other e);
      most = omega (arith, start, step, call, at-end e);
    }
    | inr cut ↦ record {
      cut = λ ne other. cut;
      none = λ zero0. absurd (omega (arith, zero0, some0));
      some = λ other. omega (arith, start, step, call, reads-none n (place + (done + part)) cut);
      most = omega (arith, start, step, call, reads-none n (place + (done + part)) cut);
    }
  ]

-- headers, a write, and headers again
pub put-noted : (x y z t n m k place count : ℕ) → m ≡ n → k ≡ n → y ≤ x + 2 * n → z ≤ y + (m * passes_in m place count + (reads_at m place + reads_at m (place + count))) → t ≤ z + 2 * k
    → t ≤ x + (n * passes_in n place count + (reads_at n place + reads_at n (place + count)) + 4 * n)
put-noted x y z t n m k place count is same one two three =
    let mid : z ≤ y + (n * passes_in n place count + (reads_at n place + reads_at n (place + count))) =
    subst (λ (i : ℕ). z ≤ y + (i * passes_in i place count + (reads_at i place + reads_at i (place + count)))) is two in
    omega (arith, one, mid, three, same)

pub cut-next : (n place done part size : ℕ) → done < size → (part ≡ size - done) ⊎ (begins n (place + done + part) ≡ true) → (done + part ≡ size) ⊎ (begins n (place + (done + part)) ≡ true)
cut-next n place done part size lt (inl e) = inl (omega (arith, e, lt))
cut-next n place done part size lt (inr cut) = inr (subst (λ (k : ℕ). begins n k ≡ true) (omega arith) cut)
