-- How many calls a write takes: calls one after the other, the reads of a stripe, and the writes of a disk.
use Rattle.std.proofs.Common.{◌≡◌, ℕ, zero, suc, ◌+◌, ◌-◌, ◌*◌, ◌/◌, ◌%◌, ◌<◌, ◌≤◌, inl, inr, Bool, true, false, refl, sym, ap, subst, ◌∙◌, arith}
use Rattle.std.specs.Prelude.{◌&&◌, min, nat_lt, not, if◌then◌else◌}
use Rattle.std.proofs.lemmas.Bool.{cases_Bool, cases_eq}
use Rattle.std.proofs.lemmas.Bool.Decides.{nat_tests}
use Rattle.dg_io.specs.declared.outside.Rack.{Ghosts}
use Rattle.dg_model.specs.Moves.{sum_upto}
use Rattle.dg_model.proofs.SumLaws.{term_le}
use Rattle.dg_parity.specs.Groups.{IsLater, MostCalls, StaysOrFell}
use Rattle.dg_parity.specs.Runs.{byte_in, chunk_on, IsSpan, IsWindow}
use Rattle.dg_parity.specs.Stripes.{parity_of, stripe_of}
use Rattle.dg_parity.specs.Updates.{is_changed, is_read, least_reads, reads_by, reads_on, reads_to_get, stripes_in, writes_on, StaysWithin}
use Rattle.dg_parity.specs.declared.groups.Group.{Group}
use Rattle.dg_parity.specs.declared.windows.Window.{Window}
use Rattle.dg_parity.proofs.RunSteps.{fell-from, fell-later}

-- ---- calls one after the other

pub within-none : {S : Type 0} (rack : Ghosts S) (most : ℕ) (group : Group) (now : S) → StaysWithin rack most group group now now
within-none rack most group now = inl (refl, omega arith)

pub within-then : {S : Type 0} (rack : Ghosts S) (f : Group → ℕ) (m t : ℕ) (a b c : Group) (s u v : S) → IsLater b c → m + f a ≤ t
    → StaysWithin rack m a b s u → StaysWithin rack (f b) b c u v → StaysWithin rack t a c s v
within-then rack f m t a b c s u v later le (inr fell) step = inr (fell-later a b c later fell)
within-then rack f m t a b c s u v later le (inl first) (inr fell) = inr (fell-from a b c first.0 fell)
within-then rack f m t a b c s u v later le (inl first) (inl second) =
    inl (second.0 ∙ first.0, omega (arith, first.1, second.1, le, ap f first.0))

pub within-is : {S : Type 0} (rack : Ghosts S) (m k : ℕ) (a b : Group) (s u : S) → m ≡ k → StaysWithin rack m a b s u → StaysWithin rack k a b s u
within-is rack m k a b s u e h = subst (λ (x : ℕ). StaysWithin rack x a b s u) e h

pub within-of : {S : Type 0} (rack : Ghosts S) (most : ℕ) (a b : Group) (s u : S) → StaysOrFell a b → MostCalls rack most s u → StaysWithin rack most a b s u
within-of rack most a b s u (inl e) calls = inl (e, calls)
within-of rack most a b s u (inr fell) calls = inr fell

-- ---- the reads of a stripe

pub get-in : (n : ℕ) (out : ℕ → Bool) (j : ℕ) → out j ≡ false → reads_to_get n out j ≡ 1
get-in n out j e = ap (λ (b : Bool). if b then n - 1 else 1) e

pub get-out : (n : ℕ) (out : ℕ → Bool) (j : ℕ) → out j ≡ true → reads_to_get n out j ≡ n - 1
get-out n out j e = ap (λ (b : Bool). if b then n - 1 else 1) e

pub reads-needed : (n : ℕ) (out : ℕ → Bool) (at size t : ℕ) (by : Bool) (j : ℕ) → is_read n at size t by j ≡ true → reads_on n out at size t by j ≡ reads_to_get n out j
reads-needed n out at size t by j e = ap (λ (b : Bool). if b then reads_to_get n out j else 0) e

pub reads-not : (n : ℕ) (out : ℕ → Bool) (at size t : ℕ) (by : Bool) (j : ℕ) → is_read n at size t by j ≡ false → reads_on n out at size t by j ≡ 0
reads-not n out at size t by j e = ap (λ (b : Bool). if b then reads_to_get n out j else 0) e

least-of : (f : Bool → ℕ) (by : Bool) → by ≡ nat_lt (f true) (f false) → f by ≡ min (f true) (f false)
least-of f true e = let low : f true < f false = grind (arith, nat_tests, e) in omega (arith, low)
least-of f false e = let high : f false ≤ f true = grind (arith, nat_tests, e) in omega (arith, high)

pub least-is : (n : ℕ) (out : ℕ → Bool) (at size t : ℕ) (by : Bool) → out (parity_of n t) ≡ false
    → by ≡ nat_lt (reads_by n out at size t true) (reads_by n out at size t false) → reads_by n out at size t by ≡ least_reads n out at size t
least-is n out at size t by in0 e =
    least-of (reads_by n out at size t) by e
    ∙ sym (ap (λ (b : Bool). if b then 0 else min (reads_by n out at size t true) (reads_by n out at size t false)) in0)

-- ---- the stripes of a window

pub stripes-some : (n place count : ℕ) → 0 < count → stripes_in n place count ≡ stripe_of n ((place + (count - 1)) / 512) - stripe_of n (place / 512) + 1
stripes-some n place zero some = absurd (omega arith)
stripes-some n place (suc k) some = ap (λ (x : ℕ). stripe_of n ((place + x) / 512) - stripe_of n (place / 512) + 1) (omega arith)

pub window-stripes : (n at size : ℕ) (window : Window) → 0 < size → IsWindow n at size window → window.count ≡ stripes_in n at size
window-stripes n at size window some h = omega (arith, h.first, h.last, h.some, stripes-some n at size some)

pub window-sum : (f : ℕ → ℕ) (n at size : ℕ) (window : Window) → 0 < size → IsWindow n at size window
    → sum_upto window.count (λ q. f (window.first + q)) ≡ sum_upto (stripes_in n at size) (λ q. f (stripe_of n (at / 512) + q))
window-sum f n at size window some h =
    ap (λ (m : ℕ). sum_upto m (λ q. f (window.first + q))) (window-stripes n at size window some h)
    ∙ ap (λ (k : ℕ). sum_upto (stripes_in n at size) (λ q. f (k + q))) h.first

-- ---- the writes of a disk

changed-in : (n at size t j r : ℕ) → r < 512 → at ≤ byte_in n t j r → byte_in n t j r < at + size → is_changed n at size t j ≡ true
changed-in n at size t j r small low high =
    let a : at < 512 * chunk_on n t j + 512 = omega (arith, low, small) in
    let b : 512 * chunk_on n t j < at + size = omega (arith, high) in
    grind (arith, nat_tests, a, b)

changed-parity : (n at size t j : ℕ) → j ≡ parity_of n t → is_changed n at size t j ≡ true
changed-parity n at size t j e = grind (arith, nat_tests, e)

write-one : (n : ℕ) (out : ℕ → Bool) (at size t j : ℕ) → out j ≡ false → is_changed n at size t j ≡ true → writes_on n out at size t j ≡ 1
write-one n out at size t j in0 e =
    ap (λ (b : Bool). if b && not (out j) then 1 else 0) e
    ∙ ap (λ (b : Bool). if not b then 1 else 0) in0

-- what is written of a row is a parity or a part of a chunk
pub row-writes : (n : ℕ) (out : ℕ → Bool) (j at size : ℕ) (window : Window) (low high : ℕ) → IsSpan n j at size window low high → low < high → out j ≡ false
    → 1 ≤ sum_upto window.count (λ q. writes_on n out at size (window.first + q) j)
row-writes n out j at size window low high span lt in0 =
    let q = low / 512 in
    let r = low % 512 in
    let small : r < 512 = omega arith in
    let parts : 512 * q + r ≡ low = omega arith in
    let below : q < window.count = omega (arith, span.fits, lt, parts) in
    let changed : is_changed n at size (window.first + q) j ≡ true =
    elim (cases_eq j (parity_of n (window.first + q))) [
      | inl e ↦ changed-parity n at size (window.first + q) j e
      | inr ne ↦
          let bytes = span.inside q r below small (omega (arith, parts)) (omega (arith, parts, lt)) ne in
          changed-in n at size (window.first + q) j r small bytes.0 bytes.1
    ] in
    let one : writes_on n out at size (window.first + q) j ≡ 1 = write-one n out at size (window.first + q) j in0 changed in
    omega (arith, one, term_le (λ i. writes_on n out at size (window.first + i) j) window.count q below)

pub row-calls : {S : Type 0} (rack : Ghosts S) (n : ℕ) (out : ℕ → Bool) (j at size : ℕ) (window : Window) (low high : ℕ) (s u : S) → IsSpan n j at size window low high → low < high
    → (out j ≡ true → u ≡ s) → MostCalls rack 1 s u → MostCalls rack (sum_upto window.count (λ q. writes_on n out at size (window.first + q) j)) s u
row-calls rack n out j at size window low high s u span lt idle call = elim (cases_Bool (out j)) [
  | inl gone ↦ omega (arith, ap (λ (x : _). (rack.counts x).calls) (idle gone))
  | inr in0 ↦ omega (arith, call, row-writes n out j at size window low high span lt in0)
]
