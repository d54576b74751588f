-- Runs of chunks.
use Rattle.std.proofs.Common.{◌≡◌, ◌≢◌, ℕ, ◌+◌, ◌-◌, ◌*◌, ◌/◌, ◌%◌, ◌<◌, ◌≤◌, inl, inr, List, length, take, drop, get_or, refl, sym, ap, subst, ◌∙◌, arith}
use Rattle.std.specs.Prelude.{slice_index, true, ◌&&◌, ◌==◌}
use Rattle.std.proofs.lemmas.Bool.{cases_lt}
use Rattle.std.proofs.lemmas.Bool.Decides.{nat_tests}
use Rattle.std.proofs.lemmas.List.{get_or-take, get_or-drop}
use Rattle.std.proofs.lemmas.Nat.{div-add-mod', mod_below, div-mul-add, le-div}
use Rattle.std.proofs.Math.Nat.{add-mul, mul-div_cancel, div-mul-le_self}
use Rattle.dg_parity.specs.Stripes.{beside, stripe_of, parity_of, spot_of}
use Rattle.dg_parity.specs.Runs.{among, chunk_on, begins, IsWindow, Scatters}
use Rattle.dg_parity.specs.declared.windows.Window.{Window}
use Rattle.dg_parity.proofs.StripeLemmas.{spot-apart}

pub among-beside : (p k : ℕ) → among p (beside p k) ≡ k
among-beside p k = grind (arith, nat_tests)

pub beside-among : (p j : ℕ) → j ≢ p → beside p (among p j) ≡ j
beside-among p j h = grind (arith, nat_tests)

pub among-below : (p j n : ℕ) → j < n → p < n → j ≢ p → among p j < n - 1
among-below p j n a b h = grind (arith, nat_tests)

-- the chunk of a byte is that of its disk and stripe
pub chunk-of : (n b : ℕ) → chunk_on n (stripe_of n (b / 512)) (spot_of n b).disk ≡ b / 512
chunk-of n b =
    ap (λ (k : ℕ). stripe_of n (b / 512) * (n - 1) + k) (among-beside (parity_of n (stripe_of n (b / 512))) (b / 512 % (n - 1)))
    ∙ div-add-mod' (b / 512) (n - 1)

pub chunk-at : (n b t j : ℕ) → (spot_of n b).disk ≡ j → stripe_of n (b / 512) ≡ t → b / 512 ≡ chunk_on n t j
chunk-at n b t j disk stripe =
    sym (chunk-of n b) ∙ ap (λ (d : ℕ). chunk_on n (stripe_of n (b / 512)) d) disk ∙ ap (λ (s : ℕ). chunk_on n s j) stripe

-- what stands in the chunk of disk j in stripe t is of that disk and stripe
pub record Stands (n b t j : ℕ) : Type 0 where
  pub stripe : stripe_of n (b / 512) ≡ t
  pub disk : (spot_of n b).disk ≡ j

pub stands-on : (n b t j : ℕ) → 3 ≤ n → j < n → j ≢ parity_of n t → b / 512 ≡ chunk_on n t j → Stands n b t j
stands-on n b t j least lt ne is =
    let s = n - 1 in
    let a = among (parity_of n t) j in
    let below : a < s = among-below (parity_of n t) j n lt (mod_below t n (omega arith)) ne in
    let stripe : stripe_of n (b / 512) ≡ t = ap (λ (i : ℕ). i / s) is ∙ div-mul-add t s a below in
    let whole : stripe_of n (b / 512) * s + b / 512 % s ≡ b / 512 = div-add-mod' (b / 512) s in
    let rest : b / 512 % s ≡ a = omega (arith, whole, is, ap (λ (q : ℕ). q * s) stripe) in
    record {
      stripe = stripe;
      disk = ap (λ (q : ℕ). beside (parity_of n q) (b / 512 % s)) stripe ∙ ap (beside (parity_of n t)) rest ∙ beside-among (parity_of n t) j ne;
    }

-- the last place of a pass ends a stripe
pub window-end : (n at : ℕ) → 3 ≤ n → stripe_of n ((at + (8192 * (n - 1) - (at / 512 % (n - 1) * 512 + at % 512))) / 512) ≡ stripe_of n (at / 512) + 16
window-end n at least =
    let s = n - 1 in
    let c = at / 512 in
    let below : c % s < s = mod_below c s (omega arith) in
    let whole : c / s * s + c % s ≡ c = div-add-mod' c s in
    let end : (at + (8192 * s - (c % s * 512 + at % 512))) / 512 ≡ c / s * s + 16 * s = omega (arith, whole, below) in
    ap (λ (i : ℕ). i / s) (end ∙ sym (add-mul (c / s) 16 s)) ∙ mul-div_cancel (c / s + 16) (omega arith)

window-cut : (n at : ℕ) → 3 ≤ n → begins n (at + (8192 * (n - 1) - (at / 512 % (n - 1) * 512 + at % 512))) ≡ true
window-cut n at least =
    let s = n - 1 in
    let c = at / 512 in
    let e = at + (8192 * s - (c % s * 512 + at % 512)) in
    let below : c % s < s = mod_below c s (omega arith) in
    let whole : c / s * s + c % s ≡ c = div-add-mod' c s in
    let one : e % 512 ≡ 0 = omega (arith, whole, below) in
    let chunk : e / 512 ≡ c / s * s + 16 * s = omega (arith, whole, below) in
    let product : (c / s + 16) * s ≡ c / s * s + 16 * s = add-mul (c / s) 16 s in
    let quotient : e / 512 / s ≡ c / s + 16 = window-end n at least in
    let split : e / 512 / s * s + e / 512 % s ≡ e / 512 = div-add-mod' (e / 512) s in
    let two : e / 512 % s ≡ 0 = omega (arith, split, chunk, product, ap (λ (k : ℕ). k * s) quotient) in
    both (e % 512) (e / 512 % s) one two
  where
    both : (x y : ℕ) → x ≡ 0 → y ≡ 0 → (x == 0 && y == 0) ≡ true
    both x y a b = grind (arith, nat_tests)

pub window-begins : (n m at : ℕ) → m ≡ n → 3 ≤ n → begins n (at + (8192 * (m - 1) - (at / 512 % (m - 1) * 512 + at % 512))) ≡ true
window-begins n m at is least =
    subst (λ (k : ℕ). begins n (at + (8192 * (k - 1) - (at / 512 % (k - 1) * 512 + at % 512))) ≡ true) (sym is) (window-cut n at least)

pub stripe-up : (n a b : ℕ) → 3 ≤ n → a ≤ b → stripe_of n (a / 512) ≤ stripe_of n (b / 512)
stripe-up n a b least le =
    let below : a / 512 / (n - 1) * (n - 1) ≤ a / 512 = div-mul-le_self (a / 512) (n - 1) in
    le-div (a / 512 / (n - 1)) (b / 512) (n - 1) (omega arith) (omega (arith, below))

pub window-low : (n at size k : ℕ) (window : Window) → 3 ≤ n → IsWindow n at size window → window.first ≤ stripe_of n ((at + k) / 512)
window-low n at size k window least h = omega (arith, h.first, stripe-up n at (at + k) least (omega arith))

pub window-high : (n at size k : ℕ) (window : Window) → 3 ≤ n → IsWindow n at size window → k < size → stripe_of n ((at + k) / 512) < window.first + window.count
window-high n at size k window least h lt = omega (arith, h.last, stripe-up n (at + k) (at + (size - 1)) least (omega arith))

pub window-room : (n m at : ℕ) → m ≡ n → 3 ≤ n → stripe_of n ((at + (8192 * (m - 1) - (at / 512 % (m - 1) * 512 + at % 512))) / 512) ≡ stripe_of n (at / 512) + 16
window-room n m at is least =
    subst (λ (k : ℕ). stripe_of n ((at + (8192 * (k - 1) - (at / 512 % (k - 1) * 512 + at % 512))) / 512) ≡ stripe_of n (at / 512) + 16) (sym is) (window-end n at least)

pub chunk-slice : (row : List ℕ) (q k m : ℕ) → k < m → get_or (take m (drop (512 * q) row)) k 0 ≡ get_or row (512 * q + k) 0
chunk-slice row q k m lt = get_or-take m (drop (512 * q) row) k 0 lt ∙ get_or-drop (512 * q) row k 0

-- ---- the bytes of a chunk are put where they are asked for

pub scatters-none : (n j t at : ℕ) (chunk buf : List ℕ) → j ≡ parity_of n t → Scatters n j t at chunk buf buf
scatters-none n j t at chunk buf is = record {
  own = λ k lt disk stripe. absurd (spot-apart n (at + k) (disk ∙ is ∙ ap (parity_of n) (sym stripe)));
  disks = λ k lt ne. refl;
  stripes = λ k lt ne. refl;
}

pub scatters : (n j t at i : ℕ) (chunk old new : List ℕ) → 3 ≤ n → j < n → j ≢ parity_of n t → length chunk ≡ 512 → i ≡ chunk_on n t j
    → ((k : ℕ) → k < length old → 512 * i ≤ at + k → at + k < 512 * i + length chunk → slice_index new k ≡ slice_index chunk (at + k - 512 * i))
    → ((k : ℕ) → k < length old → at + k < 512 * i → slice_index new k ≡ slice_index old k)
    → ((k : ℕ) → k < length old → 512 * i + length chunk ≤ at + k → slice_index new k ≡ slice_index old k)
    → Scatters n j t at chunk old new
scatters n j t at i chunk old new least below apart size is inside before behind = record {
  own = λ k lt disk stripe.
      let e : (at + k) / 512 ≡ i = chunk-at n (at + k) t j disk stripe ∙ sym is in
      inside k lt (omega arith) (omega arith) ∙ ap (slice_index chunk) (omega arith);
  disks = λ k lt ne. other k lt (λ e. ne (stands-on n (at + k) t j least below apart (e ∙ is)).disk);
  stripes = λ k lt ne. other k lt (λ e. ne (stands-on n (at + k) t j least below apart (e ∙ is)).stripe);
} where
  other : (k : ℕ) → k < length old → (at + k) / 512 ≢ i → slice_index new k ≡ slice_index old k
  other k lt ne = elim (cases_lt (at + k) (512 * i)) [
    | inl low ↦ before k lt low
    | inr le ↦ elim (cases_lt (at + k) (512 * i + 512)) [ inl within ↦ absurd (ne (omega arith)) | inr past ↦ behind k lt (omega arith) ]
  ]

-- no byte of a member stands in a chunk behind its last one
pub scatters-past : (n j t at i : ℕ) (chunk buf : List ℕ) → i ≡ chunk_on n t j → 36028797018963967 < i → at + length buf < 18446744073709551616 → Scatters n j t at chunk buf buf
scatters-past n j t at i chunk buf is past range = record {
  own = λ k lt disk stripe. absurd (omega (arith, chunk-at n (at + k) t j disk stripe, is, past, range, lt));
  disks = λ k lt ne. refl;
  stripes = λ k lt ne. refl;
}
