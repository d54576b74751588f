-- Where bytes stand: no two at one place, and none where a parity is.
use Rattle.std.proofs.Common.{◌≡◌, ℕ, ◌+◌, ◌-◌, ◌*◌, ◌/◌, ◌%◌, ◌<◌, ◌≤◌, ◌≢◌, sym, ap, ◌∙◌, arith}
use Rattle.std.proofs.lemmas.Bool.Decides.{nat_tests}
use Rattle.std.proofs.lemmas.Nat.{div-add-mod', le-div, mod_below}
use Rattle.dg_parity.specs.Stripes.{chunks_of, stripe_of, stripes_of, parity_of, beside, disk_of, place_of, disk_length, spot_of, InStripes}

pub beside-below : (p k n : ℕ) → 1 ≤ n → k < n - 1 → beside p k < n
beside-below p k n one h = grind (arith, nat_tests)

pub beside-other : (p k : ℕ) → beside p k ≢ p
beside-other p k = grind (arith, nat_tests)

pub beside-same : (p j k : ℕ) → beside p j ≡ beside p k → j ≡ k
beside-same p j k h = grind (arith, nat_tests)

pub disk-below : (n b : ℕ) → 3 ≤ n → (spot_of n b).disk < n
disk-below n b h = beside-below (parity_of n (stripe_of n (b / 512))) (b / 512 % (n - 1)) n (omega arith) (mod_below (b / 512) (n - 1) (omega arith))

pub parity-below : (n b : ℕ) → 3 ≤ n → (spot_of n b).parity < n
parity-below n b h = mod_below (stripe_of n (b / 512)) n (omega arith)

pub spot-apart : (n b : ℕ) → (spot_of n b).disk ≢ (spot_of n b).parity
spot-apart n b = beside-other (parity_of n (stripe_of n (b / 512))) (b / 512 % (n - 1))

pub stripe-below : (n b size : ℕ) → 3 ≤ n → b < size → stripe_of n (b / 512) < stripes_of n size
stripe-below n b size h lt =
    let chunk : b / 512 < chunks_of size = omega arith in
    let t = stripe_of n (b / 512) in
    let whole : t * (n - 1) + b / 512 % (n - 1) ≡ b / 512 = div-add-mod' (b / 512) (n - 1) in
    let next : (t + 1) * (n - 1) ≤ chunks_of size + (n - 2) = omega arith in
    omega (arith, le-div (t + 1) (chunks_of size + (n - 2)) (n - 1) (omega arith) next)

pub spot-behind : (n b : ℕ) → 512 ≤ (spot_of n b).place
spot-behind n b = omega arith

pub spot-below : (n b size k : ℕ) → 3 ≤ n → b < size → b % 512 + k ≤ 512 → (spot_of n b).place + k ≤ disk_length n size
spot-below n b size k h lt fits = omega (arith, stripe-below n b size h lt)

pub spot-in : (n b size : ℕ) → 3 ≤ n → b < size → InStripes n size (spot_of n b).place
spot-in n b size h lt = record { behind = spot-behind n b; below = omega (arith, stripe-below n b size h lt) }

-- at one place there is one stripe
pub same-stripe : (n b c : ℕ) → (spot_of n b).place ≡ (spot_of n c).place → (stripe_of n (b / 512) ≡ stripe_of n (c / 512)) × (b % 512 ≡ c % 512)
same-stripe n b c e = (omega arith, omega arith)

pub same-spot : (n b c : ℕ) → (spot_of n b).place ≡ (spot_of n c).place → (spot_of n b).disk ≡ (spot_of n c).disk → b ≡ c
same-spot n b c place disk =
    let same = same-stripe n b c place in
    let t = stripe_of n (b / 512) in
    let k = b / 512 % (n - 1) in
    let j = c / 512 % (n - 1) in
    let disk2 : beside (parity_of n t) k ≡ beside (parity_of n t) j = disk ∙ ap (λ (s : ℕ). beside (parity_of n s) j) (sym same.0) in
    let chunk : k ≡ j = beside-same (parity_of n t) k j disk2 in
    let one : t * (n - 1) + k ≡ b / 512 = div-add-mod' (b / 512) (n - 1) in
    let two : stripe_of n (c / 512) * (n - 1) + j ≡ c / 512 = div-add-mod' (c / 512) (n - 1) in
    let chunks : b / 512 ≡ c / 512 = sym one ∙ ap (λ (s : ℕ). s * (n - 1) + k) same.0 ∙ ap (λ (s : ℕ). stripe_of n (c / 512) * (n - 1) + s) chunk ∙ two in
    omega (arith, same.1)

-- no byte stands where the parity of a byte at that place is
pub never-parity : (n b c : ℕ) → (spot_of n b).place ≡ (spot_of n c).place → (spot_of n b).disk ≢ (spot_of n c).parity
never-parity n b c place e =
    let same = same-stripe n b c place in
    spot-apart n b (e ∙ ap (parity_of n) (sym same.0))

-- the bytes of one chunk follow one another
pub record Along (n b k : ℕ) : Type 0 where
  pub disk : (spot_of n (b + k)).disk ≡ (spot_of n b).disk
  pub parity : (spot_of n (b + k)).parity ≡ (spot_of n b).parity
  pub place : (spot_of n (b + k)).place ≡ (spot_of n b).place + k

pub spot-along : (n b k : ℕ) → b % 512 + k < 512 → Along n b k
spot-along n b k h =
    let chunk : (b + k) / 512 ≡ b / 512 = omega arith in
    let at : (b + k) % 512 ≡ b % 512 + k = omega arith in
    record {
      disk = ap (disk_of n) chunk;
      parity = ap (λ (i : ℕ). parity_of n (stripe_of n i)) chunk;
      place = ap (λ (i : ℕ). place_of (stripe_of n i) + (b + k) % 512) chunk ∙ omega (arith, at);
    }
