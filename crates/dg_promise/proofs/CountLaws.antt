-- Counting lost boundaries: of m places in a row, around the end, one isn't lost where fewer than m boundaries are.
use Rattle.std.proofs.Common.{◌≡◌, ◌∙◌, ℕ, zero, suc, ◌+◌, ◌-◌, ◌%◌, ◌<◌, ◌≤◌, inl, inr, Bool, true, sym, ap, subst, arith}
use Rattle.std.proofs.Math.Nat.{add-mod_right, mod-add-mod, mod-eq_of_lt}
use Rattle.std.proofs.lemmas.Bool.{cases_lt}
use Rattle.std.proofs.lemmas.Nat.{mod_below}
use Rattle.dg_model.specs.Moves.{count_upto}
use Rattle.dg_model.proofs.SumLaws.{one_at}

-- numbers in a row that pass
count_run : (test : ℕ → Bool) (a k : ℕ) → ((i : ℕ) → i < k → test (a + i) ≡ true) → count_upto a test + k ≤ count_upto (a + k) test
count_run test a zero each = let e : a + 0 ≡ a = omega arith in subst (λ (n : ℕ). count_upto a test + 0 ≤ count_upto n test) (sym e) (omega arith)
count_run test a (suc k) each =
    let rest = count_run test a k (λ i low. each i (omega arith)) in
    let one = one_at (test (a + k)) (each k (omega arith)) in
    let e : a + suc k ≡ suc (a + k) = omega arith in
    subst (λ (n : ℕ). count_upto a test + suc k ≤ count_upto n test) (sym e) (omega arith)

count_more : (test : ℕ → Bool) (a k : ℕ) → count_upto a test ≤ count_upto (a + k) test
count_more test a zero = let e : a + 0 ≡ a = omega arith in subst (λ (n : ℕ). count_upto a test ≤ count_upto n test) (sym e) (omega arith)
count_more test a (suc k) =
    let rest = count_more test a k in
    let e : a + suc k ≡ suc (a + k) = omega arith in
    subst (λ (n : ℕ). count_upto a test ≤ count_upto n test) (sym e) (omega arith)

count_le : (test : ℕ → Bool) (a b : ℕ) → a ≤ b → count_upto a test ≤ count_upto b test
count_le test a b le = let e : a + (b - a) ≡ b = omega arith in subst (λ (n : ℕ). count_upto a test ≤ count_upto n test) e (count_more test a (b - a))

-- m places from r on, around n
round_count : (test : ℕ → Bool) (n r m : ℕ) → r < n → m ≤ n → ((s : ℕ) → r ≤ s → s < n → s < r + m → test s ≡ true) → ((s : ℕ) → s + n < r + m → test s ≡ true)
    → m ≤ count_upto n test
round_count test n r m low few late early = elim (cases_lt n (r + m)) [
  | inl past ↦
      let first = count_run test 0 (r + m - n) (λ i lt. subst (λ (k : ℕ). test k ≡ true) (let e : i ≡ 0 + i = omega arith in e) (early i (omega arith))) in
      let start = count_le test (r + m - n) r (omega arith) in
      let second = count_run test r (n - r) (λ i lt. late (r + i) (omega arith) (omega arith) (omega arith)) in
      let all : r + (n - r) ≡ n = omega arith in
      let none : 0 + (r + m - n) ≡ r + m - n = omega arith in
      let begun : r + m - n ≤ count_upto (r + m - n) test = subst (λ (k : ℕ). r + m - n ≤ count_upto k test) none (omega arith) in
      let ended : count_upto r test + (n - r) ≤ count_upto n test = subst (λ (k : ℕ). count_upto r test + (n - r) ≤ count_upto k test) all second in
      omega arith
  | inr inside ↦
      let run = count_run test r m (λ i lt. late (r + i) (omega arith) (omega arith) (omega arith)) in
      let rest = count_le test (r + m) n inside in
      omega arith
]

pub places_count : (test : ℕ → Bool) (n b m : ℕ) → 0 < n → m ≤ n → ((i : ℕ) → i < m → test ((b + i) % n) ≡ true) → m ≤ count_upto n test
places_count test n b m some few each =
    let r = b % n in
    let low = mod_below b n some in
    let at : (i : ℕ) → (b + i) % n ≡ (b % n + i) % n = λ i. sym (mod-add-mod b n i) in
    round_count test n (b % n) m low few
    (λ s from to below.
    let back : b % n + (s - b % n) ≡ s = omega arith in
    let place : (b + (s - b % n)) % n ≡ s = at (s - b % n) ∙ ap (λ (k : ℕ). k % n) back ∙ mod-eq_of_lt to in
    subst (λ (k : ℕ). test k ≡ true) place (each (s - b % n) (omega arith)))
    (λ s below.
    let back : b % n + (s + n - b % n) ≡ s + n = omega arith in
    let place : (b + (s + n - b % n)) % n ≡ s = at (s + n - b % n) ∙ ap (λ (k : ℕ). k % n) back ∙ add-mod_right s n ∙ mod-eq_of_lt (omega arith) in
    subst (λ (k : ℕ). test k ≡ true) place (each (s + n - b % n) (omega arith)))
