-- How many numbers pass a test, once the test has changed.
use Rattle.std.proofs.Common.{◌≡◌, ◌≢◌, ◌<◌, ◌≤◌, ◌+◌, ℕ, suc, zero, Bool, true, false, cond, refl, sym, ◌∙◌, ap, subst, ⊎_elim, arith}
use Rattle.std.proofs.lemmas.Bool.{cases_eq}
use Rattle.dg_map.specs.Bits.{count_upto}

pub count_zero : (test : ℕ → Bool) → count_upto 0 test ≡ 0
unfolding count_upto
count_zero test = refl

pub count_suc : (n : ℕ) (test : ℕ → Bool) → count_upto (suc n) test ≡ count_upto n test + cond (test n) 1 0
unfolding count_upto
count_suc n test = refl

cond_yes : (b : Bool) → b ≡ true → ◌≡◌ {A = ℕ} (cond b 1 0) 1
cond_yes b e = ap (λ v. cond v 1 0) e

cond_no : (b : Bool) → b ≡ false → ◌≡◌ {A = ℕ} (cond b 1 0) 0
cond_no b e = ap (λ v. cond v 1 0) e

cond_like : (b c : Bool) → c ≡ b → ◌≡◌ {A = ℕ} (cond c 1 0) (cond b 1 0)
cond_like b c e = ap (λ v. cond v 1 0) e

cond_le : (b : Bool) → cond b 1 0 ≤ 1
cond_le true = omega arith
cond_le false = omega arith

pub count_none : (n : ℕ) (test : ℕ → Bool) → ((k : ℕ) → k < n → test k ≡ false) → count_upto n test ≡ 0
count_none zero test none = count_zero test
count_none (suc n) test none =
    omega (arith, count_suc n test, count_none n test (λ k lt. none k (omega arith)), cond_no (test n) (none n (omega arith)))

pub count_all : (n : ℕ) (test : ℕ → Bool) → ((k : ℕ) → k < n → test k ≡ true) → count_upto n test ≡ n
count_all zero test all = count_zero test
count_all (suc n) test all =
    omega (arith, count_suc n test, count_all n test (λ k lt. all k (omega arith)), cond_yes (test n) (all n (omega arith)))

pub count_same : (n : ℕ) (old new : ℕ → Bool) → ((k : ℕ) → k < n → new k ≡ old k) → count_upto n new ≡ count_upto n old
count_same zero old new same = count_zero new ∙ sym (count_zero old)
count_same (suc n) old new same =
    omega (arith, count_suc n old, count_suc n new, count_same n old new (λ k lt. same k (omega arith)), cond_like (old n) (new n) (same n (omega arith)))

-- one more number passes
pub count_more : (n m : ℕ) (old new : ℕ → Bool) → m < n → old m ≡ false → new m ≡ true → ((k : ℕ) → k ≢ m → new k ≡ old k) → count_upto n new ≡ count_upto n old + 1
count_more zero m old new lt off on others = absurd (omega (arith, lt))
count_more (suc n) m old new lt off on others =
    ⊎_elim
    (λ e.
    omega (
      arith,
      count_suc n old,
      count_suc n new,
      count_same n old new (λ k below. others k (λ f. absurd (omega arith))),
      cond_no (old n) (subst (λ q. old q ≡ false) (sym e) off),
      cond_yes (new n) (subst (λ q. new q ≡ true) (sym e) on),
    ))
    (λ ne. omega (arith, count_suc n old, count_suc n new, count_more n m old new (less ne) off on others, cond_like (old n) (new n) (others n ne)))
    (cases_eq n m)
  where
    less : n ≢ m → m < n
    less ne = ⊎_elim (λ e. absurd (ne (sym e))) (λ apart. omega (arith, lt)) (cases_eq m n)

pub count_le : (n : ℕ) (test : ℕ → Bool) → count_upto n test ≤ n
count_le zero test = omega (arith, count_zero test)
count_le (suc n) test = omega (arith, count_suc n test, count_le n test, cond_le (test n))

-- where a number below n fails, fewer than n pass
pub count_lacks : (n m : ℕ) (test : ℕ → Bool) → m < n → test m ≡ false → count_upto n test < n
count_lacks zero m test lt off = absurd (omega (arith, lt))
count_lacks (suc n) m test lt off =
    ⊎_elim
    (λ e. omega (arith, count_suc n test, count_le n test, cond_no (test n) (subst (λ q. test q ≡ false) (sym e) off)))
    (λ ne. omega (arith, count_suc n test, count_lacks n m test (less ne) off, cond_le (test n)))
    (cases_eq n m)
  where
    less : n ≢ m → m < n
    less ne = ⊎_elim (λ e. absurd (ne (sym e))) (λ apart. omega (arith, lt)) (cases_eq m n)
