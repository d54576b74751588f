-- The exclusive or of several numbers, and how it changes with one of them.
use Rattle.std.proofs.Common.{◌≡◌, ℕ, zero, suc, ◌<◌, ◌≢◌, refl, sym, ap, ◌∙◌, arith, inl, inr, eq-eqb, bit_xor}
use Rattle.std.specs.Prelude.{if◌then◌else◌}
use Rattle.std.proofs.lemmas.Nat.{xor_comm}
use Rattle.std.proofs.lemmas.Bool.{cases_eq}
use Rattle.std.proofs.lemmas.Bool.Decides.{nat_tests}
use Rattle.std.specs.Int.Bits.{xor_self, xor_zero_l, xor_zero_r}
use lib.Bits.{xor_assoc}
use Rattle.dg_parity.specs.Exclusive.{xor_upto, with_at}

pub xor-swap : (x y z : ℕ) → bit_xor (bit_xor x y) z ≡ bit_xor (bit_xor x z) y
xor-swap x y z = xor_assoc x y z ∙ ap (bit_xor x) (xor_comm y z) ∙ sym (xor_assoc x z y)

-- what was put in twice is gone
pub xor-twice : (y z : ℕ) → bit_xor y (bit_xor y z) ≡ z
xor-twice y z = sym (xor_assoc y y z) ∙ ap (λ (k : ℕ). bit_xor k z) (xor_self y) ∙ xor_zero_l z

pub xor-cancel : (x y z : ℕ) → bit_xor (bit_xor x y) (bit_xor y z) ≡ bit_xor x z
xor-cancel x y z = xor_assoc x y (bit_xor y z) ∙ ap (bit_xor x) (xor-twice y z)

pub with-same : (f : ℕ → ℕ) (a v : ℕ) → with_at f a v a ≡ v
with-same f a v = ap (λ b. if b then v else f a) (eq-eqb a a refl)

pub with-other : (f : ℕ → ℕ) (a v j : ℕ) → j ≢ a → with_at f a v j ≡ f j
with-other f a v j h = grind (arith, nat_tests)

pub xor-same : (f h : ℕ → ℕ) (n : ℕ) → ((j : ℕ) → j < n → f j ≡ h j) → xor_upto f n ≡ xor_upto h n
xor-same f h zero e = refl
xor-same f h (suc n) e =
    ap (λ (k : ℕ). bit_xor k (f n)) (xor-same f h n (λ j lt. e j (omega arith)))
    ∙ ap (bit_xor (xor_upto h n)) (e n (omega arith))

-- one of the numbers changes
pub xor-with : (f : ℕ → ℕ) (a v n : ℕ) → a < n → xor_upto (with_at f a v) n ≡ bit_xor (xor_upto f n) (bit_xor (f a) v)
xor-with f a v zero h = absurd (omega arith)
xor-with f a v (suc n) h = elim (cases_eq a n) [
  | inl e ↦
      let front : xor_upto (with_at f a v) n ≡ xor_upto f n = xor-same (with_at f a v) f n (λ j lt. with-other f a v j (omega arith)) in
      let last : with_at f a v n ≡ v = ap (with_at f a v) (sym e) ∙ with-same f a v in
      let own : f n ≡ f a = ap f (sym e) in
      ap (λ (k : ℕ). bit_xor k (with_at f a v n)) front ∙ ap (bit_xor (xor_upto f n)) last
      ∙ sym (xor-cancel (xor_upto f n) (f a) v) ∙ ap (λ (k : ℕ). bit_xor (bit_xor (xor_upto f n) k) (bit_xor (f a) v)) (sym own)
  | inr ne ↦
      let front : xor_upto (with_at f a v) n ≡ bit_xor (xor_upto f n) (bit_xor (f a) v) = xor-with f a v n (omega arith) in
      let last : with_at f a v n ≡ f n = with-other f a v n (omega arith) in
      ap (λ (k : ℕ). bit_xor k (with_at f a v n)) front ∙ ap (bit_xor (bit_xor (xor_upto f n) (bit_xor (f a) v))) last
      ∙ xor-swap (xor_upto f n) (bit_xor (f a) v) (f n)
]

-- where all of them together are zero, each is what the others are together
pub xor-others : (f : ℕ → ℕ) (a n : ℕ) → a < n → xor_upto f n ≡ 0 → xor_upto (with_at f a 0) n ≡ f a
xor-others f a n h e =
    xor-with f a 0 n h ∙ ap (λ (k : ℕ). bit_xor k (bit_xor (f a) 0)) e ∙ xor_zero_l (bit_xor (f a) 0) ∙ xor_zero_r (f a)

-- the parity with v in place of number a, by the others alone
pub xor-parity : (f : ℕ → ℕ) (a p v n : ℕ) → a < n → p < n → p ≢ a → xor_upto f n ≡ 0
    → xor_upto (with_at (with_at f a v) p 0) n ≡ bit_xor (f p) (bit_xor (f a) v)
xor-parity f a p v n ha hp ne e =
    let first : xor_upto (with_at f a v) n ≡ bit_xor (f a) v =
    xor-with f a v n ha ∙ ap (λ (k : ℕ). bit_xor k (bit_xor (f a) v)) e ∙ xor_zero_l (bit_xor (f a) v) in
    let own : bit_xor (with_at f a v p) 0 ≡ f p = xor_zero_r (with_at f a v p) ∙ with-other f a v p ne in
    xor-with (with_at f a v) p 0 n hp ∙ ap (λ (k : ℕ). bit_xor k (bit_xor (with_at f a v p) 0)) first
    ∙ ap (bit_xor (bit_xor (f a) v)) own ∙ xor_comm (bit_xor (f a) v) (f p)

-- a byte and its parity change together
pub xor-written : (f : ℕ → ℕ) (a p v n : ℕ) → a < n → p < n → a ≢ p → xor_upto f n ≡ 0
    → xor_upto (with_at (with_at f p (bit_xor (f p) (bit_xor (f a) v))) a v) n ≡ 0
xor-written f a p v n ha hp ne e =
    let w = bit_xor (f p) (bit_xor (f a) v) in
    let first : xor_upto (with_at f p w) n ≡ bit_xor (f a) v =
    xor-with f p w n hp ∙ ap (λ (k : ℕ). bit_xor k (bit_xor (f p) w)) e ∙ xor_zero_l (bit_xor (f p) w) ∙ xor-twice (f p) (bit_xor (f a) v) in
    let own : bit_xor (with_at f p w a) v ≡ bit_xor (f a) v = ap (λ (k : ℕ). bit_xor k v) (with-other f p w a ne) in
    xor-with (with_at f p w) a v n ha ∙ ap (λ (k : ℕ). bit_xor k (bit_xor (with_at f p w a) v)) first
    ∙ ap (bit_xor (bit_xor (f a) v)) own ∙ xor_self (bit_xor (f a) v)
