-- Marks of disks: how many are out, and a byte of them.
use Rattle.std.proofs.Common.{◌≡◌, ℕ, zero, suc, ◌+◌, ◌*◌, ◌/◌, ◌%◌, ◌<◌, ◌≤◌, ◌^◌, inl, inr, Bool, true, false, List, [], ◌∷◌, get_or, refl, sym, ap, ◌∙◌, arith, cond}
use Rattle.std.specs.Prelude.{count_by, ◌==◌, if◌then◌else◌}
use Rattle.std.proofs.lemmas.Bool.{cases_Bool, false≢true}
use Rattle.std.proofs.lemmas.Bool.Decides.{nat_tests}
use Rattle.std.proofs.lemmas.List.Sums.{sum_by-cons}
use Rattle.dg_parity.specs.Groups.{is_lost, is_out}
use Rattle.dg_parity.specs.Headers.{marks_of}
use Rattle.dg_parity.specs.Openings.{is_marked}
use Rattle.dg_parity.specs.declared.groups.Group.{Group}

-- ---- how many are out

pub count-step : (x : Bool) (xs : List Bool) → count_by (λ x. x) (x ∷ xs) ≡ cond x 1 0 + count_by (λ x. x) xs
count-step x xs = sum_by-cons (λ (y : Bool). cond y 1 0) x xs

pub one-of : (x : Bool) → x ≡ true → cond {A = ℕ} x 1 0 ≡ 1
one-of true h = refl
one-of false h = absurd (false≢true h)

zero-of : (x : Bool) → x ≡ false → cond {A = ℕ} x 1 0 ≡ 0
zero-of true h = absurd (false≢true (sym h))
zero-of false h = refl

count-le : (xs ys : List Bool) → ((j : ℕ) → get_or xs j false ≡ true → get_or ys j false ≡ true) → count_by (λ x. x) xs ≤ count_by (λ x. x) ys
count-le [] ys h = let none : count_by (λ x. x) [] ≡ 0 = refl in omega (arith, none)
count-le (x ∷ xs) [] h =
    let rest = count-le xs [] (λ j e. h (suc j) e) in
    elim (cases_Bool x) [ inl t ↦ absurd (false≢true (h 0 t)) | inr f ↦ omega (arith, count-step x xs, zero-of x f, rest) ]
count-le (x ∷ xs) (y ∷ ys) h =
    let rest = count-le xs ys (λ j e. h (suc j) e) in
    elim (cases_Bool x) [
      | inl t ↦ omega (arith, count-step x xs, count-step y ys, one-of x t, one-of y (h 0 t), rest)
      | inr f ↦ omega (arith, count-step x xs, count-step y ys, zero-of x f, rest)
    ]

-- a group isn't lost where another one isn't that has as many disks out
pub alive-again : (group next : Group) → ((j : ℕ) → is_out group j ≡ true → is_out next j ≡ true) → is_lost next ≡ false → is_lost group ≡ false
alive-again group next h alive = let le = count-le group.out next.out h in grind (arith, nat_tests)

-- ---- a byte of marks

abbrev pub number : Bool → ℕ
number true = 1
number false = 0

weight : (b : Bool) (p : ℕ) → (if b then p else 0) ≡ p * number b
weight true p = omega arith
weight false p = omega arith

small : (b : Bool) → number b ≤ 1
small true = omega arith
small false = omega arith

is-one : (b : Bool) → (number b == 1) ≡ b
is-one true = refl
is-one false = refl

pub bit-of : (m v j : ℕ) (b : Bool) → (m / 2 ^ j) % 2 ≡ v → v ≡ number b → is_marked m j ≡ b
bit-of m v j b is at = ap (λ (k : ℕ). k == 1) (is ∙ at) ∙ is-one b

marks-sum : (out : ℕ → Bool) → marks_of out 8
    ≡ number (out 0) + 2 * number (out 1) + 4 * number (out 2) + 8 * number (out 3) + 16 * number (out 4) + 32 * number (out 5) + 64 * number (out 6) + 128 * number (out 7)
marks-sum out =
    let all : marks_of out 8
    ≡ 0 + (if out 0 then 1 else 0) + (if out 1 then 2 else 0) + (if out 2 then 4 else 0) + (if out 3 then 8 else 0) + (if out 4 then 16 else 0) + (if out 5 then 32 else 0)
    + (if out 6 then 64 else 0) + (if out 7 then 128 else 0) = refl in
    omega (arith, all, weight (out 0) 1, weight (out 1) 2, weight (out 2) 4, weight (out 3) 8, weight (out 4) 16, weight (out 5) 32, weight (out 6) 64, weight (out 7) 128)

bits : (m a b c d e f g h : ℕ) → m ≡ a + 2 * b + 4 * c + 8 * d + 16 * e + 32 * f + 64 * g + 128 * h → a ≤ 1 → b ≤ 1 → c ≤ 1 → d ≤ 1 → e ≤ 1 → f ≤ 1 → g ≤ 1 → h ≤ 1
    → (m / 1 % 2 ≡ a) × (m / 2 % 2 ≡ b) × (m / 4 % 2 ≡ c) × (m / 8 % 2 ≡ d) × (m / 16 % 2 ≡ e) × (m / 32 % 2 ≡ f) × (m / 64 % 2 ≡ g) × (m / 128 % 2 ≡ h)
bits m a b c d e f g h is a1 b1 c1 d1 e1 f1 g1 h1 =
    (omega (arith, is), omega (arith, is), omega (arith, is), omega (arith, is), omega (arith, is), omega (arith, is), omega (arith, is), omega (arith, is))

-- the marks of a header are the disks that are out
pub marked : (out : ℕ → Bool) (j : ℕ) → j < 8 → is_marked (marks_of out 8) j ≡ out j
marked out j lt =
    let all = bits (marks_of out 8) (number (out 0)) (number (out 1)) (number (out 2)) (number (out 3)) (number (out 4)) (number (out 5)) (number (out 6)) (number (out 7)) (marks-sum out)
    (small (out 0)) (small (out 1)) (small (out 2)) (small (out 3)) (small (out 4)) (small (out 5)) (small (out 6)) (small (out 7)) in
    at j lt all
  where
    at : (j : ℕ) → j < 8 → ((marks_of out 8 / 1 % 2 ≡ number (out 0)) × (marks_of out 8 / 2 % 2 ≡ number (out 1)) × (marks_of out 8 / 4 % 2 ≡ number (out 2)) × (marks_of out 8 / 8 % 2 ≡ number (out 3))
        × (marks_of out 8 / 16 % 2 ≡ number (out 4)) × (marks_of out 8 / 32 % 2 ≡ number (out 5)) × (marks_of out 8 / 64 % 2 ≡ number (out 6)) × (marks_of out 8 / 128 % 2 ≡ number (out 7)))
        → is_marked (marks_of out 8) j ≡ out j
    at zero lt all = bit-of (marks_of out 8) (number (out 0)) 0 (out 0) all.0 refl
    at (suc zero) lt all = bit-of (marks_of out 8) (number (out 1)) 1 (out 1) all.1 refl
    at (suc (suc zero)) lt all = bit-of (marks_of out 8) (number (out 2)) 2 (out 2) all.2 refl
    at (suc (suc (suc zero))) lt all = bit-of (marks_of out 8) (number (out 3)) 3 (out 3) all.3 refl
    at (suc (suc (suc (suc zero)))) lt all = bit-of (marks_of out 8) (number (out 4)) 4 (out 4) all.4 refl
    at (suc (suc (suc (suc (suc zero))))) lt all = bit-of (marks_of out 8) (number (out 5)) 5 (out 5) all.5 refl
    at (suc (suc (suc (suc (suc (suc zero)))))) lt all = bit-of (marks_of out 8) (number (out 6)) 6 (out 6) all.6 refl
    at (suc (suc (suc (suc (suc (suc (suc zero))))))) lt all = bit-of (marks_of out 8) (number (out 7)) 7 (out 7) all.7 refl
    at (suc (suc (suc (suc (suc (suc (suc (suc k)))))))) lt all = absurd (omega (arith, lt))

pub marks-below : (out : ℕ → Bool) → marks_of out 8 < 2 ^ 8
marks-below out = omega (arith, marks-sum out, small (out 0), small (out 1), small (out 2), small (out 3), small (out 4), small (out 5), small (out 6), small (out 7))
