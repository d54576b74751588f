-- How many calls the pages of a piece take.
use Rattle.std.proofs.Common.{◌≡◌, ◌≢◌, ◌≤◌, ◌<◌, ◌+◌, ◌-◌, ◌*◌, ◌/◌, ◌%◌, ◌==◌, ◌&&◌, ◌||◌, not, ℕ, zero, suc, Bool, true, false, cond, refl, sym, ◌∙◌, ap, arith, inl, inr}
use Rattle.std.specs.Prelude.{nat_le, if◌then◌else◌}
use Rattle.std.specs.List.{count_by, range_with_len}
use Rattle.std.proofs.Math.Bool.{beq}
use Rattle.std.proofs.lemmas.Bool.{cases_lt, false≢true, le-leb, lt-leb, leb-true}
use Rattle.std.proofs.lemmas.List.Sums.{sum_by-cons}
use Rattle.std.proofs.lemmas.Bool.Decides.{Decides-eqb}
use Rattle.dg_stop.specs.Behind.{calls_on_page, is_part, pages_on, parts_on}
use Rattle.dg_stop.specs.Pages.{moved}

pub pages_turn : (at n rest : ℕ) → 0 < n → n ≤ rest → at % 512 + n ≤ 512 → (n < rest → at % 512 + n ≡ 512) → pages_on at rest ≡ suc (pages_on (at + n) (rest - n))
pages_turn at n zero some within page full = absurd (omega (arith, some, within))
pages_turn at n (suc r) some within page full = by (suc r - n) refl
  where
    by : (m : ℕ) → suc r - n ≡ m → pages_on at (suc r) ≡ suc (pages_on (at + n) m)
    by zero e = omega (arith, e, page)
    by (suc k) e = omega (arith, e, full (omega (arith, e)))

counts_same : (f g : ℕ → Bool) (a k : ℕ) → ((p : ℕ) → a ≤ p → f p ≡ g p) → count_by f (range_with_len a k) ≡ count_by g (range_with_len a k)
counts_same f g a zero same = refl
counts_same f g a (suc k) same =
    let first : ◌≡◌ {A = ℕ} (cond (f a) 1 0) (cond (g a) 1 0) = ap (λ (b : Bool). cond {A = ℕ} b 1 0) (same a (omega arith)) in
    let rest : count_by f (range_with_len (a + 1) k) ≡ count_by g (range_with_len (a + 1) k) = counts_same f g (a + 1) k (λ p low. same p (omega (arith, low))) in
    sum_by-cons (λ p. cond (f p) 1 0) a (range_with_len (a + 1) k) ∙ ap (λ (n : ℕ). n + count_by f (range_with_len (a + 1) k)) first
    ∙ ap (λ (n : ℕ). cond (g a) 1 0 + n) rest ∙ sym (sum_by-cons (λ p. cond (g p) 1 0) a (range_with_len (a + 1) k))

not_eq : (x y : ℕ) → x ≢ y → (x == y) ≡ false
not_eq x y other = by (x == y) refl
  where
    by : (b : Bool) → (x == y) ≡ b → (x == y) ≡ false
    by true e = absurd (other ((Decides-eqb x y).0 e))
    by false e = e

-- what is written of a page is less than the page, so it is written in part
part_is : (at n rest : ℕ) → n ≤ rest → at % 512 + n ≤ 512 → (n < rest → at % 512 + n ≡ 512) → n ≢ 512 → is_part at rest (at / 512) ≡ true
part_is at n rest within page full other = by (nat_le at (512 * (at / 512))) refl
  where
    by : (b : Bool) → nat_le at (512 * (at / 512)) ≡ b → is_part at rest (at / 512) ≡ true
    by false e = rw e refl
    by true e =
        let low : at ≤ 512 * (at / 512) = leb-true at (512 * (at / 512)) e in
        let all : n ≡ rest = elim (cases_lt n rest) [
          | inl below ↦ absurd (other (omega (arith, low, full below)))
          | inr past ↦ omega (arith, within, past)
        ] in
        rw (e, lt-leb (512 * (at / 512) + 512) (at + rest) (omega (arith, low, all, page, other))) refl

calls_by : (now last whole part : Bool) → (whole ≡ false → part ≡ true) → (if beq now (not last) || whole then 1 else 2) ≤ 1 + cond (part && beq now last) 1 0
calls_by true true true part h = omega arith
calls_by true true false part h = rw (h refl) (omega arith)
calls_by true false whole part h = omega arith
calls_by false true whole part h = omega arith
calls_by false false true part h = omega arith
calls_by false false false part h = rw (h refl) (omega arith)

-- whether page p is read before a part of it is written
abbrev is_read : (now last : ℕ → Bool) (place count p : ℕ) → Bool
is_read now last place count p = is_part place count p && beq (now p) (last p)

-- later pages are those of the rest
later_page : (at n rest : ℕ) (now last next : ℕ → Bool) → n ≤ rest → at % 512 + n ≤ 512 → ((p : ℕ) → next p ≡ moved (at / 512) (not (last (at / 512))) now p)
    → (p : ℕ) → at / 512 + 1 ≤ p → at + n ≤ 512 * (at / 512) + 512 → is_read next last (at + n) (rest - n) p ≡ is_read now last at rest p
later_page at n rest now last next within page is p low end =
    let end_is : at + n + (rest - n) ≡ at + rest = omega (arith, within) in
    let a : nat_le (at + n) (512 * p) ≡ true = le-leb (at + n) (512 * p) (omega (arith, low, end)) in
    let b : nat_le at (512 * p) ≡ true = le-leb at (512 * p) (omega (arith, low)) in
    let places : next p ≡ now p = is p ∙ ap (λ (e : Bool). if e then not (last (at / 512)) else now p) (not_eq p (at / 512) (λ e. absurd (omega (arith, e, low)))) in
    rw (a, b, end_is, places) refl

parts_turn : (at n rest : ℕ) (now last next : ℕ → Bool) → 0 < n → n ≤ rest → at % 512 + n ≤ 512 → (n < rest → at % 512 + n ≡ 512)
    → ((p : ℕ) → next p ≡ moved (at / 512) (not (last (at / 512))) now p)
    → parts_on now last at rest ≡ cond (is_read now last at rest (at / 512)) 1 0 + parts_on next last (at + n) (rest - n)
parts_turn at n rest now last next some within page full is =
    let k = pages_on (at + n) (rest - n) in
    let f = is_read now last at rest in
    let first : count_by f (range_with_len (at / 512) (pages_on at rest)) ≡ cond (f (at / 512)) 1 0 + count_by f (range_with_len (at / 512 + 1) k) =
    ap (λ (m : ℕ). count_by f (range_with_len (at / 512) m)) (pages_turn at n rest some within page full) ∙ sum_by-cons (λ p. cond (f p) 1 0) (at / 512) (range_with_len (at / 512 + 1) k) in
    let rest_is : count_by f (range_with_len (at / 512 + 1) k) ≡ parts_on next last (at + n) (rest - n) = by (rest - n) refl in
    first ∙ ap (λ (m : ℕ). cond (f (at / 512)) 1 0 + m) rest_is
  where
    by : (m : ℕ) → rest - n ≡ m → count_by (is_read now last at rest) (range_with_len (at / 512 + 1) (pages_on (at + n) m)) ≡ parts_on next last (at + n) m
    by zero e = refl
    by (suc m) e =
        let start : (at + n) / 512 ≡ at / 512 + 1 = omega (arith, e, full (omega (arith, e))) in
        sym (ap (λ (a : ℕ). count_by (is_read next last (at + n) (suc m)) (range_with_len a (pages_on (at + n) (suc m)))) start
        ∙ counts_same (is_read next last (at + n) (suc m)) (is_read now last at rest) (at / 512 + 1) (pages_on (at + n) (suc m))
        (λ p low. ap (λ (l : ℕ). is_read next last (at + n) l p) (sym e) ∙ later_page at n rest now last next within page is p low (omega (arith, page))))

-- a part of a page and what is left take no more calls than all
pub calls_turn : (at n rest : ℕ) (now last next : ℕ → Bool) → 0 < n → n ≤ rest → at % 512 + n ≤ 512 → (n < rest → at % 512 + n ≡ 512)
    → ((p : ℕ) → next p ≡ moved (at / 512) (not (last (at / 512))) now p)
    → calls_on_page (now (at / 512)) (not (last (at / 512))) n + (pages_on (at + n) (rest - n) + parts_on next last (at + n) (rest - n))
    ≤ pages_on at rest + parts_on now last at rest
calls_turn at n rest now last next some within page full is =
    let here : calls_on_page (now (at / 512)) (not (last (at / 512))) n ≤ 1 + cond (is_read now last at rest (at / 512)) 1 0 =
    calls_by (now (at / 512)) (last (at / 512)) (n == 512) (is_part at rest (at / 512))
    (λ off. part_is at n rest within page full (λ e. absurd (false≢true (sym off ∙ (Decides-eqb n 512).1 e)))) in
    omega (arith, here, pages_turn at n rest some within page full, parts_turn at n rest now last next some within page full is)

-- a page takes one call at least
pub one_call : (stands second : Bool) (n : ℕ) → 1 ≤ calls_on_page stands second n
one_call stands second n = by (beq stands second || (n == 512))
  where
    by : (b : Bool) → 1 ≤ (if b then 1 else 2)
    by true = omega arith
    by false = omega arith

pub two_calls : (stands second : Bool) (n : ℕ) → beq stands second ≡ false → n ≢ 512 → calls_on_page stands second n ≡ 2
two_calls stands second n other part = rw (other, not_eq n 512 part) refl

-- the same piece by other numbers
pub pages_same : (p q m n : ℕ) → p ≡ q → m ≡ n → pages_on p m ≡ pages_on q n
pages_same p q m n at size = ap (λ (x : ℕ). pages_on x m) at ∙ ap (λ (x : ℕ). pages_on q x) size

pub parts_same : (now last : ℕ → Bool) (p q m n : ℕ) → p ≡ q → m ≡ n → parts_on now last p m ≡ parts_on now last q n
parts_same now last p q m n at size = ap (λ (x : ℕ). parts_on now last x m) at ∙ ap (λ (x : ℕ). parts_on now last q x) size
