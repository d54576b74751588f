-- How many calls a row of chunks takes.
use Rattle.std.proofs.Common.{◌≡◌, ℕ, zero, suc, ◌+◌, ◌-◌, ◌*◌, ◌%◌, ◌<◌, ◌≤◌, ◌⊎◌, inl, inr, refl, ap, subst, ◌∙◌, arith}
use Rattle.std.proofs.Math.Nat.{mul-le-mul_left, mul-add, mul-one}
use Rattle.dg_parity.specs.Stripes.{chunks_in}

one-more : (at k part rest : ℕ) → suc k - part ≡ rest → 0 < part → part ≤ suc k → (part ≡ suc k) ⊎ (at % 512 + part ≡ 512) → chunks_in (at + part) rest + 1 ≤ chunks_in at (suc k)
one-more at k part zero is some most end = omega arith
one-more at k part (suc r) is some most (inl all) = absurd (omega (arith, is, all))
one-more at k part (suc r) is some most (inr whole) = omega (arith, is, whole, most)

-- the bytes of one chunk, and the rest behind it
chunk-more : (at left part : ℕ) → 0 < part → part ≤ left → (part ≡ left) ⊎ (at % 512 + part ≡ 512) → chunks_in (at + part) (left - part) + 1 ≤ chunks_in at left
chunk-more at zero part some most end = absurd (omega arith)
chunk-more at (suc k) part some most end = one-more at k part (suc k - part) refl some most end

pub mul-next : (m x : ℕ) → m * (x + 1) ≡ m * x + m
mul-next m x = mul-add m x 1 ∙ ap (λ (n : ℕ). m * x + n) (mul-one m)

-- one chunk more was called
pub calls-more : (m at left part x y t : ℕ) → 0 < part → part ≤ left → (part ≡ left) ⊎ (at % 512 + part ≡ 512) → y ≤ x + m
    → x + m * chunks_in at left ≤ t → y + m * chunks_in (at + part) (left - part) ≤ t
calls-more m at left part x y t some most end call h =
    let more : m * (chunks_in (at + part) (left - part) + 1) ≤ m * chunks_in at left = mul-le-mul_left m (chunk-more at left part some most end) in
    omega (arith, more, mul-next m (chunks_in (at + part) (left - part)))

pub calls-next : (m place done total n part x y t : ℕ) → n ≡ total → 0 < part → part ≤ n - done → (part ≡ n - done) ⊎ ((place + done) % 512 + part ≡ 512) → y ≤ x + m
    → x + m * chunks_in (place + done) (total - done) ≤ t → y + m * chunks_in (place + (done + part)) (total - (done + part)) ≤ t
calls-next m place done total n part x y t is some most end call h =
    let at : place + done + part ≡ place + (done + part) = omega arith in
    let left : total - done - part ≡ total - (done + part) = omega arith in
    subst (λ (a : ℕ). y + m * chunks_in a (total - (done + part)) ≤ t) at
    (subst (λ (l : ℕ). y + m * chunks_in (place + done + part) l ≤ t) left
    (calls-more m (place + done) (total - done) part x y t some (omega (arith, is, most))
    (subst (λ (k : ℕ). (part ≡ k - done) ⊎ ((place + done) % 512 + part ≡ 512)) is end) call h))

pub calls-end : (x r t : ℕ) → x + r ≤ t → x ≤ t
calls-end x r t h = omega arith

pub calls-last : (m place done total n part x y t : ℕ) → n ≡ total → 0 < part → part ≤ n - done → (part ≡ n - done) ⊎ ((place + done) % 512 + part ≡ 512) → y ≤ x + m
    → x + m * chunks_in (place + done) (total - done) ≤ t → y ≤ t
calls-last m place done total n part x y t is some most end call h =
    calls-end y (m * chunks_in (place + (done + part)) (total - (done + part))) t (calls-next m place done total n part x y t is some most end call h)

-- calls on chunks, and then headers
pub calls-before : (x y r n : ℕ) → y ≤ x + r → y ≤ x + (r + 2 * n)
calls-before x y r n h = omega arith

pub calls-twice : (x y z r n m : ℕ) → m ≡ n → y ≤ x + r → z ≤ y + 2 * m → z ≤ x + (r + 2 * n)
calls-twice x y z r n m is h g = omega (arith, is, h, g)

-- headers, calls on chunks, and headers again
pub calls-first : (x y n r : ℕ) → y ≤ x + 2 * n → y ≤ x + (r + 4 * n)
calls-first x y n r h = omega arith

calls-all : (x y z t n k r : ℕ) → k ≡ n → y ≤ x + 2 * n → z ≤ y + r → t ≤ z + 2 * k → t ≤ x + (r + 4 * n)
calls-all x y z t n k r same one mid three = omega (arith, same, one, mid, three)

pub calls-written : (x y z t n m k c : ℕ) → m ≡ n → k ≡ n → y ≤ x + 2 * n → z ≤ y + (m + 4) * c → t ≤ z + 2 * k → t ≤ x + ((n + 4) * c + 4 * n)
calls-written x y z t n m k c is same one two three =
    calls-all x y z t n k ((n + 4) * c) same one (subst (λ (i : ℕ). z ≤ y + (i + 4) * c) is two) three
