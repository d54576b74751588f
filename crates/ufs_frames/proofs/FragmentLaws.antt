-- The bytes of a file block are those of its fragments, and a pointer of an indirect block stands in one of them.
use Rattle.std.proofs.Common.{◌≡◌, ◌∙◌, ℕ, zero, suc, ◌+◌, ◌-◌, ◌*◌, ◌/◌, ◌%◌, ◌^◌, ◌<◌, ◌≤◌, inl, inr, length, get_or, Bool, true, false, List, [], ◌∷◌, Some, refl, sym, ap, arith}
use Rattle.std.specs.Prelude.{Contains, if◌then◌else◌, nat_lt, slice_get}
use Rattle.std.proofs.lemmas.Bool.{cases_order}
use Rattle.std.proofs.lemmas.Bool.Decides.{nat_tests}
use Rattle.std.proofs.lemmas.List.{get_or-append-add, get_or-drop, get_or_append_left, length-append}
use Rattle.std.proofs.lemmas.List.Elements.{Contains-append_cases}
use Rattle.std.proofs.lemmas.Option.{get_or_from_slice_get, slice_get_within}
use Rattle.std.specs.Int.{div_ceil}
use Rattle.std.proofs.lemmas.Grind.{div_ceil_times}
use native.Mathlib.Numerals.{unary_clauses}
use Rattle.std.proofs.Math.Nat.{div-lt_iff_lt-mul, lt_of_mul-lt-mul_right, mul-le-mul, mul-le-mul_right, one-mul, pow-suc}
use Rattle.ufs_model.specs.Blocks.{Volume, area_of, bind, block_at}
use Rattle.ufs_model.specs.Claims.{fragments_from}
use Rattle.ufs_model.specs.Geometries.{IsGeometry, is_block_size, is_fragment_count}
use Rattle.ufs_model.specs.Numbers.{number_at}
use Rattle.ufs_model.specs.Pointers.{indirect_of, locate_of, pointer_in}
use Rattle.ufs_model.specs.declared.geometries.Geometry.{Geometry}
use Rattle.ufs_model.specs.declared.numbers.Endian.{Endian}
use Rattle.ufs_model.specs.declared.numbers.Endian.TheVariants.{Big, Little}
use Rattle.ufs_model.specs.declared.pointers.Chain.{Chain}
use Rattle.ufs_model.specs.declared.pointers.Chain.TheVariants.{Direct, One, Two, Three}
use Rattle.ufs_frames.specs.Chains.{IsChain}

-- ---- blocks end to end

area_length : (l a k : ℕ) (v : Volume) → ((j : ℕ) → j < k → length (block_at l v (a + j)) ≡ l) → length ((area_of l a k v).value) ≡ k * l
unfolding area_of bind
area_length l a zero v whole = omega arith
area_length l a (suc k) v whole =
    let front = area_length l a k v (λ j lt. whole j (omega arith)) in
    let last = whole k (omega arith) in
    simp length-append (omega arith)

area_at : (l a k q r : ℕ) (v : Volume) → ((j : ℕ) → j < k → length (block_at l v (a + j)) ≡ l) → q < k → r < l → get_or ((area_of l a k v).value) (q * l + r) 0 ≡ get_or (block_at l v (a + q)) r 0
unfolding area_of bind
area_at l a zero q r v whole low inside = absurd (omega arith)
area_at l a (suc k) q r v whole low inside = elim (cases_order q k) [
  | inl same ↦
      let long = area_length l a k v (λ j lt. whole j (omega arith)) in
      let place : q * l + r ≡ length ((area_of l a k v).value) + r = rw (long, same) refl in
      rw (place, same) (get_or-append-add ((area_of l a k v).value) (block_at l v (a + k)) r 0)
  | inr other ↦ elim other [
    | inl less ↦
        let long = area_length l a k v (λ j lt. whole j (omega arith)) in
        let most : suc q * l ≤ k * l = mul-le-mul_right l less in
        let next : suc q * l ≡ q * l + l = omega arith in
        let before : q * l + r < length ((area_of l a k v).value) = omega arith in
        get_or_append_left ((area_of l a k v).value) (block_at l v (a + k)) 0 (q * l + r) before ∙ area_at l a k q r v (λ j lt. whole j (omega arith)) less inside
    | inr greater ↦ absurd (omega arith)
  ]
]

-- four bytes that are the same in two lists
same_number : (endian : Endian) (xs ys : List ℕ) (i j : ℕ) → ((m : ℕ) → m < 4 → get_or xs (i + m) 0 ≡ get_or ys (j + m) 0) → number_at endian 4 xs i ≡ number_at endian 4 ys j
unfolding number_at
same_number Little xs ys i j same =
    rw (
      get_or-drop i xs 0 0,
      get_or-drop i xs 1 0,
      get_or-drop i xs 2 0,
      get_or-drop i xs 3 0,
      same 0 (omega arith),
      same 1 (omega arith),
      same 2 (omega arith),
      same 3 (omega arith),
      get_or-drop j ys 0 0,
      get_or-drop j ys 1 0,
      get_or-drop j ys 2 0,
      get_or-drop j ys 3 0,
    ) refl
same_number Big xs ys i j same =
    rw (
      get_or-drop i xs 0 0,
      get_or-drop i xs 1 0,
      get_or-drop i xs 2 0,
      get_or-drop i xs 3 0,
      same 0 (omega arith),
      same 1 (omega arith),
      same 2 (omega arith),
      same 3 (omega arith),
      get_or-drop j ys 0 0,
      get_or-drop j ys 1 0,
      get_or-drop j ys 2 0,
      get_or-drop j ys 3 0,
    ) refl

scaled : (l f q : ℕ) → l ≡ 4 * f → q * l ≡ 4 * (f * q)
scaled l f q is = rw is (omega arith)

-- a pointer of an indirect block stands in one of its fragments
pub pointer_at_fragment : (endian : Endian) (l a k p : ℕ) (v : Volume) → ((j : ℕ) → j < k → length (block_at l v (a + j)) ≡ l) → l ≡ 4 * (l / 4) → 0 < l / 4 → p / (l / 4) < k
    → pointer_in endian ((area_of l a k v).value) p ≡ pointer_in endian (block_at l v (a + p / (l / 4))) (p % (l / 4))
pointer_at_fragment endian l a k p v whole fours some low =
    let split : l / 4 * (p / (l / 4)) + p % (l / 4) ≡ p = omega arith in
    let small : p % (l / 4) < l / 4 = omega arith in
    let product : p / (l / 4) * l ≡ 4 * (l / 4 * (p / (l / 4))) = scaled l (l / 4) (p / (l / 4)) fours in
    same_number endian ((area_of l a k v).value) (block_at l v (a + p / (l / 4))) (4 * p) (4 * (p % (l / 4))) (λ m lt.
    let place : 4 * p + m ≡ p / (l / 4) * l + (4 * (p % (l / 4)) + m) = omega arith in
    rw place (area_at l a k (p / (l / 4)) (4 * (p % (l / 4)) + m) v whole low (omega arith)))

-- ---- fragments from one on

pub fragments_get : (a k q : ℕ) → q < k → slice_get (fragments_from a k) q ≡ Some (a + q)
fragments_get a zero q lt = absurd (omega arith)
fragments_get a (suc k) zero lt = let same : a ≡ a + 0 = omega arith in ap Some same
fragments_get a (suc k) (suc q) lt = fragments_get (suc a) k q (omega arith) ∙ ap Some (let same : suc a + q ≡ a + suc q = omega arith in same)

pub contains_got : (xs : List ℕ) (place f : ℕ) → slice_get xs place ≡ Some f → Contains xs f
contains_got xs place f here = (place, slice_get_within xs place f here, get_or_from_slice_get xs place f f here)

pub fragments_have : (a k f : ℕ) → a ≤ f → f < a + k → Contains (fragments_from a k) f
fragments_have a k f low high =
    let back : a + (f - a) ≡ f = omega arith in
    contains_got (fragments_from a k) (f - a) f (fragments_get a k (f - a) (omega arith) ∙ ap Some back)

pub in_one : (a b : ℕ) → Contains (a ∷ []) b → b ≡ a
in_one a b h = let first : h.0 ≡ 0 = let lt = h.1 in omega arith in sym (rw first at h.2)

pub in_none : (b : ℕ) → Contains [] b → ⊥
in_none b h = let lt = h.1 in omega arith

pub area_range : (l a k b : ℕ) (v : Volume) → Contains ((area_of l a k v).needs) b → (a ≤ b) × (b < a + k)
unfolding area_of bind
area_range l a zero b v h = absurd (in_none b h)
area_range l a (suc k) b v h = elim (Contains-append_cases ((area_of l a k v).needs) ((a + k) ∷ []) b h) [
  | inl front ↦ let range = area_range l a k b v front in (range.0, let high = range.1 in omega arith)
  | inr last ↦ let same = in_one (a + k) b last in (omega arith, omega arith)
]

pub area_have : (l a k b : ℕ) (v : Volume) → Contains ((area_of l a k v).needs) b → Contains (fragments_from a k) b
area_have l a k b v h = let range = area_range l a k b v h in fragments_have a k b range.0 range.1

-- ---- the bounds of a chain

pub two_powers : (n : ℕ) → n ^ 2 ≡ n * n
two_powers n =
    let none : n ^ 0 ≡ 1 = simp unary_clauses in
    let one : n ^ 1 ≡ n = pow-suc n 0 ∙ ap (λ k. k * n) none ∙ one-mul n in
    pow-suc n 1 ∙ ap (λ k. k * n) one

pub pointers_many : (g : Geometry) → IsGeometry g → 1024 ≤ g.nindir
pointers_many g is = let many = is.nindir in let low = is.bsize.1 in omega arith

quotient_below : (n m : ℕ) → 1024 ≤ n → m < n ^ 2 → m / n < n
quotient_below n m low small = (div-lt_iff_lt-mul {k = n} {x = m} {y = n} (omega arith)).1 (rw (← two_powers n) small)

cube_below : (n m : ℕ) → 1024 ≤ n → m < 2 ^ 30 → m / n ^ 2 < n
cube_below n m low small =
    let square : n ^ 2 ≡ n * n = two_powers n in
    let large : 1024 * 1024 ≤ n * n = mul-le-mul {n₁ = 1024} {m₁ = 1024} low low in
    let most : 1024 * (1024 * 1024) ≤ n * (n * n) = mul-le-mul {n₁ = 1024} {m₁ = 1024 * 1024} low large in
    rw square ((div-lt_iff_lt-mul {k = n * n} {x = m} {y = n} (omega arith)).1 (omega arith))

kibibytes : (bsize : ℕ) → is_block_size bsize ≡ true → bsize ≡ 1024 * (bsize / 1024)
unfolding is_block_size
kibibytes bsize h = grind (arith, nat_tests)

share : (frag fsize k : ℕ) → is_fragment_count frag ≡ true → 1024 * k ≡ frag * fsize → fsize ≡ 4 * (fsize / 4)
unfolding is_fragment_count
share frag fsize k h e = grind (arith, nat_tests)

-- a fragment has whole pointers
pub quarters : (g : Geometry) → IsGeometry g → (g.fsize ≡ 4 * (g.fsize / 4)) × (0 < g.fsize / 4)
quarters g is =
    let k = kibibytes g.bsize (is.bsize.0) in
    let e : 1024 * (g.bsize / 1024) ≡ g.frag * g.fsize = let product = is.frag.3 in omega arith in
    let size = is.fsize in
    let low : 512 ≤ g.fsize = size.0 in
    (share g.frag g.fsize (g.bsize / 1024) (is.frag.0) e, omega arith)

-- a pointer of an indirect block is in one of its fragments
pub place_below : (g : Geometry) (p : ℕ) → IsGeometry g → p < g.nindir → p / (g.fsize / 4) < g.frag
place_below g p is low =
    let quarter = quarters g is in
    let product = is.frag.3 in
    let all : g.frag * g.fsize ≡ 4 * (g.fsize / 4 * g.frag) = scaled g.fsize (g.fsize / 4) g.frag quarter.0 in
    let many = is.nindir in
    let turned : g.fsize / 4 * g.frag ≡ g.frag * (g.fsize / 4) = omega arith in
    (div-lt_iff_lt-mul {k = g.fsize / 4} {x = p} {y = g.frag} quarter.1).1 (omega arith)

bounds_far : (nindir m : ℕ) (one two : Bool) → 1024 ≤ nindir → m < 2 ^ 30 → nat_lt m nindir ≡ one → nat_lt (m - nindir) (nindir ^ 2) ≡ two
    → IsChain nindir (if one then One m else if two then Two ((m - nindir) / nindir) ((m - nindir) % nindir)
    else Three ((m - nindir - nindir ^ 2) / nindir ^ 2) ((m - nindir - nindir ^ 2) / nindir % nindir) ((m - nindir - nindir ^ 2) % nindir))
bounds_far nindir m true two large small is further = grind (arith, nat_tests)
bounds_far nindir m false true large small is further =
    let low : m - nindir < nindir ^ 2 = grind (arith, nat_tests) in
    (quotient_below nindir (m - nindir) large low, omega arith)
bounds_far nindir m false false large small is further = (cube_below nindir (m - nindir - nindir ^ 2) large (omega arith), omega arith, omega arith)

bounds_near : (nindir n : ℕ) (direct : Bool) (far : Chain) → nat_lt n 12 ≡ direct → IsChain nindir far → IsChain nindir (if direct then Direct n else far)
bounds_near nindir n true far is whole = grind (arith, nat_tests)
bounds_near nindir n false far is whole = whole

pub chain_bounds : (g : Geometry) (n : ℕ) → IsGeometry g → n < 2 ^ 30 → IsChain g.nindir (locate_of g n)
unfolding locate_of
chain_bounds g n is small =
    let large = pointers_many g is in
    bounds_near g.nindir n _ (indirect_of g.nindir (n - 12)) refl (bounds_far g.nindir (n - 12) _ _ large (omega arith) refl refl)

-- a file of less than 2^32 bytes has at most 2^20 file blocks
pub count_few : (s b : ℕ) → 4096 ≤ b → s < 2 ^ 32 → div_ceil s b ≤ 2 ^ 20
count_few s b large small =
    let bound = (div_ceil_times s b (omega arith)).1 in
    let less : div_ceil s b * b < (2 ^ 20 + 1) * b = omega arith in
    let below = lt_of_mul-lt-mul_right b less in omega arith
