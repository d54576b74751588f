-- The calls of a stripe by its chunks, where no disk is out, and of one that is written whole.
use Rattle.std.proofs.Common.{◌≡◌, ℕ, zero, suc, ◌+◌, ◌-◌, ◌*◌, ◌/◌, ◌%◌, ◌<◌, ◌≤◌, inl, inr, Bool, true, false, cond, refl, sym, ap, ◌∙◌, arith}
use Rattle.std.specs.Prelude.{◌&&◌, ◌||◌, ◌==◌, min, nat_lt, not, if◌then◌else◌}
use Rattle.std.proofs.Math.Nat.{add-mul, mul-le-mul_right, one-mul}
use Rattle.std.proofs.lemmas.Bool.{cases_Bool, cases_eq}
use Rattle.std.proofs.lemmas.Bool.Decides.{nat_tests}
use Rattle.std.proofs.lemmas.Nat.{div-add-mod', mod_below}
use Rattle.dg_model.specs.Moves.{count_upto, sum_upto}
use Rattle.dg_model.proofs.SumLaws.{sum_same, sum_zero}
use Rattle.dg_parity.specs.Runs.{among, chunk_on, IsWhole}
use Rattle.dg_parity.specs.Stripes.{parity_of, stripe_of}
use Rattle.dg_parity.specs.Updates.{has_all, has_part, is_changed, is_left, is_read, least_reads, parts_in, reads_by, reads_for, reads_on, reads_to_get, stripes_in, wholes_in, writes_in, writes_on}
use Rattle.dg_parity.proofs.RowLemmas.{whole-covers}
use Rattle.dg_parity.proofs.RunLemmas.{stripe-up}
use Rattle.dg_parity.proofs.UpdateLemmas.{get-in, stripes-some}

-- ---- a sum over all disks is what the disk with the parity has, and that of the chunks of the others

module _ (f : ℕ → ℕ) (v p : ℕ) where
  abbrev own : ℕ → ℕ
  own j = if j == p then v else f (among p j)

  own-at : (j : ℕ) → j ≡ p → own j ≡ v
  own-at j e = let yes : (j == p) ≡ true = grind (arith, nat_tests, e) in ap (λ (b : Bool). if b then v else f (among p j)) yes

  own-low : (j : ℕ) → j < p → own j ≡ f j
  own-low j lt =
      let none : (j == p) ≡ false = grind (arith, nat_tests, lt) in
      let below : nat_lt j p ≡ true = grind (arith, nat_tests, lt) in
      ap (λ (b : Bool). if b then v else f (among p j)) none ∙ ap (λ (b : Bool). f (if b then j else j - 1)) below

  own-high : (j : ℕ) → p < j → own j ≡ f (j - 1)
  own-high j lt =
      let none : (j == p) ≡ false = grind (arith, nat_tests, lt) in
      let above : nat_lt j p ≡ false = grind (arith, nat_tests, lt) in
      ap (λ (b : Bool). if b then v else f (among p j)) none ∙ ap (λ (b : Bool). f (if b then j else j - 1)) above

  disks-sum : (m : ℕ) → p ≤ m → sum_upto (suc m) own ≡ v + sum_upto m f
  disks-sum zero le = omega (arith, own-at 0 (omega (arith, le)))
  disks-sum (suc m) le = elim (cases_eq p (suc m)) [
    | inl e ↦ omega (arith, sum_same own f (suc m) (λ j lt. own-low j (omega (arith, e, lt))), own-at (suc m) (sym e))
    | inr ne ↦
        let last : f (suc m - 1) ≡ f m = ap f (omega arith) in
        omega (arith, disks-sum m (omega (arith, le, ne)), own-high (suc m) (omega (arith, le, ne)), last)
  ]

  all-sum : (n : ℕ) → 1 ≤ n → p < n → sum_upto n own ≡ v + sum_upto (n - 1) f
  all-sum n some lt = let e : n ≡ suc (n - 1) = omega (arith, some) in ap (λ (k : ℕ). sum_upto k own) e ∙ disks-sum (n - 1) (omega (arith, lt))

-- ---- one disk

abbrev one : Bool → ℕ
one b = if b then 1 else 0

or-one : (b x : Bool) → one (b || x) ≡ (if b then 1 else cond x 1 0)
or-one true x = refl
or-one false true = refl
or-one false false = refl

or-none : (b x : Bool) → one (not (b || x)) ≡ (if b then 0 else cond (not x) 1 0)
or-none true x = refl
or-none false true = refl
or-none false false = refl

and-in : (x y : Bool) → y ≡ false → one (x && not y) ≡ one x
and-in true y e = ap (λ (b : Bool). one (not b)) e
and-in false y e = refl

rest-count : (p : ℕ → Bool) (m : ℕ) → sum_upto m (λ k. cond (not (p k)) 1 0) + count_upto m p ≡ m
rest-count p zero = refl
rest-count p (suc m) = omega (arith, rest-count p m, either (p m)) where
  either : (b : Bool) → cond (not b) 1 0 + cond b 1 0 ≡ 1
  either true = refl
  either false = refl

-- ---- the calls of a stripe

module _ (n : ℕ) (out : ℕ → Bool) (at size t : ℕ) (least : 3 ≤ n) (in0 : (j : ℕ) → j < n → out j ≡ false) where
  parity-low : parity_of n t < n
  parity-low = mod_below t n (omega (arith, least))

  changed-all : sum_upto n (λ j. one (is_changed n at size t j)) ≡ parts_in n at size t + 1
  changed-all =
      sum_same (λ j. one (is_changed n at size t j)) (own (λ k. cond (has_part at size (t * (n - 1) + k)) 1 0) 1 (parity_of n t)) n
      (λ j lt. or-one (j == parity_of n t) (has_part at size (chunk_on n t j)))
      ∙ omega (arith, all-sum (λ k. cond (has_part at size (t * (n - 1) + k)) 1 0) 1 (parity_of n t) n (omega (arith, least)) parity-low)

  left-all : sum_upto n (λ j. one (is_left n at size t j)) ≡ n - 1 - wholes_in n at size t
  left-all =
      sum_same (λ j. one (is_left n at size t j)) (own (λ k. cond (not (has_all at size (t * (n - 1) + k))) 1 0) 0 (parity_of n t)) n
      (λ j lt. or-none (j == parity_of n t) (has_all at size (chunk_on n t j)))
      ∙ omega (
        arith,
        all-sum (λ k. cond (not (has_all at size (t * (n - 1) + k))) 1 0) 0 (parity_of n t) n (omega (arith, least)) parity-low,
        rest-count (λ k. has_all at size (t * (n - 1) + k)) (n - 1),
      )

  get-one : (by : Bool) (j : ℕ) → j < n → reads_on n out at size t by j ≡ one (is_read n at size t by j)
  get-one by j lt = ap (λ (x : ℕ). if is_read n at size t by j then x else 0) (get-in n out j (in0 j lt))

  by-parts : reads_by n out at size t true ≡ parts_in n at size t + 1
  by-parts = sum_same (reads_on n out at size t true) (λ j. one (is_changed n at size t j)) n (get-one true) ∙ changed-all

  by-rest : reads_by n out at size t false ≡ n - 1 - wholes_in n at size t
  by-rest = sum_same (reads_on n out at size t false) (λ j. one (is_left n at size t j)) n (get-one false) ∙ left-all

  pub least-chunks : least_reads n out at size t ≡ min (parts_in n at size t + 1) (n - 1 - wholes_in n at size t)
  least-chunks =
      ap (λ (b : Bool). if b then 0 else min (reads_by n out at size t true) (reads_by n out at size t false)) (in0 (parity_of n t) parity-low)
      ∙ ap (λ (x : ℕ). min x (reads_by n out at size t false)) by-parts
      ∙ ap (min (parts_in n at size t + 1)) by-rest

  pub writes-chunks : writes_in n out at size t ≡ parts_in n at size t + 1
  writes-chunks =
      sum_same (writes_on n out at size t) (λ j. one (is_changed n at size t j)) n (λ j lt. and-in (is_changed n at size t j) (out j) (in0 j lt)) ∙ changed-all

-- ---- stripes that are written whole

left-none : (n at size t j : ℕ) → 3 ≤ n → j < n → IsWhole n t at size → is_left n at size t j ≡ false
left-none n at size t j least lt whole = elim (cases_eq j (parity_of n t)) [
  | inl e ↦ let yes : (j == parity_of n t) ≡ true = grind (arith, nat_tests, e) in ap (λ (b : Bool). not (b || has_all at size (chunk_on n t j))) yes
  | inr ne ↦
      let all = whole-covers n t j at size least lt ne whole in
      let low : at ≤ 512 * chunk_on n t j = omega (arith, all.0) in
      let high : 512 * chunk_on n t j + 512 ≤ at + size = omega (arith, all.1) in
      let yes : has_all at size (chunk_on n t j) ≡ true = grind (arith, nat_tests, low, high) in
      let no : (j == parity_of n t) ≡ false = grind (arith, nat_tests, ne) in
      ap (λ (b : Bool). not (j == parity_of n t || b)) yes ∙ ap (λ (b : Bool). not (b || true)) no
]

pub reads-whole : (n : ℕ) (out : ℕ → Bool) (at size t : ℕ) → 3 ≤ n → IsWhole n t at size → least_reads n out at size t ≡ 0
reads-whole n out at size t least whole =
    let none : reads_by n out at size t false ≡ 0 =
    sum_zero (reads_on n out at size t false) n (λ j lt. ap (λ (b : Bool). if b then reads_to_get n out j else 0) (left-none n at size t j least lt whole)) in
    elim (cases_Bool (out (parity_of n t))) [
      | inl gone ↦ ap (λ (b : Bool). if b then 0 else min (reads_by n out at size t true) (reads_by n out at size t false)) gone
      | inr in0 ↦
          ap (λ (b : Bool). if b then 0 else min (reads_by n out at size t true) (reads_by n out at size t false)) in0
          ∙ omega (arith, none)
    ]

-- a stripe between those of the first and the last byte
inner-whole : (n at size t : ℕ) → 3 ≤ n → 0 < size → stripe_of n (at / 512) < t → t < stripe_of n ((at + (size - 1)) / 512) → IsWhole n t at size
inner-whole n at size t least some above below =
    let s = n - 1 in
    let c = at / 512 in
    let d = (at + (size - 1)) / 512 in
    let first : c / s * s + c % s ≡ c = div-add-mod' c s in
    let inside : c % s < s = mod_below c s (omega arith) in
    let last : d / s * s + d % s ≡ d = div-add-mod' d s in
    let low : (c / s + 1) * s ≤ t * s = mul-le-mul_right {m = c / s + 1} {n = t} s (omega (arith, above)) in
    let high : (t + 1) * s ≤ d / s * s = mul-le-mul_right {m = t + 1} {n = d / s} s (omega (arith, below)) in
    record {
      low = omega (arith, first, inside, low, add-mul (c / s) 1 s, one-mul s);
      high = omega (arith, last, high, some);
    }

sum-first : (f : ℕ → ℕ) (m : ℕ) → ((q : ℕ) → 0 < q → q < m → f q ≡ 0) → sum_upto m f ≤ f 0
sum-first f zero none = omega arith
sum-first f (suc m) none = elim (cases_eq m 0) [
  | inl e ↦ omega (arith, ap (λ (k : ℕ). sum_upto k f) e, ap f e)
  | inr ne ↦ omega (arith, sum-first f m (λ q some lt. none q some (omega arith)), none m (omega (arith, ne)) (omega arith))
]

sum-ends : (f : ℕ → ℕ) (m : ℕ) → ((q : ℕ) → 0 < q → q + 1 < m → f q ≡ 0) → sum_upto m f ≤ f 0 + f (m - 1)
sum-ends f zero none = omega arith
sum-ends f (suc m) none =
    let last : f (suc m - 1) ≡ f m = ap f (omega arith) in
    omega (arith, sum-first f m (λ q some lt. none q some (omega arith)), last)

pub reads-ends : (n : ℕ) (out : ℕ → Bool) (place count : ℕ) → 3 ≤ n → 0 < count → reads_for n out place count
    ≤ least_reads n out place count (stripe_of n (place / 512)) + least_reads n out place count (stripe_of n ((place + (count - 1)) / 512))
reads-ends n out place count least some =
    let first = stripe_of n (place / 512) in
    let last = stripe_of n ((place + (count - 1)) / 512) in
    let m = stripes_in n place count in
    let f = λ (q : ℕ). least_reads n out place count (first + q) in
    let size : m ≡ last - first + 1 = stripes-some n place count some in
    let up : first ≤ last = stripe-up n place (place + (count - 1)) least (omega arith) in
    let both : sum_upto m f ≤ f 0 + f (m - 1) =
    sum-ends f m (λ q low high. reads-whole n out place count (first + q) least (inner-whole n place count (first + q) least some (omega (arith, low)) (omega (arith, high, size)))) in
    let start : f 0 ≡ least_reads n out place count first = ap (least_reads n out place count) (omega arith) in
    let end : f (m - 1) ≡ least_reads n out place count last = ap (least_reads n out place count) (omega (arith, size, up)) in
    omega (arith, both, start, end)
