-- How many calls the passes and tries of a commit take.
use Rattle.std.proofs.Common.{◌≡◌, ◌≤◌, ◌<◌, ◌+◌, ◌-◌, ◌*◌, ℕ, Bool, true, false, List, length, refl, sym, ◌∙◌, ap, arith, inl, inr}
use Rattle.std.specs.Prelude.{not, ◌&&◌}
use Rattle.std.proofs.Math.Nat.{mul-add, mul-le-mul_left}
use Rattle.std.proofs.lemmas.Bool.{cases_lt, false≢true}
use Rattle.std.proofs.lemmas.List.{get_or_past}
use Rattle.dg_io.specs.declared.outside.Rack.{Ghosts}
use Rattle.dg_model.proofs.SumLaws.{squeeze, sum_both, sum_le, sum_more, sum_same}
use Rattle.dg_model.specs.Moves.{count_upto}
use Rattle.dg_stop.specs.Behind.{MostCalls, calls_of_commit, calls_of_try, members_of, one_if}
use Rattle.dg_stop.specs.DoubleCommits.{fell_now}
use Rattle.dg_stop.specs.Phases.{IsFewer, flag_in}

-- ---- turns of a pass

pub prepare_calls : {S : Type 0} (rack : Ghosts S) (first : List Bool) (flag : Bool) (n : ℕ) (old mid new : S) → flag ≡ flag_in first n
    → MostCalls rack (3 * count_upto n (flag_in first)) old mid → MostCalls rack (3 * one_if flag) mid new → MostCalls rack (3 * count_upto (n + 1) (flag_in first)) old new
prepare_calls rack first flag n old mid new same before own =
    let more : count_upto (n + 1) (flag_in first) ≡ count_upto n (flag_in first) + one_if (flag_in first n) = sum_more (λ q. one_if (flag_in first q)) n (n + 1) refl in
    let here : one_if flag ≡ one_if (flag_in first n) = ap one_if same in
    omega (arith, more, here, before, own)

pub finish_calls : {S : Type 0} (rack : Ghosts S) (first : List Bool) (flag : Bool) (n : ℕ) (old mid new : S) → flag ≡ flag_in first n
    → MostCalls rack (count_upto n (flag_in first)) old mid → MostCalls rack (one_if flag) mid new → MostCalls rack (count_upto (n + 1) (flag_in first)) old new
finish_calls rack first flag n old mid new same before own =
    let more : count_upto (n + 1) (flag_in first) ≡ count_upto n (flag_in first) + one_if (flag_in first n) = sum_more (λ q. one_if (flag_in first q)) n (n + 1) refl in
    let here : one_if flag ≡ one_if (flag_in first n) = ap one_if same in
    omega (arith, more, here, before, own)

-- ---- members that serve

one_le : (x y : Bool) → (x ≡ true → y ≡ true) → one_if x ≤ one_if y
one_le true true only = omega arith
one_le true false only = absurd (false≢true (only refl))
one_le false y only = omega arith

pub members_le : (f g : ℕ → Bool) → ((q : ℕ) → f q ≡ true → g q ≡ true) → members_of f ≤ members_of g
members_le f g only = sum_le (λ q. one_if (f q)) (λ q. one_if (g q)) 32 (λ q low. one_le (f q) (g q) (only q))

one_more : (x y : Bool) → x ≡ true → y ≡ false → one_if x ≤ one_if y → ⊥
one_more true false is isnt low = omega (arith, low)
one_more true true is isnt low = false≢true (sym isnt)
one_more false y is isnt low = false≢true is

members_less : (f g : ℕ → Bool) (m : ℕ) → m < 32 → ((q : ℕ) → g q ≡ true → f q ≡ true) → f m ≡ true → g m ≡ false → members_of g < members_of f
members_less f g m low only was isnt = elim (cases_lt (members_of g) (members_of f)) [
  | inl less ↦ less
  | inr more ↦ absurd (one_more (f m) (g m) was isnt
      (squeeze (λ q. one_if (g q)) (λ q. one_if (f q)) 32 (λ q below. one_le (g q) (f q) (only q)) (omega (arith, more)) m low))
]

flag_low : (flags : List Bool) (q : ℕ) → length flags ≡ 32 → flag_in flags q ≡ true → q < 32
flag_low flags q count is = elim (cases_lt q 32) [
  | inl low ↦ low
  | inr high ↦ absurd (false≢true (sym (get_or_past flags q false (omega (arith, count, high))) ∙ is))
]

pub members_fewer : (served serves : List Bool) → length served ≡ 32 → ((q : ℕ) → flag_in serves q ≡ true → flag_in served q ≡ true) → IsFewer served serves
    → members_of (flag_in serves) < members_of (flag_in served)
members_fewer served serves count only fewer =
    members_less (flag_in served) (flag_in serves) fewer.member (flag_low served fewer.member count fewer.was) only fewer.was fewer.isnt

one_split : (x y : Bool) → (y ≡ true → x ≡ true) → one_if (x && not y) + one_if y ≡ one_if x
one_split true true only = refl
one_split true false only = refl
one_split false true only = absurd (false≢true (only refl))
one_split false false only = refl

-- those that fell and those that serve are those that served
pub members_split : (served serves : List Bool) → ((q : ℕ) → flag_in serves q ≡ true → flag_in served q ≡ true)
    → members_of (fell_now served serves) + members_of (flag_in serves) ≡ members_of (flag_in served)
members_split served serves only =
    sym (sum_both (λ q. one_if (fell_now served serves q)) (λ q. one_if (flag_in serves q)) 32)
    ∙ sum_same (λ q. one_if (fell_now served serves q) + one_if (flag_in serves q)) (λ q. one_if (flag_in served q)) 32 (λ q low. one_split (flag_in served q) (flag_in serves q) (only q))

-- ---- tries

-- tries that weren't committed, after which so many of the members serve
abbrev pub TriesCalled : {S : Type 0} → Ghosts S → List Bool → List Bool → S → S → Type 0
TriesCalled rack served flags old mid =
    MostCalls rack (3 * members_of (flag_in served) * (members_of (flag_in served) - members_of (flag_in flags))) old mid

product : (m s n : ℕ) → n < s → s ≤ m → 3 * m * (m - s) + 3 * s ≤ 3 * m * (m - n)
product m s n less most =
    let step : 3 * m * (m - s + 1) ≤ 3 * m * (m - n) = mul-le-mul_left (3 * m) (omega (arith, less, most)) in
    let parts : 3 * m * (m - s + 1) ≡ 3 * m * (m - s) + 3 * m * 1 = mul-add (3 * m) (m - s) 1 in
    omega (arith, step, parts, most)

pub try_again : {S : Type 0} (rack : Ghosts S) (served flags serves : List Bool) (old mid new : S) → length flags ≡ 32
    → ((q : ℕ) → flag_in flags q ≡ true → flag_in served q ≡ true) → ((q : ℕ) → flag_in serves q ≡ true → flag_in flags q ≡ true) → IsFewer flags serves
    → TriesCalled rack served flags old mid → MostCalls rack (calls_of_try false (members_of (flag_in flags))) mid new → TriesCalled rack served serves old new
try_again rack served flags serves old mid new count only less fewer before own =
    omega (
      arith,
      before,
      own,
      product (members_of (flag_in served)) (members_of (flag_in flags)) (members_of (flag_in serves)) (members_fewer flags serves count less fewer)
          (members_le (flag_in flags) (flag_in served) only),
    )

fallen : (m s f : ℕ) → m - s ≤ f → 3 * m * (m - s) ≤ 3 * m * f
fallen m s f low = mul-le-mul_left (3 * m) low

-- a last try, which was committed
pub try_done : {S : Type 0} (rack : Ghosts S) (served flags serves : List Bool) (old mid new : S)
    → ((q : ℕ) → flag_in flags q ≡ true → flag_in served q ≡ true) → ((q : ℕ) → flag_in serves q ≡ true → flag_in flags q ≡ true)
    → TriesCalled rack served flags old mid → MostCalls rack (calls_of_try true (members_of (flag_in flags))) mid new
    → MostCalls rack (calls_of_commit (members_of (flag_in served)) (members_of (fell_now served serves))) old new
try_done rack served flags serves old mid new only less before own =
    let split = members_split served serves (λ q is. only q (less q is)) in
    let left = members_le (flag_in serves) (flag_in flags) less in
    let most = members_le (flag_in flags) (flag_in served) only in
    omega (arith, before, own, most, fallen (members_of (flag_in served)) (members_of (flag_in flags)) (members_of (fell_now served serves)) (omega (arith, split, left)))

-- no try is left
pub tries_end : {S : Type 0} (rack : Ghosts S) (served flags : List Bool) (old mid : S) → ((q : ℕ) → flag_in flags q ≡ true → flag_in served q ≡ true)
    → TriesCalled rack served flags old mid → MostCalls rack (calls_of_commit (members_of (flag_in served)) (members_of (fell_now served flags))) old mid
tries_end rack served flags old mid only before =
    let split = members_split served flags only in
    omega (arith, before, fallen (members_of (flag_in served)) (members_of (flag_in flags)) (members_of (fell_now served flags)) (omega (arith, split)))

-- ---- as marks

-- no more members, and no more that fell
pub commit_less : (m n f g : ℕ) → m ≤ n → f ≤ g → calls_of_commit m f ≤ calls_of_commit n g
commit_less m n f g low less =
    let first : 3 * m * f ≤ 3 * m * g = mul-le-mul_left (3 * m) less in
    let second : g * (3 * m) ≤ g * (3 * n) = mul-le-mul_left g (omega (arith, low)) in
    grind (arith, first, second, low)
