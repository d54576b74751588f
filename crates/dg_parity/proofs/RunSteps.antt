-- Reads of runs of chunks: what the disks of a window have, and how many calls they take.
use Rattle.std.proofs.Common.{◌≡◌, ◌≢◌, ℕ, zero, suc, ◌+◌, ◌-◌, ◌*◌, ◌/◌, ◌%◌, ◌<◌, ◌≤◌, ◌⊎◌, inl, inr, Bool, true, false, List, length, take, refl, sym, ap, subst, ◌∙◌, arith, add-one, bit_xor}
use Rattle.std.specs.Prelude.{slice_index, not, nat_lt, if◌then◌else◌}
use Rattle.std.proofs.Math.Nat.{div-le_self, mul-le-mul_left}
use Rattle.std.proofs.lemmas.List.{length-take}
use Rattle.std.proofs.lemmas.Bool.{cases_eq, cases_Bool, false≢true}
use Rattle.std.proofs.lemmas.Bool.Decides.{nat_tests}
use Rattle.std.specs.Int.Bits.{xor_zero_l, xor_zero_r}
use Rattle.dg_io.specs.declared.outside.Rack.{Ghosts}
use Rattle.dg_parity.specs.Exclusive.{xor_upto, with_at}
use Rattle.dg_parity.specs.Stripes.{spot_of, stripe_of, disk_length, IsEven}
use Rattle.dg_parity.specs.Groups.{is_out, is_lost, in_of, in_upto, length_of, FellOne, IsLater, MostCalls, StaysOrFell}
use Rattle.dg_parity.specs.Runs.{IsWindow, ReadsOn, ReadsUpto, ScattersRow, passes_in, runs_of}
use Rattle.dg_parity.specs.declared.groups.Group.{Group}
use Rattle.dg_parity.specs.declared.windows.Window.{Window}
use Rattle.dg_parity.proofs.CallLemmas.{two-fell}
use Rattle.dg_parity.proofs.CountLemmas.{mul-next}
use Rattle.dg_parity.proofs.ExclusiveLemmas.{with-same, with-other, xor-others}
use Rattle.dg_parity.proofs.PartLemmas.{others-in, two-out, made-up}
use Rattle.dg_parity.proofs.RunLemmas.{stripe-up, window-low, window-high}
use Rattle.dg_parity.proofs.StripeLemmas.{stripe-below}

pub window-same : (n m at a b : ℕ) (window : Window) → n ≡ m → a ≡ b → IsWindow n at a window → IsWindow m at b window
window-same n m at a b window e f h = subst (λ (k : ℕ). IsWindow k at b window) e (subst (λ (k : ℕ). IsWindow n at k window) f h)

-- what stands in a row of a disk was put where it is asked for
pub reads-on : (n j at : ℕ) (window : Window) (row old new : List ℕ) (has : ℕ → ℕ → ℕ) → 3 ≤ n → IsWindow n at (length old) window → length row ≡ 512 * window.count
    → length new ≡ length old → ScattersRow n j window.first at row old new
    → ((k : ℕ) → k < length row → slice_index row k ≡ has j (512 + 512 * window.first + k)) → ReadsOn n j at has new
reads-on n j at window row old new has least h size same s right k lt disk =
    let t = stripe_of n ((at + k) / 512) in
    let low : window.first ≤ t = window-low n at (length old) k window least h in
    let high : t < window.first + window.count = window-high n at (length old) k window least h (omega arith) in
    s.own k (omega arith) disk low (omega arith)
    ∙ right (512 * (t - window.first) + (at + k) % 512) (omega arith)
    ∙ ap (has j) (omega arith)

pub reads-later : (n m at : ℕ) (has : ℕ → ℕ → ℕ) (buf : List ℕ) → m ≡ n → ReadsUpto m m at has buf → ReadsUpto n n at has buf
reads-later n m at has buf e h = subst (λ (k : ℕ). ReadsUpto k k at has buf) e h

-- the stripes of a window are stripes of the group
pub window-below : (n at size all : ℕ) (window : Window) → 3 ≤ n → 0 < size → at + size ≤ all → IsWindow n at size window
    → 512 + 512 * window.first + 512 * window.count ≤ disk_length n all
window-below n at size all window least some range h = omega (arith, h.last, stripe-below n (at + (size - 1)) all least (omega arith))

pub window-small : (n at size : ℕ) (window : Window) → IsWindow n at size window → at + size < 18446744073709551616 → window.first + window.count < 72057594037927936
window-small n at size window h fits = omega (arith, h.first, h.most, div-le_self (at / 512) (n - 1))

-- ---- disks that are out

pub fell-some : (old new : Group) → FellOne old new → ((j : ℕ) → j < new.disks → is_out new j ≡ false) → ⊥
fell-some old new fell none = elim (cases_Bool (nat_lt fell.disk new.disks)) [
  | inl lt ↦ false≢true (sym (none fell.disk (grind (arith, nat_tests))) ∙ fell.now)
  | inr ge ↦ false≢true (sym (new.beyond fell.disk (grind (arith, nat_tests))) ∙ fell.now)
]

pub lost-fell : (old new : Group) (o : ℕ) → IsLater old new → is_out old o ≡ true → FellOne old new → is_lost new ≡ true
lost-fell old new o later out fell =
    two-out new fell.disk o (λ e. false≢true (sym fell.before ∙ ap (is_out old) e ∙ out)) fell.now (later.grows o out)

pub fell-later : (a b c : Group) → IsLater b c → FellOne a b → FellOne a c
fell-later a b c later fell = record { disk = fell.disk; before = fell.before; now = later.grows fell.disk fell.now }

-- calls one after the other
pub stays-then : (a b c : Group) → IsLater b c → StaysOrFell a b → StaysOrFell b c → StaysOrFell a c
stays-then a b c later (inl e) (inl f) = inl (f ∙ e)
stays-then a b c later (inl e) (inr fell) = inr (subst (λ (k : Group). FellOne k c) e fell)
stays-then a b c later (inr fell) step = inr (fell-later a b c later fell)

-- no disk went out, and none later
pub still-of : (a b c : Group) → IsLater b c → ((j : ℕ) → is_out a j ≡ false → is_out c j ≡ false) → StaysOrFell a b → b ≡ a
still-of a b c later none (inl e) = e
still-of a b c later none (inr fell) = absurd (false≢true (sym (none fell.disk fell.before) ∙ later.grows fell.disk fell.now))

pub fell-from : (a b c : Group) → b ≡ a → FellOne b c → FellOne a c
fell-from a b c e fell = subst (λ (k : Group). FellOne k c) e fell

pub out-is : (group : Group) (o j : ℕ) → is_lost group ≡ false → is_out group o ≡ true → is_out group j ≡ true → j ≡ o
out-is group o j alive out own = elim (cases_eq j o) [ inl e ↦ e | inr ne ↦ absurd (false≢true (sym (others-in group o j alive out ne) ∙ own)) ]

-- ---- the exclusive or of the others

pub added-none : (f : ℕ → ℕ) (o j x : ℕ) → j ≡ o → x ≡ bit_xor x (with_at f o 0 j)
added-none f o j x e = sym (ap (bit_xor x) (ap (with_at f o 0) e ∙ with-same f o 0) ∙ xor_zero_r x)

pub added-own : (f : ℕ → ℕ) (o j x y v : ℕ) → j ≢ o → y ≡ bit_xor x v → v ≡ f j → y ≡ bit_xor x (with_at f o 0 j)
added-own f o j x y v ne first own = first ∙ ap (bit_xor x) (own ∙ sym (with-other f o 0 j ne))

pub made-of : (f : ℕ → ℕ) (o n x y : ℕ) → o < n → xor_upto f n ≡ 0 → x ≡ 0 → y ≡ bit_xor x (xor_upto (with_at f o 0) n) → y ≡ f o
made-of f o n x y lt even zero0 made =
    made ∙ ap (λ (k : ℕ). bit_xor k (xor_upto (with_at f o 0) n)) zero0 ∙ xor_zero_l (xor_upto (with_at f o 0) n) ∙ xor-others f o n lt even

-- ---- calls on the disks that aren't out

in-step : (group : Group) (j : ℕ) (b : Bool) → is_out group j ≡ b → in_upto group (suc j) ≡ in_upto group j + (if not b then 1 else 0)
in-step group j b e = ap (λ (k : Bool). in_upto group j + (if not k then 1 else 0)) e

pub calls-in : (group : Group) (j x y z : ℕ) → (is_out group j ≡ true → z ≡ y) → z ≤ y + 1 → y ≤ x + in_upto group j → z ≤ x + in_upto group (j + 1)
calls-in group j x y z idle call h = subst (λ (k : ℕ). z ≤ x + in_upto group k) (sym (add-one j)) (elim (cases_Bool (is_out group j)) [
  | inl out ↦ omega (arith, idle out, h, in-step group j true out)
  | inr in0 ↦ omega (arith, call, h, in-step group j false in0)
])

pub in-most : (group : Group) (m : ℕ) → in_upto group m ≤ m
in-most group zero = omega arith
in-most group (suc m) = elim (cases_Bool (is_out group m)) [
  | inl out ↦ omega (arith, in-step group m true out, in-most group m)
  | inr in0 ↦ omega (arith, in-step group m false in0, in-most group m)
]

pub idle-calls : {S : Type 0} (rack : Ghosts S) (a b : S) → b ≡ a → (rack.counts b).calls ≡ (rack.counts a).calls
idle-calls rack a b e = ap (λ (s : _). (rack.counts s).calls) e

pub in-up : (group : Group) (a b : ℕ) → a ≤ b → in_upto group a ≤ in_upto group b
in-up group a zero le = subst (λ (k : ℕ). in_upto group k ≤ in_upto group 0) (zero-of a le) (omega arith) where
  zero-of : (x : ℕ) → x ≤ 0 → 0 ≡ x
  zero-of x h = omega arith
in-up group a (suc b) le = elim (cases_eq a (suc b)) [
  | inl e ↦ omega (arith, ap (in_upto group) e)
  | inr ne ↦ elim (cases_Bool (is_out group b)) [
    | inl out ↦ omega (arith, in-step group b true out, in-up group a b (omega (arith, le, ne)))
    | inr in0 ↦ omega (arith, in-step group b false in0, in-up group a b (omega (arith, le, ne)))
  ]
]

pub below-take : (base n total : ℕ) (xs : List ℕ) → base + n ≤ total → base + length (take n xs) ≤ total
below-take base n total xs le = omega (arith, length-take n xs)

-- ---- passes

one-more : (n at k part rest : ℕ) → 3 ≤ n → suc k - part ≡ rest → 0 < part → part ≤ suc k → (part ≡ suc k) ⊎ (stripe_of n ((at + part) / 512) ≡ stripe_of n (at / 512) + 16)
    → passes_in n (at + part) rest + 1 ≤ passes_in n at (suc k)
one-more n at k part zero least is some most end = omega arith
one-more n at k part (suc r) least is some most (inl all) = absurd (omega (arith, is, all))
one-more n at k part (suc r) least is some most (inr whole) =
    let same : stripe_of n ((at + part + r) / 512) ≡ stripe_of n ((at + k) / 512) = ap (λ (x : ℕ). stripe_of n (x / 512)) (omega (arith, is, most)) in
    let up : stripe_of n ((at + part) / 512) ≤ stripe_of n ((at + k) / 512) = stripe-up n (at + part) (at + k) least (omega (arith, is, most)) in
    omega (arith, whole, same, up)

-- the bytes of one pass, and the rest behind it
pass-more : (n at left part : ℕ) → 3 ≤ n → 0 < part → part ≤ left → (part ≡ left) ⊎ (stripe_of n ((at + part) / 512) ≡ stripe_of n (at / 512) + 16)
    → passes_in n (at + part) (left - part) + 1 ≤ passes_in n at left
pass-more n at zero part least some most end = absurd (omega arith)
pass-more n at (suc k) part least some most end = one-more n at k part (suc k - part) least refl some most end

pub pass-next : (n place done total all part : ℕ) → all ≡ total → 3 ≤ n → 0 < part → part ≤ all - done
    → (part ≡ all - done) ⊎ (stripe_of n ((place + done + part) / 512) ≡ stripe_of n ((place + done) / 512) + 16)
    → passes_in n (place + (done + part)) (total - (done + part)) + 1 ≤ passes_in n (place + done) (total - done)
pass-next n place done total all part is least some most end =
    subst (λ (a : ℕ). passes_in n a (total - (done + part)) + 1 ≤ passes_in n (place + done) (total - done)) (omega arith)
    (subst (λ (l : ℕ). passes_in n (place + done + part) l + 1 ≤ passes_in n (place + done) (total - done)) (omega arith)
    (pass-more n (place + done) (total - done) part least some (omega (arith, is, most))
    (subst (λ (k : ℕ). (part ≡ k - done) ⊎ (stripe_of n ((place + done + part) / 512) ≡ stripe_of n ((place + done) / 512) + 16)) is end)))

-- one pass more was called
pub pass-calls : (m p r x y t : ℕ) → r + 1 ≤ p → y ≤ x + m → x + m * p ≤ t → y + m * r ≤ t
pass-calls m p r x y t more call h = omega (arith, mul-le-mul_left {m = r + 1} {n = p} m more, mul-next m r)

pub pass-fell : (m p r x y t : ℕ) → r + 1 ≤ p → y ≤ x + 2 * m → x + m * p ≤ t → y + m * r ≤ t + m
pass-fell m p r x y t more call h = omega (arith, mul-le-mul_left {m = r + 1} {n = p} m more, mul-next m r)

-- the others' bytes were read, and what the disk that is out has was made from them
pub made-got : (group : Group) (o at : ℕ) (window : Window) (zeros sum old mid new : List ℕ) (has : ℕ → ℕ → ℕ) → o < group.disks → IsWindow group.disks at (length old) window
    → 512 + 512 * window.first + 512 * window.count ≤ length_of group → IsEven group.disks group.length has
    → length sum ≡ length zeros → length sum ≡ 512 * window.count → length mid ≡ length old → length new ≡ length mid
    → ((k : ℕ) → k < length zeros → slice_index zeros k ≡ 0)
    → ((k : ℕ) → k < length sum → slice_index sum k ≡ bit_xor (slice_index zeros k) (xor_upto (with_at (λ i. has i (512 + 512 * window.first + k)) o 0) group.disks))
    → ((k : ℕ) → k < length mid → (spot_of group.disks (at + k)).disk ≢ o
    → slice_index mid k ≡ has (spot_of group.disks (at + k)).disk (spot_of group.disks (at + k)).place)
    → ScattersRow group.disks o window.first at sum mid new
    → ReadsUpto group.disks group.disks at has new
made-got group o at window zeros sum old mid new has lt h below even clear size mids news zero0 added got s k in0 disk = elim (cases_eq (spot_of group.disks (at + k)).disk o) [
  | inl e ↦
      subst (λ (d : ℕ). slice_index new k ≡ has d (spot_of group.disks (at + k)).place) (sym e)
      (reads-on group.disks o at window sum mid new has group.least (window-same _ _ at _ _ window refl (sym mids) h) size news s
      (λ i low. made-of (λ (d : ℕ). has d (512 + 512 * window.first + i)) o group.disks _ _ lt
      (even (512 + 512 * window.first + i) (record { behind = omega arith; below = omega arith })) (zero0 i (omega arith)) (added i low))
      k in0 e)
  | inr ne ↦ s.disks k (omega arith) ne ∙ got k (omega arith) ne
]

-- ---- several passes

-- Of all passes these are left: what the calls so far leave of how many there may be.
pub record IsPassed {S : Type 0} (rack : Ghosts S) (old new : Group) (before now : S) (all rest : ℕ) : Type 0 where
  -- no disk went out, and each pass called the disks that are in
  pub steady : ((new ≡ old) × ((rack.counts now).calls + in_of old * rest ≤ (rack.counts before).calls + in_of old * all)) ⊎ FellOne old new
  -- a disk that went out cost one pass more
  pub most : ((rack.counts now).calls + old.disks * rest ≤ (rack.counts before).calls + old.disks * all)
      ⊎ (FellOne old new × ((rack.counts now).calls + old.disks * rest ≤ (rack.counts before).calls + old.disks * all + old.disks))

pub passed-none : {S : Type 0} (rack : Ghosts S) (group : Group) (now : S) (all : ℕ) → IsPassed rack group group now now all all
passed-none rack group now all = record { steady = inl (refl, omega arith); most = inl (omega arith) }

module _ {S : Type 0} (rack : Ghosts S) (a b c : Group) (s t u : S) (all rest next : ℕ) (more : next + 1 ≤ rest) (h : IsPassed rack a b s t all rest) (first : IsLater a b) (second : IsLater b c)
    (step : ((c ≡ b) × MostCalls rack (in_of b) t u) ⊎ FellOne b c) (call : MostCalls rack (2 * b.disks) t u) where
  steady-next : ((c ≡ a) × ((rack.counts u).calls + in_of a * next ≤ (rack.counts s).calls + in_of a * all)) ⊎ FellOne a c
  steady-next = elim h.steady [
    | inr fell ↦ inr (fell-later a b c second fell)
    | inl same ↦ elim step [
      | inr fell ↦ inr (fell-from a b c same.0 fell)
      | inl still ↦ inl (still.0 ∙ same.0, pass-calls (in_of a) rest next _ _ _ more (subst (λ (k : Group). MostCalls rack (in_of k) t u) same.0 still.1) same.1)
    ]
  ]

  few : MostCalls rack (in_of b) t u → (rack.counts u).calls ≤ (rack.counts t).calls + a.disks
  few calls = omega (arith, calls, in-most b b.disks, first.disks)

  twice : (rack.counts u).calls ≤ (rack.counts t).calls + 2 * a.disks
  twice = omega (arith, call, first.disks)

  pub passed-next : is_lost c ≡ false → IsPassed rack a c s u all next
  passed-next alive = record {
    steady = steady-next;
    most = elim h.most [
      | inl before ↦ elim step [
        | inl still ↦ inl (pass-calls a.disks rest next _ _ _ more (few still.1) before)
        | inr fell ↦ elim (h.steady) [
          | inl same ↦ inr (fell-from a b c same.0 fell, pass-fell a.disks rest next _ _ _ more twice before)
          | inr was ↦ absurd (false≢true (sym alive ∙ two-fell a b c second was fell))
        ]
      ]
      | inr before ↦ elim step [
        | inl still ↦ inr (fell-later a b c second before.0, pass-calls a.disks rest next _ _ _ more (few still.1) before.1)
        | inr fell ↦ absurd (false≢true (sym alive ∙ two-fell a b c second before.0 fell))
      ]
    ];
  }

pub passed-last : {S : Type 0} (rack : Ghosts S) (a b : Group) (s t u : S) (all rest next : ℕ) → next + 1 ≤ rest → IsPassed rack a b s t all rest → IsLater a b → MostCalls rack (2 * b.disks) t u
    → MostCalls rack (a.disks * all + 2 * a.disks) s u
passed-last rack a b s t u all rest next more h first call = elim h.most [
  | inl before ↦ omega (arith, pass-fell a.disks rest next (rack.counts t).calls (rack.counts u).calls _ more (omega (arith, call, first.disks)) before)
  | inr before ↦ omega (arith, pass-fell a.disks rest next (rack.counts t).calls (rack.counts u).calls _ more (omega (arith, call, first.disks)) before.1)
]

-- how many runs are left
pub runs-next : (count t part : ℕ) → t < count → (runs_of (count - t - part) + 1 ≤ runs_of (count - t)) ⊎ (count - t ≡ 0) → runs_of (count - (t + part)) + 1 ≤ runs_of (count - t)
runs-next count t part lt (inl more) = subst (λ (k : ℕ). runs_of k + 1 ≤ runs_of (count - t)) (omega arith) more
runs-next count t part lt (inr none) = absurd (omega (arith, none, lt))

pub passed-most : {S : Type 0} (rack : Ghosts S) (a b : Group) (s t : S) (all rest : ℕ) → IsPassed rack a b s t all rest → MostCalls rack (a.disks * all + 2 * a.disks) s t
passed-most rack a b s t all rest h = elim h.most [ inl before ↦ omega (arith, before) | inr before ↦ omega (arith, before.1) ]

pub passed-steady : {S : Type 0} (rack : Ghosts S) (a b : Group) (s t : S) (all rest : ℕ) → IsPassed rack a b s t all rest
    → ((b ≡ a) × MostCalls rack (in_of a * all) s t) ⊎ FellOne a b
passed-steady rack a b s t all rest h = elim h.steady [ inl same ↦ inl (same.0, omega (arith, same.1)) | inr fell ↦ inr fell ]

-- a part of a chunk whose disk is out, from the others
pub right-made : (group : Group) (has : ℕ → ℕ → ℕ) (j place : ℕ) (row0 row1 : List ℕ) (k n : ℕ) → j < group.disks → 512 ≤ place → IsEven group.disks group.length has
    → place + n ≤ length_of group → k < n → slice_index row0 k ≡ 0
    → slice_index row1 k ≡ bit_xor (slice_index row0 k) (xor_upto (with_at (with_at (λ i. has i (place + k)) j 0) j 0) group.disks)
    → slice_index row1 k ≡ has j (place + k)
right-made group has j place row0 row1 k n low behind even fits lt cleared made =
    made ∙ ap (λ (v : ℕ). bit_xor v (xor_upto (with_at (with_at (λ i. has i (place + k)) j 0) j 0) group.disks)) cleared
    ∙ made-up (λ i. has i (place + k)) j group.disks low (even (place + k) (record { behind = omega arith; below = omega arith }))

-- one disk at least is out
pub in-few : (group : Group) (o : ℕ) → o < group.disks → is_out group o ≡ true → in_of group + 1 ≤ group.disks
in-few group o lt out =
    let past : in_of group ≤ in_upto group (suc o) + (group.disks - suc o) = in-far group (suc o) (group.disks - suc o) group.disks (omega arith) in
    omega (arith, past, in-step group o true out, in-most group o)
  where
    in-far : (group : Group) (a d b : ℕ) → b ≡ a + d → in_upto group b ≤ in_upto group a + d
    in-far group a zero b e = omega (arith, ap (in_upto group) (let z : b ≡ a = omega arith in z))
    in-far group a (suc d) zero e = absurd (omega (arith, e))
    in-far group a (suc d) (suc b) e = elim (cases_Bool (is_out group b)) [
      | inl gone ↦ omega (arith, in-step group b true gone, in-far group a d b (omega (arith, e)))
      | inr in0 ↦ omega (arith, in-step group b false in0, in-far group a d b (omega (arith, e)))
    ]
