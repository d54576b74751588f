-- Files whose blocks take fewer halves than there are in the volume's whole file blocks are all placed: no file block but one is half full.
use Rattle.std.proofs.Common.{◌≡◌, ◌≢◌, ◌∙◌, ℕ, zero, suc, ◌+◌, ◌-◌, ◌*◌, ◌/◌, ◌%◌, ◌<◌, ◌≤◌, ◌==◌, Bool, true, false, not, List, [], ◌∷◌, ◌++◌, length, get_or, refl, sym, ap, subst, arith, inl, inr, Some}
use Rattle.std.specs.Prelude.{All, Option, ◌||◌, find, if◌then◌else◌, nat_le, nat_lt, replicate}
use Rattle.std.specs.Int.{div_ceil}
use Rattle.std.specs.List.{range_with_len}
use Rattle.std.proofs.lemmas.Bool.{cases_eq, cases_lt, false≢true}
use Rattle.std.proofs.lemmas.Bool.Decides.{nat_tests}
use Rattle.std.proofs.lemmas.Option.{same_Some}
use Rattle.std.proofs.lemmas.Grind.{div_ceil_times}
use Rattle.std.proofs.Math.Nat.{add-mul, mul-le-mul_right}
use Rattle.ufs_model.specs.Numbers.{all_below}
use Rattle.ufs_model.specs.Pointers.{is_data_run}
use Rattle.ufs_model.specs.Roles.{has_super, is_data_of, is_within, role, role_in}
use Rattle.ufs_model.specs.Geometries.{cgstart}
use Rattle.ufs_model.specs.declared.geometries.Geometry.{Geometry}
use Rattle.ufs_model.specs.declared.roles.Role.{Role}
use Rattle.ufs_model.specs.declared.roles.Role.TheVariants.{Data, Outside, System}
use Rattle.ufs_model.specs.declared.roles.SystemKind.TheVariants.{Boot, Super, Copy, Group, Inodes, Summary}
use Rattle.ufs_build.specs.Nodes.{Node}
use Rattle.ufs_build.specs.Placements.{AllPlaced, Placed, address_at, and_then, blocks_of, first_through, fits, fragments_of, is_hole, is_used, lowest, marked, no_addresses, placed_at, placed_file, placed_files, with_address, with_block, with_block_above, with_block_or_hole, with_blocks_below, with_file, with_file_block, with_files}
use Rattle.ufs_image_laws.proofs.PlacingLaws.{IsPlace, data_in_run, lowest_place, marked_only}
use Rattle.ufs_image_laws.specs.Rooms.{HasEight, all_halves, block_halves, count_to, first_halves, halves, is_whole, whole_below}

both_ways : (b : Bool) → b ≡ true → b ≡ false → ⊥
both_ways true e f = false≢true (sym f)
both_ways false e f = false≢true e

refute : (b : Bool) → (b ≡ true → ⊥) → b ≡ false
refute true never = absurd (never refl)
refute false never = refl

-- ---- counts

le_more : (a b c : ℕ) → a ≤ b → a ≤ b + c
le_more a b c h = omega (arith, h)

count_mono : (test : ℕ → Bool) (p q : ℕ) → p ≤ q → count_to test p ≤ count_to test q
count_mono test p zero low = let e : 0 ≡ p = omega (arith, low) in subst (λ (n : ℕ). count_to test n ≤ 0) e (omega arith)
count_mono test p (suc q) low = elim (cases_eq p (suc q)) as (λ _. count_to test p ≤ count_to test (suc q)) [
  | inl same ↦ subst (λ (n : ℕ). count_to test p ≤ count_to test n) same (omega arith)
  | inr differ ↦ le_more (count_to test p) (count_to test q) (if test q then 1 else 0) (count_mono test p q (omega arith))
]

-- the next number that passes
record NextOne (test : ℕ → Bool) (p end : ℕ) : Type 0 where
  pub q : ℕ
  pub low : p ≤ q
  pub high : q < end
  pub yes : test q ≡ true
  pub same : count_to test q ≡ count_to test p

count_yes : (test : ℕ → Bool) (q : ℕ) → test q ≡ true → count_to test (suc q) ≡ count_to test q + 1
count_yes test q hit = ap (λ (b : Bool). count_to test q + (if b then 1 else 0)) hit

count_not : (test : ℕ → Bool) (q : ℕ) → test q ≡ false → count_to test (suc q) ≡ count_to test q
count_not test q none = ap (λ (b : Bool). count_to test q + (if b then 1 else 0)) none ∙ (let e : count_to test q + 0 ≡ count_to test q = omega arith in e)

later_one : (test : ℕ → Bool) (p end : ℕ) → NextOne test p end → NextOne test p (suc end)
later_one test p end next = record { q = next.q; low = next.low; high = (let h = next.high in omega arith); yes = next.yes; same = next.same }

next_by : (test : ℕ → Bool) (p end : ℕ) (here : Bool) → test end ≡ here → (count_to test p < count_to test end → NextOne test p end)
    → count_to test p < count_to test (suc end) → NextOne test p (suc end)
next_by test p end false is before more =
    let same = count_not test end is in
    later_one test p end (before (subst (λ (n : ℕ). count_to test p < n) same more))
next_by test p end true is before more = elim (cases_lt (count_to test p) (count_to test end)) as (λ _. NextOne test p (suc end)) [
  | inl less ↦ later_one test p end (before less)
  | inr past ↦
      let one = count_yes test end is in
      let most : count_to test p < count_to test end + 1 = subst (λ (n : ℕ). count_to test p < n) one more in
      let low : p ≤ end = elim (cases_lt end p) as (λ _. p ≤ end) [
        | inl high ↦
            let least : count_to test end + 1 ≤ count_to test p = subst (λ (n : ℕ). n ≤ count_to test p) one (count_mono test (suc end) p (omega arith)) in
            absurd (omega (arith, least, most))
        | inr fine ↦ fine
      ] in
      record { q = end; low = low; high = omega arith; yes = is; same = omega (arith, past, most) }
]

next_one : (test : ℕ → Bool) (p end : ℕ) → count_to test p < count_to test end → NextOne test p end
next_one test p zero more = absurd (omega (arith, more))
next_one test p (suc end) more = next_by test p end (test end) refl (next_one test p end) more

-- ---- the lowest place

-- what is found stands no higher than this
record FindsBelow (test : ℕ → Bool) (from n high : ℕ) : Type 0 where
  pub a : ℕ
  pub is : find test (range_with_len from n) ≡ Some a
  pub most : a ≤ high

found_by : (test : ℕ → Bool) (from n high : ℕ) (here : Bool) → test from ≡ here → from ≤ high → (here ≡ false → FindsBelow test (from + 1) n high)
    → FindsBelow test from (suc n) high
found_by test from n high true e low more = record { a = from; is = rw e refl; most = low }
found_by test from n high false e low more = let f = more refl in record { a = f.a; is = rw e f.is; most = f.most }

found_below : (test : ℕ → Bool) (from n high : ℕ) → from ≤ high → high < from + n → test high ≡ true → FindsBelow test from n high
found_below test from zero high low past here = absurd (omega arith)
found_below test from (suc n) high low past here =
    found_by test from n high (test from) refl low (λ none. found_below test (from + 1) n high (elim (cases_eq from high) as (λ _. from + 1 ≤ high) [
      | inl same ↦ absurd (both_ways (test high) here (ap test (sym same) ∙ none))
      | inr differ ↦ omega arith
    ]) (omega arith) here)

-- ---- runs of data

all_at : (test : ℕ → Bool) (k : ℕ) → ((i : ℕ) → i < k → test i ≡ true) → all_below test k ≡ true
all_at test zero each = refl
all_at test (suc k) each = rw (all_at test k (λ i low. each i (omega arith)), each k (omega arith)) refl

of_group : (copy group inodes summary : Bool) (c d : ℕ)
    → is_data_of c (if copy then System Copy else if group then System Group else if inodes then System Inodes else if summary then System Summary else Data d) ≡ true → c ≡ d
of_group true group inodes summary c d h = absurd (false≢true h)
of_group false true inodes summary c d h = absurd (false≢true h)
of_group false false true summary c d h = absurd (false≢true h)
of_group false false false true c d h = absurd (false≢true h)
of_group false false false false c d h = grind (arith, nat_tests)

of_rest : (past super boot : Bool) (c : ℕ) (rest : Role) → is_data_of c (if past then Outside else if super then System Super else if boot then System Boot else rest) ≡ true
    → is_data_of c rest ≡ true
of_rest true super boot c rest h = absurd (false≢true h)
of_rest false true boot c rest h = absurd (false≢true h)
of_rest false false true c rest h = absurd (false≢true h)
of_rest false false false c rest h = h

in_group : (g : Geometry) (c start f d : ℕ) → is_data_of c (role_in g d start f) ≡ true → c ≡ d
unfolding role_in
in_group g c start f d h = of_group (is_within (start + g.sblkno) (start + g.cblkno) f) (is_within (start + g.cblkno) (start + g.iblkno) f) (is_within (start + g.iblkno) (start + g.dblkno) f)
    (is_within g.csaddr (g.csaddr + div_ceil g.cssize g.fsize) f) c d h

data_of : (g : Geometry) (c f : ℕ) → is_data_of c (role g f) ≡ true → c ≡ f / g.fpg
unfolding role
data_of g c f is = in_group g c (cgstart g (f / g.fpg)) f (f / g.fpg)
    (of_rest (nat_le g.size f) (has_super g.fsize f) (nat_lt f (cgstart g 0 + g.sblkno)) c (role_in g (f / g.fpg) (cgstart g (f / g.fpg)) f) is)

-- a part of a run is one
run_within : (g : Geometry) (a k b m : ℕ) → is_data_run g a k ≡ true → a ≤ b → b + m ≤ a + k → is_data_run g b m ≡ true
unfolding is_data_run
run_within g a k b m run low high = all_at (λ i. is_data_of (b / g.fpg) (role g (b + i))) m (λ i inside.
    let here = data_in_run g a k (b + i) run (omega arith) (omega arith) in
    let same = data_of g (a / g.fpg) b (data_in_run g a k b run low (omega arith)) in
    subst (λ (c : ℕ). is_data_of c (role g (b + i)) ≡ true) same here)

fits_at : (g : Geometry) (used : List Bool) (k a : ℕ) → g.frag ≡ 8 → a % 8 + k ≤ 8 → is_data_run g a k ≡ true → ((i : ℕ) → i < k → is_used used (a + i) ≡ false)
    → fits g used k a ≡ true
unfolding fits
fits_at g used k a eight aligned run free =
    let inside : nat_le (a % 8 + k) 8 ≡ true = grind (arith, nat_tests) in
    let first : nat_le (a % g.frag + k) g.frag ≡ true = subst (λ (f : ℕ). nat_le (a % f + k) f ≡ true) (sym eight) inside in
    let all = all_at (λ i. not (is_used used (a + i))) k (λ i low. ap not (free i low)) in
    rw (first, run, all) refl

-- ---- room

not_marked : (used : List Bool) (a k f : ℕ) → is_used used f ≡ false → (a ≤ f → f < a + k → ⊥) → is_used (marked used a k) f ≡ false
not_marked used a k f free out = refute (is_used (marked used a k) f) (λ is. elim (marked_only used a k f is) as (λ _. ⊥) [
  | inl was ↦ both_ways (is_used used f) was free
  | inr within ↦ out within.0 within.1
])

-- So many halves were given away in the volume's first p file blocks: no more of them are in use than are full, but for one whose upper half is free.
pub data Spent (g : Geometry) (used : List Bool) (w p : ℕ) : Type 0 where
  full : 2 * whole_below g p ≤ w → Spent g used w p
  half : (q : ℕ) → q < p → 2 * whole_below g p ≤ w + 1 → is_whole g q ≡ true → ((f : ℕ) → 8 * q + 4 ≤ f → f < 8 * q + 8 → is_used used f ≡ false) → Spent g used w p

-- from file block p on nothing is in use
pub record HasRoom (g : Geometry) (used : List Bool) (w : ℕ) : Type 0 where
  pub p : ℕ
  pub free : (f : ℕ) → 8 * p ≤ f → is_used used f ≡ false
  pub spent : Spent g used w p

spent_more : (g : Geometry) (used : List Bool) (w w' p : ℕ) → w ≤ w' → Spent g used w p → Spent g used w' p
spent_more g used w w' p more (full most) = full (omega (arith, more, most))
spent_more g used w w' p more (half q low most whole free) = half q low (omega (arith, more, most)) whole free

room_more : (g : Geometry) (used : List Bool) (w w' : ℕ) → w ≤ w' → HasRoom g used w → HasRoom g used w'
room_more g used w w' more room = record { p = room.p; free = room.free; spent = spent_more g used w w' room.p more room.spent }

most_of : (g : Geometry) (used : List Bool) (w p : ℕ) → Spent g used w p → 2 * whole_below g p ≤ w + 1
most_of g used w p (full most) = omega (arith, most)
most_of g used w p (half q low most whole free) = most

-- a place was found, and there is room behind it
pub record Finds (g : Geometry) (used : List Bool) (k w : ℕ) : Type 0 where
  pub a : ℕ
  pub is : lowest g used k ≡ Some a
  pub room : HasRoom g (marked used a k) w

-- the lowest place is no higher than one that fits
lowest_below : (g : Geometry) (used : List Bool) (k high : ℕ) → high < g.size → fits g used k high ≡ true → FindsBelow (fits g used k) 0 g.size high
lowest_below g used k high inside fit = found_below (fits g used k) 0 g.size high (omega arith) (omega (arith, inside)) fit

lowest_is : (g : Geometry) (used : List Bool) (k a : ℕ) → find (fits g used k) (range_with_len 0 g.size) ≡ Some a → lowest g used k ≡ Some a
unfolding lowest
lowest_is g used k a e = e

found_is : (g : Geometry) (used : List Bool) (k a : ℕ) → lowest g used k ≡ Some a → find (fits g used k) (range_with_len 0 g.size) ≡ Some a
unfolding lowest
found_is g used k a e = e

-- the place found is no higher than any that fits
least : (g : Geometry) (used : List Bool) (k a high : ℕ) → lowest g used k ≡ Some a → high < g.size → fits g used k high ≡ true → a ≤ high
least g used k a high is inside fit =
    let f = lowest_below g used k high inside fit in
    let same : f.a ≡ a = same_Some f.a a (sym f.is ∙ found_is g used k a is) in
    subst (λ (b : ℕ). b ≤ high) same f.most

-- whether file block b is whole
data Whole (g : Geometry) (b : ℕ) : Type 0 where
  is_so : is_whole g b ≡ true → Whole g b
  is_not : is_whole g b ≡ false → Whole g b

whole_by : (g : Geometry) (b : ℕ) (t : Bool) → is_whole g b ≡ t → Whole g b
whole_by g b true is = is_so is
whole_by g b false is = is_not is

module _ (g : Geometry) (used : List Bool) (k w end : ℕ) (eight : g.frag ≡ 8) (few : k ≤ 8) (inside : 8 * end ≤ g.size) (room : HasRoom g used w) (left : w + 1 < 2 * whole_below g end) where
  abbrev p : ℕ
  p = room.p

  next : NextOne (is_whole g) p end
  next = next_one (is_whole g) p end (let most = most_of g used w p room.spent in omega (arith, most, left))

  fits_next : fits g used k (8 * next.q) ≡ true
  fits_next =
      let low = next.low in
      fits_at g used k (8 * next.q) eight (omega arith) (run_within g (8 * next.q) 8 (8 * next.q) k next.yes (omega arith) (omega arith))
      (λ i inner. room.free (8 * next.q + i) (omega (arith, low)))

  next_inside : 8 * next.q < g.size
  next_inside = let high = next.high in omega (arith, high, inside)

  found : FindsBelow (fits g used k) 0 g.size (8 * next.q)
  found = lowest_below g used k (8 * next.q) next_inside fits_next

  abbrev a : ℕ
  a = found.a

  is : lowest g used k ≡ Some a
  is = lowest_is g used k found.a found.is

  place : IsPlace g used k a
  place = lowest_place g used k a is

  aligned : a % 8 + k ≤ 8
  aligned = subst (λ (f : ℕ). a % f + k ≤ f) eight place.aligned

  -- the place is in a file block that is in use already
  before : a < 8 * p → 2 * whole_below g p ≤ w + halves k → HasRoom g (marked used a k) (w + halves k)
  before low most = record {
    p = p;
    free = λ f past. not_marked used a k f (room.free f past) (λ from to. omega (arith, aligned, low, past, from, to));
    spent = full most;
  }

  -- the place is in a new file block
  abbrev b : ℕ
  b = a / 8

  free_behind : 8 * p ≤ a → (f : ℕ) → 8 * suc b ≤ f → is_used (marked used a k) f ≡ false
  free_behind high f past = not_marked used a k f (room.free f (omega (arith, high, past))) (λ from to. omega (arith, aligned, past, from, to))

  most_new : 2 * whole_below g (suc b) ≤ 2 * whole_below g p + 2
  most_new =
      let most = found.most in
      let up = count_mono (is_whole g) (suc b) (suc next.q) (omega (arith, most)) in
      let one = count_yes (is_whole g) next.q next.yes in
      let same = next.same in
      omega (arith, up, one, same)

  large_behind : 8 * p ≤ a → (q : ℕ) → q < p → 2 * whole_below g p ≤ w + 1 → is_whole g q ≡ true
      → ((f : ℕ) → 8 * q + 4 ≤ f → f < 8 * q + 8 → is_used used f ≡ false) → HasRoom g (marked used a k) (w + 2)
  large_behind high q low most whole free = record {
    p = suc b;
    free = free_behind high;
    spent = half q (omega (arith, low, high)) (let new = most_new in omega (arith, most, new)) whole
        (λ f from to. not_marked used a k f (free f from to) (λ begin end. omega (arith, low, high, from, to, begin)));
  }

  large_new : 8 * p ≤ a → 2 * whole_below g p ≤ w → HasRoom g (marked used a k) (w + 2)
  large_new high most = record { p = suc b; free = free_behind high; spent = full (let new = most_new in omega (arith, most, new)) }

  -- a small block that begins a whole file block leaves its upper half free
  small_whole : 8 * p ≤ a → k ≤ 4 → 2 * whole_below g p ≤ w → is_whole g b ≡ true → HasRoom g (marked used a k) (w + 1)
  small_whole high small most whole =
      let fit = fits_at g used k (8 * b) eight (omega (arith, few)) (run_within g (8 * b) 8 (8 * b) k whole (omega arith) (omega (arith, few)))
      (λ i inner. room.free (8 * b + i) (omega (arith, high))) in
      let low : a ≤ 8 * b = least g used k a (8 * b) is (let h = place.low in omega (arith, h)) fit in
      record {
        p = suc b;
        free = free_behind high;
        spent = half b (omega arith) (let new = most_new in omega (arith, most, new)) whole
            (λ f from to. not_marked used a k f (room.free f (omega (arith, high, from))) (λ begin end. omega (arith, small, low, from, end)));
      }

  small_part : 8 * p ≤ a → 2 * whole_below g p ≤ w → is_whole g b ≡ false → HasRoom g (marked used a k) (w + 1)
  small_part high most none = record {
    p = suc b;
    free = free_behind high;
    spent = full (
        let same = count_not (is_whole g) b none in
        let most_b = found.most in
        let up = count_mono (is_whole g) b next.q (omega (arith, most_b)) in
        let e = next.same in
        omega (arith, same, up, e, most));
  }

  small_new : 8 * p ≤ a → k ≤ 4 → 2 * whole_below g p ≤ w → HasRoom g (marked used a k) (w + 1)
  small_new high small most = elim (whole_by g b (is_whole g b) refl) as (λ _. HasRoom g (marked used a k) (w + 1)) [
    | is_so whole ↦ small_whole high small most whole
    | is_not none ↦ small_part high most none
  ]

  -- a small block fits into the half that is free
  small_half : k ≤ 4 → (q : ℕ) → q < p → is_whole g q ≡ true → ((f : ℕ) → 8 * q + 4 ≤ f → f < 8 * q + 8 → is_used used f ≡ false) → a < 8 * p
  small_half small q low whole free =
      let fit = fits_at g used k (8 * q + 4) eight (omega (arith, small)) (run_within g (8 * q) 8 (8 * q + 4) k whole (omega arith) (omega (arith, small)))
      (λ i inner. free (8 * q + 4 + i) (omega arith) (omega (arith, small, inner))) in
      let size : 8 * q + 4 < g.size = let h = next_inside in let h' = next.low in omega (arith, low, h, h') in
      let at = least g used k a (8 * q + 4) is size fit in
      omega (arith, at, low)

  small_by : k ≤ 4 → halves k ≡ 1 → Spent g used w p → HasRoom g (marked used a k) (w + halves k)
  small_by small one (full most) = elim (cases_lt a (8 * p)) as (λ _. HasRoom g (marked used a k) (w + halves k)) [
    | inl low ↦ before low (omega (arith, most))
    | inr high ↦ subst (λ (h : ℕ). HasRoom g (marked used a k) (w + h)) (sym one) (small_new high small most)
  ]
  small_by small one (half q low most whole free) =
      before (small_half small q low whole free) (subst (λ (h : ℕ). 2 * whole_below g p ≤ w + h) (sym one) most)

  large_by : halves k ≡ 2 → Spent g used w p → HasRoom g (marked used a k) (w + halves k)
  large_by two (full most) = elim (cases_lt a (8 * p)) as (λ _. HasRoom g (marked used a k) (w + halves k)) [
    | inl low ↦ before low (omega (arith, most))
    | inr high ↦ subst (λ (h : ℕ). HasRoom g (marked used a k) (w + h)) (sym two) (large_new high most)
  ]
  large_by two (half q low most whole free) = elim (cases_lt a (8 * p)) as (λ _. HasRoom g (marked used a k) (w + halves k)) [
    | inl under ↦ before under (subst (λ (h : ℕ). 2 * whole_below g p ≤ w + h) (sym two) (omega (arith, most)))
    | inr high ↦ subst (λ (h : ℕ). HasRoom g (marked used a k) (w + h)) (sym two) (large_behind high q low most whole free)
  ]

  by_size : (b : Bool) → nat_le k 4 ≡ b → HasRoom g (marked used a k) (w + halves k)
  by_size true small = small_by (grind (arith, nat_tests)) (ap (λ (t : Bool). if t then 1 else 2) small) room.spent
  by_size false large = large_by (ap (λ (t : Bool). if t then 1 else 2) large) room.spent

  pub found_room : Finds g used k (w + halves k)
  found_room = record { a = a; is = is; room = by_size (nat_le k 4) refl }

-- ---- blocks of a file

-- an answer, behind which there is room
pub record IsGiven (g : Geometry) (w : ℕ) (answer : Option Placed) : Type 0 where
  pub placed : Placed
  pub is : answer ≡ Some placed
  pub room : HasRoom g placed.used w

block_by : (g : Geometry) (level index count w end : ℕ) (placed : Placed) (free : Bool) → g.frag ≡ 8 → count ≤ 8 → 8 * end ≤ g.size → HasRoom g placed.used w
    → w + 1 < 2 * whole_below g end → IsGiven g (w + halves count) (if free then placed_at placed level index count (lowest g placed.used count) else Some placed)
block_by g level index count w end placed true eight few inside room left =
    let f = found_room g placed.used count w end eight few inside room left in
    record {
      placed = record { used = marked placed.used f.a count; addresses = with_address placed.addresses level index f.a };
      is = ap (placed_at placed level index count) f.is;
      room = f.room;
    }
block_by g level index count w end placed false eight few inside room left =
    record { placed = placed; is = refl; room = room_more g placed.used w (w + halves count) (omega arith) room }

block_room : (g : Geometry) (level index count w end : ℕ) (placed : Placed) → g.frag ≡ 8 → count ≤ 8 → 8 * end ≤ g.size → HasRoom g placed.used w
    → w + 1 < 2 * whole_below g end → IsGiven g (w + halves count) (with_block g level index count placed)
unfolding with_block
block_room g level index count w end placed eight few inside room left =
    block_by g level index count w end placed (address_at placed.addresses level index == 0) eight few inside room left

none_above : (g : Geometry) (level n : ℕ) (placed : Placed) → nat_lt n (first_through g level) ≡ true → with_block_above g level n placed ≡ Some placed
unfolding with_block_above
none_above g level n placed low = rw low refl

one_above : (g : Geometry) (n : ℕ) (placed : Placed) → nat_lt n 12 ≡ false
    → with_block_above g 1 n placed ≡ with_block g 1 ((n - 12) / g.nindir) g.frag placed
unfolding with_block_above
one_above g n placed past = rw past refl

then_is : {A B : Type 0} (o : Option A) (a : A) (f : A → Option B) → o ≡ Some a → and_then o f ≡ f a
then_is o a f e = ap (λ x. and_then x f) e

abbrev last_of : Geometry → ℕ → ℕ → Placed → Option Placed
last_of g size n one = with_block g 0 n (fragments_of g size n) one

abbrev behind_two : Geometry → ℕ → ℕ → Placed → Option Placed
behind_two g size n two = and_then (with_block_above g 1 n two) (last_of g size n)

abbrev behind_three : Geometry → ℕ → ℕ → Placed → Option Placed
behind_three g size n three = and_then (with_block_above g 2 n three) (behind_two g size n)

file_block_is : (g : Geometry) (size n : ℕ) (placed : Placed) → with_file_block g size n placed ≡ and_then (with_block_above g 3 n placed) (behind_three g size n)
unfolding with_file_block
file_block_is g size n placed = refl

lt_more : (a b c : ℕ) → a < b → a < b + c
lt_more a b c h = omega (arith, h)

is_low : (a b : ℕ) → a < b → nat_lt a b ≡ true
is_low a b low = grind (arith, nat_tests)

is_high : (a b : ℕ) → nat_lt a b ≡ false → b ≤ a
is_high a b high = grind (arith, nat_tests)

few_by : (first second : Bool) (rest fsize : ℕ) → 0 < fsize → (second ≡ false → rest < 8 * fsize) → (if first || second then 8 else div_ceil rest fsize) ≤ 8
few_by true second rest fsize some less = omega arith
few_by false true rest fsize some less = omega arith
few_by false false rest fsize some less =
    let round = div_ceil_times rest fsize some in
    let most : div_ceil rest fsize * fsize < rest + fsize = round.1 in
    elim (cases_lt 8 (div_ceil rest fsize)) as (λ _. div_ceil rest fsize ≤ 8) [
      | inl lt ↦
          let nine : 9 ≤ div_ceil rest fsize = omega arith in
          let up : 9 * fsize ≤ div_ceil rest fsize * fsize = mul-le-mul_right fsize nine in
          let low = less refl in
          absurd (omega (arith, up, most, low))
      | inr le ↦ le
    ]

-- a file block has eight fragments at most
pub fragments_few : (g : Geometry) (size n : ℕ) → HasEight g → fragments_of g size n ≤ 8
unfolding fragments_of
fragments_few g size n is =
    let rest : nat_le ((n + 1) * g.bsize) size ≡ false → size - n * g.bsize < 8 * g.fsize = λ none.
    let over : size < (n + 1) * g.bsize = grind (arith, nat_tests) in
    let split : (n + 1) * g.bsize ≡ n * g.bsize + 1 * g.bsize = add-mul n 1 g.bsize in
    let size_is = is.bsize in
    let some = is.some in
    omega (arith, over, split, size_is, some) in
    subst (λ (f : ℕ). (if nat_le 12 n || nat_le ((n + 1) * g.bsize) size then f else div_ceil (size - n * g.bsize) g.fsize) ≤ 8) (sym is.frag)
    (few_by (nat_le 12 n) (nat_le ((n + 1) * g.bsize) size) (size - n * g.bsize) g.fsize is.some rest)

file_block_by : (g : Geometry) (size n w end : ℕ) (placed : Placed) (direct : Bool) → nat_lt n 12 ≡ direct → HasEight g → n < 12 + g.nindir → 8 * end ≤ g.size
    → HasRoom g placed.used w → w + block_halves g size n + 1 < 2 * whole_below g end → IsGiven g (w + block_halves g size n) (behind_two g size n placed)
file_block_by g size n w end placed true is eight near inside room left =
    let same : block_halves g size n ≡ 0 + halves (fragments_of g size n) = ap (λ (b : Bool). (if b then 0 else 2) + halves (fragments_of g size n)) is in
    let last = block_room g 0 n (fragments_of g size n) w end placed eight.frag (fragments_few g size n eight) inside room (omega (arith, left)) in
    record {
      placed = last.placed;
      is = then_is (with_block_above g 1 n placed) placed (last_of g size n) (none_above g 1 n placed is) ∙ last.is;
      room = room_more g last.placed.used (w + halves (fragments_of g size n)) (w + block_halves g size n) (omega (arith, same)) last.room;
    }
file_block_by g size n w end placed false is eight near inside room left =
    let same : block_halves g size n ≡ 2 + halves (fragments_of g size n) = ap (λ (b : Bool). (if b then 0 else 2) + halves (fragments_of g size n)) is in
    let whole : halves g.frag ≡ 2 = ap halves eight.frag in
    let frag = eight.frag in
    let one = block_room g 1 ((n - 12) / g.nindir) g.frag w end placed eight.frag (omega (arith, frag)) inside room (omega (arith, left)) in
    let last = block_room g 0 n (fragments_of g size n) (w + halves g.frag) end one.placed eight.frag (fragments_few g size n eight) inside one.room (omega (arith, left, same, whole)) in
    record {
      placed = last.placed;
      is = then_is (with_block_above g 1 n placed) one.placed (last_of g size n) (one_above g n placed is ∙ one.is) ∙ last.is;
      room = room_more g last.placed.used (w + halves g.frag + halves (fragments_of g size n)) (w + block_halves g size n) (omega (arith, same, whole)) last.room;
    }

file_block_room : (g : Geometry) (size n w end : ℕ) (placed : Placed) → HasEight g → n < 12 + g.nindir → 8 * end ≤ g.size → HasRoom g placed.used w
    → w + block_halves g size n + 1 < 2 * whole_below g end → IsGiven g (w + block_halves g size n) (with_file_block g size n placed)
file_block_room g size n w end placed eight near inside room left =
    let given = file_block_by g size n w end placed (nat_lt n 12) refl eight near inside room left in
    let three = none_above g 3 n placed (is_low n (12 + g.nindir + g.nindir * g.nindir) (lt_more n (12 + g.nindir) (g.nindir * g.nindir) near)) in
    let two = none_above g 2 n placed (is_low n (12 + g.nindir) near) in
    record {
      placed = given.placed;
      is = file_block_is g size n placed ∙ then_is (with_block_above g 3 n placed) placed (behind_three g size n) three
          ∙ then_is (with_block_above g 2 n placed) placed (behind_two g size n) two ∙ given.is;
      room = given.room;
    }

hole_by : (g : Geometry) (node : Node) (n w end : ℕ) (placed : Placed) (hole : Bool) → HasEight g → n < 12 + g.nindir → 8 * end ≤ g.size → HasRoom g placed.used w
    → w + block_halves g (length node.bytes) n + 1 < 2 * whole_below g end
    → IsGiven g (w + block_halves g (length node.bytes) n) (if hole then Some placed else with_file_block g (length node.bytes) n placed)
hole_by g node n w end placed true eight near inside room left =
    record { placed = placed; is = refl; room = room_more g placed.used w (w + block_halves g (length node.bytes) n) (omega arith) room }
hole_by g node n w end placed false eight near inside room left = file_block_room g (length node.bytes) n w end placed eight near inside room left

blocks_room : (g : Geometry) (node : Node) (n w end : ℕ) (placed : Placed) → HasEight g → n ≤ 12 + g.nindir → 8 * end ≤ g.size → HasRoom g placed.used w
    → w + first_halves g (length node.bytes) n + 1 < 2 * whole_below g end → IsGiven g (w + first_halves g (length node.bytes) n) (with_blocks_below g node n placed)
blocks_room g node zero w end placed eight near inside room left = record { placed = placed; is = refl; room = room_more g placed.used w (w + 0) (omega arith) room }
blocks_room g node (suc n) w end placed eight near inside room left =
    let first : ℕ = first_halves g (length node.bytes) n in
    let more : ℕ = block_halves g (length node.bytes) n in
    let whole : w + (first_halves g (length node.bytes) n + block_halves g (length node.bytes) n) + 1 < 2 * whole_below g end = left in
    let before = blocks_room g node n w end placed eight (omega arith) inside room (omega (arith, whole)) in
    let last = hole_by g node n (w + first_halves g (length node.bytes) n) end before.placed (is_hole g node n) eight (omega arith) inside before.room (omega (arith, whole)) in
    record {
      placed = last.placed;
      is = then_is (with_blocks_below g node n placed) before.placed (with_block_or_hole g node n) before.is ∙ last.is;
      room = room_more g last.placed.used (w + first_halves g (length node.bytes) n + block_halves g (length node.bytes) n)
          (w + (first_halves g (length node.bytes) n + block_halves g (length node.bytes) n)) (omega arith) last.room;
    }

file_room : (g : Geometry) (node : Node) (used : List Bool) (w end : ℕ) → HasEight g → blocks_of g node ≤ 12 + g.nindir → 8 * end ≤ g.size → HasRoom g used w
    → w + first_halves g (length node.bytes) (blocks_of g node) + 1 < 2 * whole_below g end
    → IsGiven g (w + first_halves g (length node.bytes) (blocks_of g node)) (placed_file g node used)
unfolding placed_file
file_room g node used w end eight near inside room left =
    blocks_room g node (blocks_of g node) w end (record { used = used; addresses = no_addresses g (blocks_of g node) }) eight near inside room left

-- ---- files

abbrev pub AreGiven : Option AllPlaced → Type 0
AreGiven answer = (end : AllPlaced) × (answer ≡ Some end)

files_room : (g : Geometry) (nodes : List Node) (w end : ℕ) (all : AllPlaced) → HasEight g → All (λ node. blocks_of g node ≤ 12 + g.nindir) nodes → 8 * end ≤ g.size
    → HasRoom g all.used w → w + all_halves g nodes + 1 < 2 * whole_below g end → AreGiven (with_files g nodes all)
files_room g [] w end all eight near inside room left = (all, refl)
files_room g (node ∷ nodes) w end all eight near inside room left =
    let whole : w + (first_halves g (length node.bytes) (blocks_of g node) + all_halves g nodes) + 1 < 2 * whole_below g end = left in
    let file = file_room g node all.used w end eight (near 0 node (omega arith)) inside room (omega (arith, whole)) in
    let next : AllPlaced = record { used = file.placed.used; files = all.files ++ file.placed.addresses ∷ [] } in
    let one : with_file g node all ≡ Some next =
    then_is (placed_file g node all.used) file.placed (λ placed. Some (record { used = placed.used; files = all.files ++ placed.addresses ∷ [] })) file.is in
    let rest = files_room g nodes (w + first_halves g (length node.bytes) (blocks_of g node)) end next eight (λ k d low. near (suc k) d (omega (arith, low))) inside file.room (omega (arith, whole)) in
    (rest.0, then_is (with_file g node all) next (λ more. with_files g nodes more) one ∙ rest.1)

fresh_room : (g : Geometry) → HasRoom g (replicate g.size false) 0
fresh_room g = record { p = 0; free = λ f past. unused g.size f; spent = full (omega arith) }
  where
    unused : (n f : ℕ) → get_or (replicate n false) f false ≡ false
    unused zero f = refl
    unused (suc n) zero = refl
    unused (suc n) (suc f) = unused n f

pub all_placed : (g : Geometry) (nodes : List Node) (end : ℕ) → HasEight g → All (λ node. blocks_of g node ≤ 12 + g.nindir) nodes → 8 * end ≤ g.size
    → all_halves g nodes + 1 < 2 * whole_below g end → AreGiven (placed_files g nodes)
unfolding placed_files
all_placed g nodes end eight near inside left =
    files_room g nodes 0 end (record { used = replicate g.size false; files = [] }) eight near inside (fresh_room g) (omega (arith, left))
