-- The fragments that the blocks of files were given: none is given twice, and all are data.
use Rattle.std.proofs.Common.{◌≡◌, ◌≢◌, ◌∙◌, ℕ, zero, suc, ◌+◌, ◌-◌, ◌/◌, ◌%◌, ◌<◌, ◌≤◌, ◌⊎◌, ◌==◌, Bool, true, false, not, List, [], ◌∷◌, ◌++◌, length, get_or, set, cond, refl, sym, ap, subst, arith, inl, inr, Some, None}
use Rattle.std.specs.Prelude.{Option, find, if◌then◌else◌, nat_le, nat_lt, replicate}
use Rattle.std.specs.List.{range_with_len}
use Rattle.std.proofs.lemmas.Bool.{and_parts, cases_eq, cases_lt, false≢true, leb-true}
use Rattle.std.proofs.lemmas.Bool.Decides.{nat_tests}
use Rattle.std.proofs.lemmas.List.{append_assoc, get_or-replicate, get_or-set_other, get_or-set_same, get_or_past, length-replicate, length-set, set_past}
use Rattle.std.proofs.lemmas.Option.{same_Some}
use Rattle.ufs_model.specs.Geometries.{cgstart}
use Rattle.ufs_model.specs.Numbers.{all_below}
use Rattle.ufs_model.specs.Pointers.{is_data_run}
use Rattle.ufs_model.specs.Roles.{has_super, is_data_of, role, role_in}
use Rattle.ufs_model.specs.declared.geometries.Geometry.{Geometry}
use Rattle.ufs_model.specs.declared.roles.Role.{Role}
use Rattle.ufs_model.specs.declared.roles.Role.TheVariants.{Outside, System}
use Rattle.ufs_model.specs.declared.roles.SystemKind.TheVariants.{Boot, Super}
use Rattle.ufs_build.specs.Nodes.{Node}
use Rattle.ufs_build.specs.Placements.{Addresses, AllPlaced, Placed, address_at, addresses_at, and_then, blocks_of, count_through, first_through, fits, fragments_of, indirect_count, is_hole, is_used, lowest, marked, no_addresses, placed_at, placed_file, placed_files, with_address, with_block, with_block_above, with_block_or_hole, with_blocks_below, with_file, with_file_block, with_files}

-- ---- the lowest place

below_at : (test : ℕ → Bool) (n : ℕ) → all_below test n ≡ true → (i : ℕ) → i < n → test i ≡ true
below_at test zero all i low = absurd (omega arith)
below_at test (suc n) all i low =
    let parts = and_parts (all_below test n) (test n) all in
    elim (cases_lt i n) [
      | inl lt ↦ below_at test n (parts.0) i lt
      | inr ge ↦ let e : n ≡ i = omega arith in subst (λ (k : ℕ). test k ≡ true) e (parts.1)
    ]

found_first : (test : ℕ → Bool) (from a : ℕ) (here : Bool) (rest : Option ℕ) (end : ℕ) → test from ≡ here → from < end → cond here (Some from) rest ≡ Some a
    → (rest ≡ Some a → (test a ≡ true) × (a < end)) → (test a ≡ true) × (a < end)
found_first test from a true rest end is low e further = let same = same_Some from a e in (subst (λ (k : ℕ). test k ≡ true) same is, omega arith)
found_first test from a false rest end is low e further = further e

found_at : (test : ℕ → Bool) (from n a : ℕ) → find test (range_with_len from n) ≡ Some a → (test a ≡ true) × (a < from + n)
found_at test from zero a e = absurd (cc e)
found_at test from (suc n) a e =
    found_first test from a (test from) (find test (range_with_len (from + 1) n)) (from + suc n) refl (omega arith) e
    (λ e'. let later = found_at test (from + 1) n a e' in (later.0, let h = later.1 in omega arith))

not_used : (b : Bool) → not b ≡ true → b ≡ false
not_used true e = absurd (false≢true e)
not_used false e = refl

-- a place for a block of k fragments
pub record IsPlace (g : Geometry) (used : List Bool) (k a : ℕ) : Type 0 where
  pub low : a < g.size
  pub aligned : a % g.frag + k ≤ g.frag
  pub run : is_data_run g a k ≡ true
  pub free : (i : ℕ) → i < k → is_used used (a + i) ≡ false

pub lowest_place : (g : Geometry) (used : List Bool) (k a : ℕ) → lowest g used k ≡ Some a → IsPlace g used k a
unfolding lowest fits
lowest_place g used k a e =
    let found = found_at (fits g used k) 0 g.size a e in
    let one = and_parts (nat_le (a % g.frag + k) g.frag) _ (found.0) in
    let two = and_parts (is_data_run g a k) _ (one.1) in
    record {
      low = let h = found.1 in omega arith;
      aligned = leb-true (a % g.frag + k) g.frag (one.0);
      run = two.0;
      free = λ i low. not_used (is_used used (a + i)) (below_at (λ j. not (is_used used (a + j))) k (two.1) i low);
    }

-- ---- data is inside the volume

pub role_by : (past super boot : Bool) (c : ℕ) (rest : Role) → is_data_of c (if past then Outside else if super then System Super else if boot then System Boot else rest) ≡ true
    → (past ≡ false) × (super ≡ false) × (boot ≡ false)
role_by true super boot c rest h = absurd (false≢true h)
role_by false true boot c rest h = absurd (false≢true h)
role_by false false true c rest h = absurd (false≢true h)
role_by false false false c rest h = (refl, refl, refl)

pub data_inside : (g : Geometry) (c f : ℕ) → is_data_of c (role g f) ≡ true → f < g.size
unfolding role
data_inside g c f is =
    let tests = role_by (nat_le g.size f) (has_super g.fsize f) (nat_lt f (cgstart g 0 + g.sblkno)) c (role_in g (f / g.fpg) (cgstart g (f / g.fpg)) f) is in
    let past = tests.0 in
    grind (arith, nat_tests)

pub data_in_run : (g : Geometry) (a k f : ℕ) → is_data_run g a k ≡ true → a ≤ f → f < a + k → is_data_of (a / g.fpg) (role g f) ≡ true
unfolding is_data_run
data_in_run g a k f run low high =
    subst (λ (b : ℕ). is_data_of (a / g.fpg) (role g b) ≡ true) (let e : a + (f - a) ≡ f = omega arith in e)
    (below_at (λ i. is_data_of (a / g.fpg) (role g (a + i))) k run (f - a) (omega arith))

run_inside : (g : Geometry) (a k : ℕ) → a < g.size → is_data_run g a k ≡ true → a + k ≤ g.size
run_inside g a zero low run = omega arith
run_inside g a (suc k) low run =
    let last = data_inside g (a / g.fpg) (a + k) (data_in_run g a (suc k) (a + k) run (omega arith) (omega arith)) in omega arith

-- ---- marks

set_kept : (marks : List Bool) (i f : ℕ) → get_or marks f false ≡ true → get_or (set marks i true) f false ≡ true
set_kept [] i f h = h
set_kept (m ∷ marks) zero zero h = refl
set_kept (m ∷ marks) zero (suc f) h = h
set_kept (m ∷ marks) (suc i) zero h = h
set_kept (m ∷ marks) (suc i) (suc f) h = set_kept marks i f h

marked_kept : (used : List Bool) (a k f : ℕ) → is_used used f ≡ true → is_used (marked used a k) f ≡ true
marked_kept used a zero f h = h
marked_kept used a (suc k) f h = set_kept (marked used a k) (a + k) f (marked_kept used a k f h)

marked_length : (used : List Bool) (a k : ℕ) → length (marked used a k) ≡ length used
marked_length used a zero = refl
marked_length used a (suc k) = length-set (marked used a k) (a + k) true ∙ marked_length used a k

marked_inside : (used : List Bool) (a k f : ℕ) → a + k ≤ length used → a ≤ f → f < a + k → is_used (marked used a k) f ≡ true
marked_inside used a zero f fits low high = absurd (omega arith)
marked_inside used a (suc k) f fits low high =
    let size = marked_length used a k in
    elim (cases_eq f (a + k)) as (λ _. is_used (marked used a (suc k)) f ≡ true) [
      | inl same ↦ rw (same, get_or-set_same (marked used a k) (a + k) true false (omega arith)) refl
      | inr differ ↦ set_kept (marked used a k) (a + k) f (marked_inside used a k f (omega arith) low (omega arith))
    ]

-- only these are marked
pub marked_only : (used : List Bool) (a k f : ℕ) → is_used (marked used a k) f ≡ true → (is_used used f ≡ true) ⊎ ((a ≤ f) × (f < a + k))
marked_only used a zero f h = inl h
marked_only used a (suc k) f h =
    elim (cases_eq f (a + k)) as (λ _. (is_used used f ≡ true) ⊎ ((a ≤ f) × (f < a + suc k))) [
      | inl same ↦ inr (omega arith, omega arith)
      | inr differ ↦ elim (marked_only used a k f (sym (get_or-set_other (marked used a k) (a + k) f true false differ) ∙ h)) as (λ _. (is_used used f ≡ true) ⊎ ((a ≤ f) × (f < a + suc k))) [
        | inl before ↦ inl before
        | inr within ↦ inr (within.0, let high = within.1 in omega arith)
      ]
    ]

-- ---- addresses

-- the addresses at a level, once one was set
pub at_level : (addresses : Addresses) (level index a other : ℕ) → level < 4 → other < 4
    → addresses_at (with_address addresses level index a) other ≡ (if other == level then set (addresses_at addresses level) index a else addresses_at addresses other)
unfolding with_address
at_level addresses zero index a zero h k = refl
at_level addresses zero index a (suc zero) h k = refl
at_level addresses zero index a (suc (suc zero)) h k = refl
at_level addresses zero index a (suc (suc (suc zero))) h k = refl
at_level addresses zero index a (suc (suc (suc (suc other)))) h k = absurd (omega arith)
at_level addresses (suc zero) index a zero h k = refl
at_level addresses (suc zero) index a (suc zero) h k = refl
at_level addresses (suc zero) index a (suc (suc zero)) h k = refl
at_level addresses (suc zero) index a (suc (suc (suc zero))) h k = refl
at_level addresses (suc zero) index a (suc (suc (suc (suc other)))) h k = absurd (omega arith)
at_level addresses (suc (suc zero)) index a zero h k = refl
at_level addresses (suc (suc zero)) index a (suc zero) h k = refl
at_level addresses (suc (suc zero)) index a (suc (suc zero)) h k = refl
at_level addresses (suc (suc zero)) index a (suc (suc (suc zero))) h k = refl
at_level addresses (suc (suc zero)) index a (suc (suc (suc (suc other)))) h k = absurd (omega arith)
at_level addresses (suc (suc (suc zero))) index a zero h k = refl
at_level addresses (suc (suc (suc zero))) index a (suc zero) h k = refl
at_level addresses (suc (suc (suc zero))) index a (suc (suc zero)) h k = refl
at_level addresses (suc (suc (suc zero))) index a (suc (suc (suc zero))) h k = refl
at_level addresses (suc (suc (suc zero))) index a (suc (suc (suc (suc other)))) h k = absurd (omega arith)
at_level addresses (suc (suc (suc (suc level)))) index a other h k = absurd (omega arith)

set_either : (xs : List ℕ) (index a i : ℕ) → (get_or (set xs index a) i 0 ≡ get_or xs i 0) ⊎ ((i ≡ index) × (get_or (set xs index a) i 0 ≡ a))
set_either xs index a i =
    elim (cases_eq i index) as (λ _. (get_or (set xs index a) i 0 ≡ get_or xs i 0) ⊎ ((i ≡ index) × (get_or (set xs index a) i 0 ≡ a))) [
      | inr differ ↦ inl (get_or-set_other xs index i a 0 differ)
      | inl same ↦ elim (cases_lt index (length xs)) as (λ _. (get_or (set xs index a) i 0 ≡ get_or xs i 0) ⊎ ((i ≡ index) × (get_or (set xs index a) i 0 ≡ a))) [
        | inl low ↦ inr (same, rw (same, get_or-set_same xs index a 0 low) refl)
        | inr past ↦ inl (ap (λ (l : List ℕ). get_or l i 0) (set_past xs index a past))
      ]
    ]

either_by : (same : Bool) (addresses : Addresses) (level index a other i : ℕ) (found : List ℕ) → (other == level) ≡ same
    → found ≡ (if same then set (addresses_at addresses level) index a else addresses_at addresses other)
    → (get_or found i 0 ≡ address_at addresses other i) ⊎ ((other ≡ level) × (i ≡ index) × (get_or found i 0 ≡ a))
either_by false addresses level index a other i found is e = inl (ap (λ (l : List ℕ). get_or l i 0) e)
either_by true addresses level index a other i found is e =
    let same : other ≡ level = grind (arith, nat_tests) in
    elim (set_either (addresses_at addresses level) index a i) as (λ _. (get_or found i 0 ≡ address_at addresses other i) ⊎ ((other ≡ level) × (i ≡ index) × (get_or found i 0 ≡ a))) [
      | inl old ↦ inl (ap (λ (l : List ℕ). get_or l i 0) e ∙ old ∙ ap (λ (n : ℕ). address_at addresses n i) (sym same))
      | inr new ↦ inr (same, new.0, ap (λ (l : List ℕ). get_or l i 0) e ∙ new.1)
    ]

-- an address is as it was, or it is the one that was set
pub address_either : (addresses : Addresses) (level index a other i : ℕ) → level < 4 → other < 4
    → (address_at (with_address addresses level index a) other i ≡ address_at addresses other i)
    ⊎ ((other ≡ level) × (i ≡ index) × (address_at (with_address addresses level index a) other i ≡ a))
address_either addresses level index a other i h k =
    either_by (other == level) addresses level index a other i (addresses_at (with_address addresses level index a) other) refl (at_level addresses level index a other h k)

-- ---- what a file has

-- so many fragments has the block at a level
abbrev pub count_of : Geometry → ℕ → ℕ → ℕ → ℕ
count_of g size level index = if level == 0 then fragments_of g size index else g.frag

-- a block at an address, in fragments that were free before and are marked after
pub record IsRun (g : Geometry) (before after : List Bool) (a k : ℕ) : Type 0 where
  pub inside : a + k ≤ g.size
  pub aligned : a % g.frag + k ≤ g.frag
  pub run : is_data_run g a k ≡ true
  pub fresh : (f : ℕ) → a ≤ f → f < a + k → is_used before f ≡ false
  pub used : (f : ℕ) → a ≤ f → f < a + k → is_used after f ≡ true

-- a fragment of the block at a level
pub record HasFragment (g : Geometry) (size : ℕ) (addresses : Addresses) (level index f : ℕ) : Type 0 where
  pub some : address_at addresses level index ≢ 0
  pub low : address_at addresses level index ≤ f
  pub high : f < address_at addresses level index + count_of g size level index

-- a file's blocks, each in fragments of its own
pub record IsPlaced (g : Geometry) (size : ℕ) (before : List Bool) (placed : Placed) : Type 0 where
  pub long : length placed.used ≡ g.size
  pub kept : (f : ℕ) → is_used before f ≡ true → is_used placed.used f ≡ true
  pub runs : (level index : ℕ) → level < 4 → address_at placed.addresses level index ≢ 0
      → IsRun g before placed.used (address_at placed.addresses level index) (count_of g size level index)
  pub apart : (level index other number f : ℕ) → level < 4 → other < 4 → HasFragment g size placed.addresses level index f
      → HasFragment g size placed.addresses other number f → (level ≡ other) × (index ≡ number)

pub both_ways : (b : Bool) → b ≡ true → b ≡ false → ⊥
both_ways true e f = false≢true (sym f)
both_ways false e f = false≢true e

old_run : (g : Geometry) (before used : List Bool) (a k b m : ℕ) → IsRun g before used b m → IsRun g before (marked used a k) b m
old_run g before used a k b m is = record {
  inside = is.inside;
  aligned = is.aligned;
  run = is.run;
  fresh = is.fresh;
  used = λ f low high. marked_kept used a k f (is.used f low high);
}

pub not_before : (one other : Bool) → (one ≡ true → other ≡ true) → other ≡ false → one ≡ false
not_before true other h e = absurd (both_ways other (h refl) e)
not_before false other h e = refl

free_at : (g : Geometry) (used : List Bool) (k a f : ℕ) → IsPlace g used k a → a ≤ f → f < a + k → is_used used f ≡ false
free_at g used k a f place low high =
    subst (λ (b : ℕ). is_used used b ≡ false) (let e : a + (f - a) ≡ f = omega arith in e) (place.free (f - a) (omega arith))

new_run : (g : Geometry) (before used : List Bool) (a k : ℕ) → length used ≡ g.size → ((f : ℕ) → is_used before f ≡ true → is_used used f ≡ true) → IsPlace g used k a
    → IsRun g before (marked used a k) a k
new_run g before used a k long kept place =
    let inside = run_inside g a k place.low place.run in
    record {
      inside = inside;
      aligned = place.aligned;
      run = place.run;
      fresh = λ f low high. not_before (is_used before f) (is_used used f) (kept f) (free_at g used k a f place low high);
      used = λ f low high. marked_inside used a k f (omega arith) low high;
    }

-- a fragment of a block that was there is one that is marked
was_used : (g : Geometry) (size : ℕ) (before : List Bool) (placed : Placed) (level index f : ℕ) → level < 4 → IsPlaced g size before placed
    → HasFragment g size placed.addresses level index f → is_used placed.used f ≡ true
was_used g size before placed level index f low is has = let run = is.runs level index low has.some in run.used f has.low has.high

-- a fragment of a block after one was placed
data Changed (g : Geometry) (size : ℕ) (addresses : Addresses) (level index a f other number : ℕ) : Type 0 where
  was : HasFragment g size addresses other number f → Changed g size addresses level index a f other number
  is_new : (other ≡ level) → (number ≡ index) → a ≤ f → f < a + count_of g size level index → Changed g size addresses level index a f other number

changed : (g : Geometry) (size : ℕ) (addresses : Addresses) (level index a other number f : ℕ) → level < 4 → other < 4
    → HasFragment g size (with_address addresses level index a) other number f → Changed g size addresses level index a f other number
changed g size addresses level index a other number f h k has =
    let low = has.low in
    let high = has.high in
    let some = has.some in
    elim (address_either addresses level index a other number h k) as (λ _. Changed g size addresses level index a f other number) [
      | inl old ↦ was (record {
        some = λ none. some (old ∙ none);
        low = subst (λ (b : ℕ). b ≤ f) old low;
        high = subst (λ (b : ℕ). f < b + count_of g size other number) old high;
      })
      | inr new ↦ is_new (new.0) (new.1) (subst (λ (b : ℕ). b ≤ f) (new.2) low)
          (rw (← new.2) (subst (λ (n : ℕ). f < address_at (with_address addresses level index a) other number + count_of g size level n) (new.1)
          (subst (λ (n : ℕ). f < address_at (with_address addresses level index a) other number + count_of g size n number) (new.0) high)))
    ]

apart_by : (g : Geometry) (size : ℕ) (before : List Bool) (placed : Placed) (level index a one first other second f : ℕ) → one < 4 → other < 4
    → IsPlaced g size before placed → IsPlace g placed.used (count_of g size level index) a
    → Changed g size placed.addresses level index a f one first → Changed g size placed.addresses level index a f other second → (one ≡ other) × (first ≡ second)
apart_by g size before placed level index a one first other second f h k is place (was x) (was y) = is.apart one first other second f h k x y
apart_by g size before placed level index a one first other second f h k is place (was x) (is_new e i low high) =
    absurd (both_ways (is_used placed.used f) (was_used g size before placed one first f h is x) (free_at g placed.used (count_of g size level index) a f place low high))
apart_by g size before placed level index a one first other second f h k is place (is_new e i low high) (was y) =
    absurd (both_ways (is_used placed.used f) (was_used g size before placed other second f k is y) (free_at g placed.used (count_of g size level index) a f place low high))
apart_by g size before placed level index a one first other second f h k is place (is_new e i low high) (is_new e' i' low' high') = (e ∙ sym e', i ∙ sym i')

placed_new : (g : Geometry) (size : ℕ) (before : List Bool) (placed : Placed) (level index a : ℕ) → level < 4 → IsPlaced g size before placed
    → IsPlace g placed.used (count_of g size level index) a
    → IsPlaced g size before (record { used = marked placed.used a (count_of g size level index); addresses = with_address placed.addresses level index a })
placed_new g size before placed level index a h is place = record {
  long = marked_length placed.used a (count_of g size level index) ∙ is.long;
  kept = λ f e. marked_kept placed.used a (count_of g size level index) f (is.kept f e);
  runs = λ other number k some. elim (address_either placed.addresses level index a other number h k)
      as (λ _. IsRun g before (marked placed.used a (count_of g size level index)) (address_at (with_address placed.addresses level index a) other number) (count_of g size other number)) [
        | inl old ↦ rw old (old_run g before placed.used a (count_of g size level index) (address_at placed.addresses other number) (count_of g size other number)
            (is.runs other number k (λ none. some (old ∙ none))))
        | inr new ↦ rw (new.2, new.0, new.1) (new_run g before placed.used a (count_of g size level index) is.long is.kept place)
      ];
  apart = λ one first other second f k m x y. apart_by g size before placed level index a one first other second f k m is place
      (changed g size placed.addresses level index a one first f h k x) (changed g size placed.addresses level index a other second f h m y);
}

-- ---- steps

step_by : (g : Geometry) (size : ℕ) (before : List Bool) (placed next : Placed) (level index : ℕ) (free : Bool) (found : Option ℕ) → level < 4
    → lowest g placed.used (count_of g size level index) ≡ found → IsPlaced g size before placed
    → (if free then placed_at placed level index (count_of g size level index) found else Some placed) ≡ Some next → IsPlaced g size before next
step_by g size before placed next level index true None h found is e = absurd (cc e)
step_by g size before placed next level index true (Some a) h found is e =
    subst (λ (p : Placed). IsPlaced g size before p) (same_Some (record { used = marked placed.used a (count_of g size level index); addresses = with_address placed.addresses level index a }) next e)
    (placed_new g size before placed level index a h is (lowest_place g placed.used (count_of g size level index) a found))
step_by g size before placed next level index false found h here is e = subst (λ (p : Placed). IsPlaced g size before p) (same_Some placed next e) is

block_step : (g : Geometry) (size : ℕ) (before : List Bool) (placed next : Placed) (level index count : ℕ) → level < 4 → count ≡ count_of g size level index
    → IsPlaced g size before placed → with_block g level index count placed ≡ Some next → IsPlaced g size before next
unfolding with_block
block_step g size before placed next level index count h same is e =
    step_by g size before placed next level index (address_at placed.addresses level index == 0) (lowest g placed.used (count_of g size level index)) h refl is
    (subst (λ (k : ℕ). (if address_at placed.addresses level index == 0 then placed_at placed level index k (lowest g placed.used k) else Some placed) ≡ Some next) same e)

above_by : (g : Geometry) (size : ℕ) (before : List Bool) (placed next : Placed) (level index : ℕ) (none : Bool) → level < 4 → g.frag ≡ count_of g size level index
    → IsPlaced g size before placed → (if none then Some placed else with_block g level index g.frag placed) ≡ Some next → IsPlaced g size before next
above_by g size before placed next level index true h same is e = subst (λ (p : Placed). IsPlaced g size before p) (same_Some placed next e) is
above_by g size before placed next level index false h same is e = block_step g size before placed next level index g.frag h same is e

above_step : (g : Geometry) (size : ℕ) (before : List Bool) (placed next : Placed) (level n : ℕ) → level < 4 → ((index : ℕ) → g.frag ≡ count_of g size level index)
    → IsPlaced g size before placed → with_block_above g level n placed ≡ Some next → IsPlaced g size before next
unfolding with_block_above
above_step g size before placed next level n h same is e =
    above_by g size before placed next level ((n - first_through g level) / count_through g level) (nat_lt n (first_through g level)) h
    (same ((n - first_through g level) / count_through g level)) is e

pub some_then : {A B : Type 0} (o : Option A) (f : A → Option B) (y : B) → and_then o f ≡ Some y → (x : A) × (o ≡ Some x) × (f x ≡ Some y)
some_then None f y e = absurd (cc e)
some_then (Some x) f y e = (x, refl, e)

file_block_step : (g : Geometry) (size : ℕ) (before : List Bool) (placed next : Placed) (n : ℕ) → IsPlaced g size before placed
    → with_file_block g size n placed ≡ Some next → IsPlaced g size before next
unfolding with_file_block
file_block_step g size before placed next n is e =
    let a = some_then (with_block_above g 3 n placed) _ next e in
    let b = some_then (with_block_above g 2 n (a.0)) _ next (a.2) in
    let c = some_then (with_block_above g 1 n (b.0)) _ next (b.2) in
    let three = above_step g size before placed (a.0) 3 n (omega arith) (λ index. refl) is (a.1) in
    let two = above_step g size before (a.0) (b.0) 2 n (omega arith) (λ index. refl) three (b.1) in
    let one = above_step g size before (b.0) (c.0) 1 n (omega arith) (λ index. refl) two (c.1) in
    block_step g size before (c.0) next 0 n (fragments_of g size n) (omega arith) refl one (c.2)

hole_by : (g : Geometry) (size : ℕ) (before : List Bool) (placed next : Placed) (n : ℕ) (hole : Bool) → IsPlaced g size before placed
    → (if hole then Some placed else with_file_block g size n placed) ≡ Some next → IsPlaced g size before next
hole_by g size before placed next n true is e = subst (λ (p : Placed). IsPlaced g size before p) (same_Some placed next e) is
hole_by g size before placed next n false is e = file_block_step g size before placed next n is e

below_steps : (g : Geometry) (node : Node) (before : List Bool) (placed next : Placed) (n : ℕ) → IsPlaced g (length node.bytes) before placed
    → with_blocks_below g node n placed ≡ Some next → IsPlaced g (length node.bytes) before next
below_steps g node before placed next zero is e = subst (λ (p : Placed). IsPlaced g (length node.bytes) before p) (same_Some placed next e) is
below_steps g node before placed next (suc n) is e =
    let a = some_then (with_blocks_below g node n placed) (with_block_or_hole g node n) next e in
    hole_by g (length node.bytes) before (a.0) next n (is_hole g node n) (below_steps g node before placed (a.0) n is (a.1)) (a.2)

pub get_none : (z n i : ℕ) → get_or (replicate n z) i z ≡ z
get_none z zero i = refl
get_none z (suc n) zero = refl
get_none z (suc n) (suc i) = get_none z n i

pub none_at : (g : Geometry) (blocks level index : ℕ) → level < 4 → address_at (no_addresses g blocks) level index ≡ 0
unfolding no_addresses
none_at g blocks zero index h = get_none 0 blocks index
none_at g blocks (suc zero) index h = get_none 0 (indirect_count g 1 blocks) index
none_at g blocks (suc (suc zero)) index h = get_none 0 (indirect_count g 2 blocks) index
none_at g blocks (suc (suc (suc zero))) index h = get_none 0 (indirect_count g 3 blocks) index
none_at g blocks (suc (suc (suc (suc level)))) index h = absurd (omega arith)

nothing_placed : (g : Geometry) (size blocks : ℕ) (before : List Bool) → length before ≡ g.size
    → IsPlaced g size before (record { used = before; addresses = no_addresses g blocks })
nothing_placed g size blocks before long = record {
  long = long;
  kept = λ f e. e;
  runs = λ level index h some. absurd (some (none_at g blocks level index h));
  apart = λ level index other number f h k x y. absurd (let some = x.some in some (none_at g blocks level index h));
}

pub file_placed : (g : Geometry) (node : Node) (before : List Bool) (placed : Placed) → length before ≡ g.size → placed_file g node before ≡ Some placed
    → IsPlaced g (length node.bytes) before placed
unfolding placed_file
file_placed g node before placed long e =
    below_steps g node before (record { used = before; addresses = no_addresses g (blocks_of g node) }) placed (blocks_of g node)
    (nothing_placed g (length node.bytes) (blocks_of g node) before long) e

-- ---- all files

-- each file was placed after those before it
abbrev pub ArePlaced : Geometry → List Node → List Addresses → List Bool → List Bool → Type 0
ArePlaced g [] [] before after = before ≡ after
ArePlaced g [] (addresses ∷ files) before after = ⊥
ArePlaced g (node ∷ nodes) [] before after = ⊥
ArePlaced g (node ∷ nodes) (addresses ∷ files) before after =
    (mid : List Bool) × (placed_file g node before ≡ Some (record { used = mid; addresses = addresses })) × ArePlaced g nodes files mid after

pub record AreAllPlaced (g : Geometry) (nodes : List Node) (all last : AllPlaced) : Type 0 where
  pub files : List Addresses
  pub is : last.files ≡ all.files ++ files
  pub each : ArePlaced g nodes files all.used last.used

files_placed : (g : Geometry) (nodes : List Node) (all last : AllPlaced) → with_files g nodes all ≡ Some last → AreAllPlaced g nodes all last
files_placed g [] all last e =
    let same = same_Some all last e in
    record { files = []; is = sym (ap (λ (a : AllPlaced). a.files) same) ∙ sym (Rattle.std.proofs.lemmas.List.append-nil all.files); each = ap (λ (a : AllPlaced). a.used) same }
files_placed g (node ∷ nodes) all last e =
    let a = some_then (with_file g node all) _ last e in
    let b = some_then (placed_file g node all.used) _ (a.0) (a.1) in
    let next : record { used = (b.0).used; files = all.files ++ (b.0).addresses ∷ [] } ≡ a.0 = same_Some _ (a.0) (b.2) in
    let rest = files_placed g nodes (record { used = (b.0).used; files = all.files ++ (b.0).addresses ∷ [] }) last
    (subst (λ (x : AllPlaced). with_files g nodes x ≡ Some last) (sym next) (a.2)) in
    record {
      files = (b.0).addresses ∷ rest.files;
      is = rest.is ∙ append_assoc all.files ((b.0).addresses ∷ []) rest.files;
      each = ((b.0).used, b.1, rest.each);
    }

pub all_placed : (g : Geometry) (nodes : List Node) (all : AllPlaced) → placed_files g nodes ≡ Some all → ArePlaced g nodes all.files (replicate g.size false) all.used
unfolding placed_files
all_placed g nodes all e =
    let is = files_placed g nodes (record { used = replicate g.size false; files = [] }) all e in
    subst (λ (files : List Addresses). ArePlaced g nodes files (replicate g.size false) all.used) (sym is.is) is.each

pub count_placed : (g : Geometry) (nodes : List Node) (files : List Addresses) (before after : List Bool) → ArePlaced g nodes files before after → length files ≡ length nodes
count_placed g [] [] before after placed = refl
count_placed g [] (addresses ∷ files) before after placed = absurd placed
count_placed g (node ∷ nodes) [] before after placed = absurd placed
count_placed g (node ∷ nodes) (addresses ∷ files) before after placed =
    let rest = count_placed g nodes files (placed.0) after (placed.2) in omega (arith, rest)
