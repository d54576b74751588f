-- Each written block has a target, and targets are boundaries of the array.
use Rattle.std.proofs.Common.{◌≡◌, ◌<◌, ◌≤◌, ◌+◌, ◌-◌, ◌%◌, ◌==◌, ◌&&◌, ◌||◌, ◌⊎◌, ℕ, zero, suc, Bool, true, false, cond, not, List, [], ◌∷◌, length, get_or, map, replicate, inl, inr, refl, sym, ◌∙◌, ap, subst, arith}
use Rattle.std.specs.Prelude.{Option, Some, None, Ok, Err, nat_lt, is_some, option_to_list, find}
use Rattle.std.specs.List.{filter, list_any, range_with_len}
use Rattle.std.proofs.lemmas.Bool.{and_parts, cases_Bool, cases_eq, cases_lt, eqb-true, false≢true, leb-true, ltb-true, or_cases}
use Rattle.std.proofs.lemmas.List.{get_or_past, length-replicate, length-set}
use Rattle.dg_model.proofs.SiteLists.{apart_test, same_test}
use Rattle.dg_model.specs.declared.shapes.Shape.{Shape}
use Rattle.dg_model.specs.Shapes.{IsShape}
use Rattle.dg_model.specs.Homes.{home_of, with_home}
use Rattle.dg_model.specs.Plans.{Placement, Placed, Plan, Scattered, are_same, beside, blocks_of, blocks_with, boundary_for, directory_of, each_ok, files_in, roomiest_of, has_room, is_stray, less_room, place_file, place_with, place_kept, place_stray, placed_on, places_of, plan, roomiest, place_in, stay, stay_all, targets_by, waiting, with_file, with_number}
use Rattle.dg_model.specs.Wants.{want_of}
use Rattle.dg_model.specs.declared.homes.Home.{Home}
use Rattle.dg_model.specs.declared.wants.NoRoom.TheVariants.{Inode, Strays}
use Rattle.dg_model.specs.declared.parents.Parent.{Parent}
use Rattle.dg_model.specs.declared.wants.Want.{Want}
use Rattle.dg_model.specs.declared.wants.Want.TheVariants.{Kept, File, Stray}
use Rattle.dg_plan.specs.Folds.{files_placed, kept_placed}
use Rattle.dg_plan.proofs.RoomLaws.{kept_yes, not_ok, ok_is, then_parts}
use Rattle.dg_plan.proofs.TargetLaws.{HasSteps, is_at_some, steps_of}

-- ---- members of lists, by a test

abbrev pub has : ℕ → List ℕ → Bool
has x xs = list_any (λ y. y == x) xs

pub has_head : (x y : ℕ) (ys : List ℕ) → y ≡ x → has x (y ∷ ys) ≡ true
has_head x y ys e = ap (λ (v : Bool). v || has x ys) (same_test y x e)

pub has_tail : (x y : ℕ) (ys : List ℕ) → has x ys ≡ true → has x (y ∷ ys) ≡ true
has_tail x y ys there = elim (cases_eq y x) [
  | inl at ↦ has_head x y ys at
  | inr off ↦ ap (λ (v : Bool). v || has x ys) (apart_test y x off) ∙ there
]

-- each number is below another
abbrev pub AreBelow : ℕ → List ℕ → Type 0
AreBelow n [] = Unit {0}
AreBelow n (x ∷ xs) = (x < n) × AreBelow n xs

below_of : (n t : ℕ) (xs : List ℕ) → AreBelow n xs → has t xs ≡ true → t < n
below_of n t [] below there = absurd (false≢true there)
below_of n t (x ∷ xs) below there = elim (or_cases (x == t) (has t xs) there) [
  | inl at ↦ let e : x ≡ t = eqb-true x t at in let b = below.0 in omega (arith, b, e)
  | inr later ↦ below_of n t xs below.1 later
]

range_below : (a n most : ℕ) → a + n ≤ most → AreBelow most (range_with_len a n)
range_below a zero most fits = tt
range_below a (suc n) most fits = (omega arith, range_below (a + 1) n most (omega arith))

range_has : (a n x : ℕ) → a ≤ x → x < a + n → has x (range_with_len a n) ≡ true
range_has a zero x low high = absurd (omega arith)
range_has a (suc n) x low high = elim (cases_eq a x) [
  | inl at ↦ has_head x a (range_with_len (a + 1) n) at
  | inr off ↦ has_tail x a (range_with_len (a + 1) n) (range_has (a + 1) n x (omega (arith, low, off)) (omega (arith, high)))
]

filter_has : (test : ℕ → Bool) (x : ℕ) (xs : List ℕ) → has x xs ≡ true → test x ≡ true → has x (filter test xs) ≡ true
filter_has test x [] there passes = absurd (false≢true there)
filter_has test x (y ∷ ys) there passes = elim (cases_Bool (test y)) [
  | inl hit ↦ elim (or_cases (y == x) (has x ys) there) [
    | inl at ↦ ap (λ (v : Bool). has x (cond v (y ∷ filter test ys) (filter test ys))) hit ∙ has_head x y (filter test ys) (eqb-true y x at)
    | inr later ↦ ap (λ (v : Bool). has x (cond v (y ∷ filter test ys) (filter test ys))) hit ∙ has_tail x y (filter test ys) (filter_has test x ys later passes)
  ]
  | inr miss ↦ elim (or_cases (y == x) (has x ys) there) [
    | inl at ↦ absurd (false≢true (sym miss ∙ ap test (eqb-true y x at) ∙ passes))
    | inr later ↦ ap (λ (v : Bool). has x (cond v (y ∷ filter test ys) (filter test ys))) miss ∙ filter_has test x ys later passes
  ]
]

-- ---- the boundary with the most room is one of them

best_below : (rooms : List ℕ) (n : ℕ) → 0 < n → roomiest_of rooms n < n
best_below rooms zero some = absurd (omega arith)
best_below rooms (suc n) some =
    let best = roomiest_of rooms n in
    let before : best ≤ n = elim (cases_lt 0 n) [
      | inl more ↦ let b = best_below rooms n more in omega (arith, b)
      | inr none ↦ let e : best ≡ 0 = ap (roomiest_of rooms) (let z : n ≡ 0 = omega arith in z) in omega (arith, e)
    ] in
    elim (cases_Bool (nat_lt (get_or rooms best 0) (get_or rooms n 0))) [
      | inl hit ↦ let e = ap (λ (v : Bool). cond v n best) hit in omega (arith, e)
      | inr miss ↦ let e = ap (λ (v : Bool). cond v n best) miss in omega (arith, e, before)
    ]

pub roomiest_below : (rooms : List ℕ) → 0 < length rooms → roomiest rooms < length rooms
unfolding roomiest
roomiest_below rooms some = best_below rooms (length rooms) some

-- ---- rooms keep their number

less_length : (s count : ℕ) (rooms : List ℕ) → length (less_room s count rooms) ≡ length rooms
less_length s count rooms = length-set rooms s (get_or rooms s 0 - count)

pub kept_length : (ps rooms new : List ℕ) → each_ok place_kept ps rooms ≡ Ok new → length new ≡ length rooms
kept_length [] rooms new is = ap length (sym (ok_is rooms new is))
kept_length (s ∷ ps) rooms new is =
    let parts = then_parts (place_kept s rooms) (each_ok place_kept ps) new is in
    let first = kept_yes s rooms parts.0 parts.1 in
    kept_length ps parts.0 new parts.2 ∙ ap length first.1 ∙ less_length s 1 rooms

-- ---- homes

abbrev pub HomesBelow : ℕ → List Home → Type 0
HomesBelow n [] = Unit {0}
HomesBelow n (home ∷ homes) = (home.boundary < n) × HomesBelow n homes

home_below : (n i s : ℕ) (homes : List Home) → HomesBelow n homes → home_of homes i ≡ Some s → s < n
home_below n i s [] below found = absurd (cc)
home_below n i s (home ∷ homes) below found = elim (cases_Bool (home.inode == i)) [
  | inl hit ↦
      let e : ◌≡◌ {A = Option ℕ} (Some home.boundary) (Some s) = sym (ap (λ (v : Bool). cond v (Some home.boundary) (home_of homes i)) hit) ∙ found in
      let same : home.boundary ≡ s = cc in
      let b = below.0 in omega (arith, b, same)
  | inr miss ↦ home_below n i s homes below.1 (sym (ap (λ (v : Bool). cond v (Some home.boundary) (home_of homes i)) miss) ∙ found)
]

with_below : (n : ℕ) (home : Home) (homes : List Home) → home.boundary < n → HomesBelow n homes → HomesBelow n (with_home home homes)
with_below n home [] low below = (low, tt)
with_below n home (first ∷ homes) low below = elim (cases_Bool (nat_lt home.inode first.inode)) [
  | inl hit ↦ subst (λ (v : Bool). HomesBelow n (cond v (home ∷ first ∷ homes) (first ∷ with_home home homes))) (sym hit) (low, (below.0, below.1))
  | inr miss ↦ subst (λ (v : Bool). HomesBelow n (cond v (home ∷ first ∷ homes) (first ∷ with_home home homes))) (sym miss) (below.0, with_below n home homes low below.1)
]

-- a home that joins is found, and so are those that were
with_finds : (home : Home) (homes : List Home) → is_some (home_of (with_home home homes) home.inode) ≡ true
with_finds home [] = ap (λ (v : Bool). is_some (cond v (Some home.boundary) None)) (same_test home.inode home.inode refl)
with_finds home (first ∷ homes) = elim (cases_Bool (nat_lt home.inode first.inode)) [
  | inl hit ↦
      ap (λ (v : Bool). is_some (home_of (cond v (home ∷ first ∷ homes) (first ∷ with_home home homes)) home.inode)) hit
      ∙ ap (λ (v : Bool). is_some (cond v (Some home.boundary) (home_of (first ∷ homes) home.inode))) (same_test home.inode home.inode refl)
  | inr miss ↦
      ap (λ (v : Bool). is_some (home_of (cond v (home ∷ first ∷ homes) (first ∷ with_home home homes)) home.inode)) miss
      ∙ (elim (cases_Bool (first.inode == home.inode)) [
        | inl at ↦ ap (λ (v : Bool). is_some (cond v (Some first.boundary) (home_of (with_home home homes) home.inode))) at
        | inr off ↦ ap (λ (v : Bool). is_some (cond v (Some first.boundary) (home_of (with_home home homes) home.inode))) off ∙ with_finds home homes
      ])
]

with_keeps : (home : Home) (homes : List Home) (i : ℕ) → is_some (home_of homes i) ≡ true → is_some (home_of (with_home home homes) i) ≡ true
with_keeps home [] i found = absurd (false≢true found)
with_keeps home (first ∷ homes) i found = elim (cases_Bool (nat_lt home.inode first.inode)) [
  | inl hit ↦
      ap (λ (v : Bool). is_some (home_of (cond v (home ∷ first ∷ homes) (first ∷ with_home home homes)) i)) hit
      ∙ (elim (cases_Bool (home.inode == i)) [
        | inl at ↦ ap (λ (v : Bool). is_some (cond v (Some home.boundary) (home_of (first ∷ homes) i))) at
        | inr off ↦ ap (λ (v : Bool). is_some (cond v (Some home.boundary) (home_of (first ∷ homes) i))) off ∙ found
      ])
  | inr miss ↦
      ap (λ (v : Bool). is_some (home_of (cond v (home ∷ first ∷ homes) (first ∷ with_home home homes)) i)) miss
      ∙ (elim (cases_Bool (first.inode == i)) [
        | inl at ↦ ap (λ (v : Bool). is_some (cond v (Some first.boundary) (home_of (with_home home homes) i))) at
        | inr off ↦
            ap (λ (v : Bool). is_some (cond v (Some first.boundary) (home_of (with_home home homes) i))) off
            ∙ with_keeps home homes i (sym (ap (λ (v : Bool). is_some (cond v (Some first.boundary) (home_of homes i))) off) ∙ found)
      ])
]

-- ---- what the steps keep

pub record AreWithin (n : ℕ) (placed : Placed) : Type 0 where
  pub size : length placed.rooms ≡ n
  pub homes : HomesBelow n placed.homes

-- a boundary with room for a block is one of the rooms
room_below : (s count : ℕ) (rooms : List ℕ) → 0 < count → has_room s count rooms ≡ true → s < length rooms
room_below s count rooms some enough = elim (cases_lt s (length rooms)) [
  | inl within ↦ within
  | inr past ↦ absurd (omega (arith, some, get_or_past rooms s 0 past, leb-true count (get_or rooms s 0) enough))
]

placed_within : (n i count s : ℕ) (placed : Placed) → s < n → AreWithin n placed → AreWithin n (placed_on i count s placed)
placed_within n i count s placed low within = record {
  size = less_length s count placed.rooms ∙ within.size;
  homes = with_below n (record { inode = i; boundary = s }) placed.homes low within.homes;
}

-- a file that has a home keeps one
abbrev pub Houses : ℕ → Placed → Type 0
Houses i placed = is_some (home_of placed.homes i) ≡ true

stay_within : (n : ℕ) (wants : List (Option Want)) (home : Home) (placed : Placed) → AreWithin n placed → AreWithin n (stay wants home placed)
unfolding stay
stay_within n wants home placed within =
    let count = length (blocks_of wants home.inode) in
    let test = nat_lt 0 count && has_room home.boundary count placed.rooms in
    elim (cases_Bool test) [
      | inl hit ↦
          let parts = and_parts (nat_lt 0 count) (has_room home.boundary count placed.rooms) hit in
          let low : home.boundary < n = let b = room_below home.boundary count placed.rooms (ltb-true 0 count parts.0) parts.1 in let size = within.size in omega (arith, b, size) in
          subst (λ (v : Bool). AreWithin n (cond v (placed_on home.inode count home.boundary placed) placed)) (sym hit) (placed_within n home.inode count home.boundary placed low within)
      | inr miss ↦ subst (λ (v : Bool). AreWithin n (cond v (placed_on home.inode count home.boundary placed) placed)) (sym miss) within
    ]

pub stays_within : (n : ℕ) (wants : List (Option Want)) (homes : List Home) (placed : Placed) → AreWithin n placed → AreWithin n (stay_all wants homes placed)
stays_within n wants [] placed within = within
stays_within n wants (home ∷ homes) placed within = stays_within n wants homes (stay wants home placed) (stay_within n wants home placed within)

beside_below : (n : ℕ) (test : Home → Bool) (homes : List Home) (home : Home) → HomesBelow n homes → find test homes ≡ Some home → home.boundary < n
beside_below n test [] home below found = absurd (cc)
beside_below n test (first ∷ homes) home below found = elim (cases_Bool (test first)) [
  | inl hit ↦
      let e : ◌≡◌ {A = Option Home} (Some first) (Some home) = sym (ap (λ (v : Bool). cond v (Some first) (find test homes)) hit) ∙ found in
      let same : first ≡ home = cc in
      subst (λ (h : Home). h.boundary < n) same below.0
  | inr miss ↦ beside_below n test homes home below.1 (sym (ap (λ (v : Bool). cond v (Some first) (find test homes)) miss) ∙ found)
]

for_below : (n count : ℕ) (by : Option Home) (rooms : List ℕ) → length rooms ≡ n → 0 < n → ((home : Home) → by ≡ Some home → home.boundary < n) → boundary_for count by rooms < n
for_below n count None rooms size some low = let b = roomiest_below rooms (omega (arith, size, some)) in omega (arith, b, size)
for_below n count (Some home) rooms size some low = elim (cases_Bool (has_room home.boundary count rooms)) [
  | inl hit ↦ let e = ap (λ (v : Bool). cond v home.boundary (roomiest rooms)) hit in let b = low home refl in omega (arith, e, b)
  | inr miss ↦ let e = ap (λ (v : Bool). cond v home.boundary (roomiest rooms)) miss in let b = roomiest_below rooms (omega (arith, size, some)) in omega (arith, e, b, size)
]

-- what one file's place is
record IsPut (i : ℕ) (n : ℕ) (placed new : Placed) : Type 0 where
  pub within : AreWithin n placed → AreWithin n new
  pub own : Houses i new
  pub others : (j : ℕ) → Houses j placed → Houses j new

file_put : (n : ℕ) (wants : List (Option Want)) (parents : List Parent) (i : ℕ) (placed new : Placed) → 0 < n → AreWithin n placed → place_file wants parents i placed ≡ Ok new → IsPut i n placed new
unfolding place_with
file_put n wants parents i placed new some within is =
    let count = length (blocks_of wants i) in
    let s = boundary_for count (beside parents i placed.homes) placed.rooms in
    let home : Home = record { inode = i; boundary = s } in
    elim (cases_Bool (has_room s count placed.rooms)) [
      | inl hit ↦
          let e : new ≡ placed_on i count s placed = ok_is new (placed_on i count s placed) (sym is ∙ ap (λ (v : Bool). cond v (Ok (placed_on i count s placed)) (Err (Inode i))) hit) in
          let low : s < n = for_below n count (beside parents i placed.homes) placed.rooms within.size some
          (λ h found. beside_below n (λ h. are_same (directory_of parents h.inode) (directory_of parents i)) placed.homes h within.homes found) in
          subst (λ (x : Placed). IsPut i n placed x) (sym e)
          (record {
            within = λ w. placed_within n i count s placed low w;
            own = with_finds home placed.homes;
            others = λ j found. with_keeps home placed.homes j found;
          })
      | inr miss ↦ absurd (not_ok (Inode i) new (sym (ap (λ (v : Bool). cond v (Ok (placed_on i count s placed)) (Err (Inode i))) miss) ∙ is))
    ]

pub record ArePut (files : List ℕ) (n : ℕ) (placed new : Placed) : Type 0 where
  pub within : AreWithin n new
  pub own : (i : ℕ) → has i files ≡ true → Houses i new
  pub others : (j : ℕ) → Houses j placed → Houses j new

pub files_put : (n : ℕ) (wants : List (Option Want)) (parents : List Parent) (files : List ℕ) (placed new : Placed) → 0 < n → AreWithin n placed → each_ok (place_file wants parents) files placed ≡ Ok new → ArePut files n placed new
files_put n wants parents [] placed new some within is =
    subst (λ (x : Placed). ArePut [] n placed x) (ok_is placed new is) (record { within = within; own = λ i there. absurd (false≢true there); others = λ j found. found })
files_put n wants parents (i ∷ files) placed new some within is =
    let parts = then_parts (place_file wants parents i placed) (each_ok (place_file wants parents) files) new is in
    let first = file_put n wants parents i placed parts.0 some within parts.1 in
    let rest = files_put n wants parents files parts.0 new some (first.within within) parts.2 in
    record {
      within = rest.within;
      own = λ j there. elim (or_cases (i == j) (has j files) there) [
        | inl at ↦ subst (λ (k : ℕ). Houses k new) (eqb-true i j at) (rest.others i first.own)
        | inr later ↦ rest.own j later
      ];
      others = λ j found. rest.others j (first.others j found);
    }

-- ---- the files that have blocks

pub number_own : (i : ℕ) (js : List ℕ) → has i (with_number i js) ≡ true
number_own i [] = has_head i i [] refl
number_own i (j ∷ js) = elim (cases_Bool (i == j)) [
  | inl at ↦ ap (λ (v : Bool). has i (cond v (j ∷ js) (cond (nat_lt i j) (i ∷ j ∷ js) (j ∷ with_number i js)))) at ∙ has_head i j js (sym (eqb-true i j at))
  | inr off ↦
      ap (λ (v : Bool). has i (cond v (j ∷ js) (cond (nat_lt i j) (i ∷ j ∷ js) (j ∷ with_number i js)))) off
      ∙ (elim (cases_Bool (nat_lt i j)) [
        | inl hit ↦ ap (λ (v : Bool). has i (cond v (i ∷ j ∷ js) (j ∷ with_number i js))) hit ∙ has_head i i (j ∷ js) refl
        | inr miss ↦ ap (λ (v : Bool). has i (cond v (i ∷ j ∷ js) (j ∷ with_number i js))) miss ∙ has_tail i j (with_number i js) (number_own i js)
      ])
]

has_keep : (x y : ℕ) (xs ys : List ℕ) → (has x xs ≡ true → has x ys ≡ true) → has x (y ∷ xs) ≡ true → has x (y ∷ ys) ≡ true
has_keep x y xs ys keeps there = elim (or_cases (y == x) (has x xs) there) [
  | inl at ↦ has_head x y ys (eqb-true y x at)
  | inr later ↦ has_tail x y ys (keeps later)
]

pub number_keeps : (i x : ℕ) (js : List ℕ) → has x js ≡ true → has x (with_number i js) ≡ true
number_keeps i x [] there = absurd (false≢true there)
number_keeps i x (j ∷ js) there = elim (cases_Bool (i == j)) [
  | inl at ↦ ap (λ (v : Bool). has x (cond v (j ∷ js) (cond (nat_lt i j) (i ∷ j ∷ js) (j ∷ with_number i js)))) at ∙ there
  | inr off ↦
      ap (λ (v : Bool). has x (cond v (j ∷ js) (cond (nat_lt i j) (i ∷ j ∷ js) (j ∷ with_number i js)))) off
      ∙ (elim (cases_Bool (nat_lt i j)) [
        | inl hit ↦ ap (λ (v : Bool). has x (cond v (i ∷ j ∷ js) (j ∷ with_number i js))) hit ∙ has_tail x i (j ∷ js) there
        | inr miss ↦ ap (λ (v : Bool). has x (cond v (i ∷ j ∷ js) (j ∷ with_number i js))) miss ∙ has_keep x j js (with_number i js) (number_keeps i x js) there
      ])
]

file_keeps_has : (x : ℕ) (want : Option Want) (files : List ℕ) → has x files ≡ true → has x (with_file want files) ≡ true
file_keeps_has x None files there = there
file_keeps_has x (Some Kept) files there = there
file_keeps_has x (Some (File i)) files there = number_keeps i x files there
file_keeps_has x (Some Stray) files there = there

-- a block's file is one of them
pub files_have : (wants : List (Option Want)) (b i : ℕ) → want_of wants b ≡ Some (File i) → has i (files_in wants) ≡ true
files_have [] b i is = absurd (cc)
files_have (want ∷ wants) zero i is = subst (λ (w : Option Want). has i (with_file w (files_in wants)) ≡ true) (sym is) (number_own i (files_in wants))
files_have (want ∷ wants) (suc b) i is = file_keeps_has i want (files_in wants) (files_have wants b i is)

waits : (wants : List (Option Want)) (placed : Placed) (i : ℕ) → has i (files_in wants) ≡ true → Houses i placed ⊎ (has i (waiting wants placed) ≡ true)
waits wants placed i there = elim (cases_Bool (is_some (home_of placed.homes i))) [
  | inl hit ↦ inl hit
  | inr miss ↦ inr (filter_has (λ j. not (is_some (home_of placed.homes j))) i (files_in wants) there (ap not miss))
]

-- ---- strays

abbrev pub PlacesBelow : ℕ → List Placement → Type 0
PlacesBelow n [] = Unit {0}
PlacesBelow n (p ∷ ps) = (p.boundary < n) × PlacesBelow n ps

second_below : (n b s : ℕ) (ps : List Placement) → PlacesBelow n ps → place_in ps b ≡ Some s → s < n
second_below n b s [] below found = absurd (cc)
second_below n b s (p ∷ ps) below found = elim (cases_Bool (p.block == b)) [
  | inl hit ↦
      let e : ◌≡◌ {A = Option ℕ} (Some p.boundary) (Some s) = sym (ap (λ (v : Bool). cond v (Some p.boundary) (place_in ps b)) hit) ∙ found in
      let same : p.boundary ≡ s = cc in
      let low = below.0 in omega (arith, low, same)
  | inr miss ↦ second_below n b s ps below.1 (sym (ap (λ (v : Bool). cond v (Some p.boundary) (place_in ps b)) miss) ∙ found)
]

pub record AreScattered (n : ℕ) (x : Scattered) : Type 0 where
  pub size : length x.rooms ≡ n
  pub places : PlacesBelow n x.places

abbrev pub Seats : ℕ → Scattered → Type 0
Seats b x = is_some (place_in x.places b) ≡ true

pub record AreSeated (bs : List ℕ) (n : ℕ) (old new : Scattered) : Type 0 where
  pub within : AreScattered n new
  pub own : (b : ℕ) → has b bs ≡ true → Seats b new
  pub others : (b : ℕ) → Seats b old → Seats b new

seat_found : (b c s : ℕ) (ps : List Placement) → is_some (place_in ps b) ≡ true → is_some (place_in (record { block = c; boundary = s } ∷ ps) b) ≡ true
seat_found b c s ps found = elim (cases_Bool (c == b)) [
  | inl at ↦ ap (λ (v : Bool). is_some (cond v (Some s) (place_in ps b))) at
  | inr off ↦ ap (λ (v : Bool). is_some (cond v (Some s) (place_in ps b))) off ∙ found
]

stray_seated : (n b : ℕ) (old new : Scattered) → 0 < n → AreScattered n old → place_stray b old ≡ Ok new → AreSeated (b ∷ []) n old new
unfolding place_stray
stray_seated n b old new some within is =
    let s = roomiest old.rooms in
    let next : Scattered = record { rooms = less_room s 1 old.rooms; places = record { block = b; boundary = s } ∷ old.places } in
    elim (cases_Bool (has_room s 1 old.rooms)) [
      | inl hit ↦
          let e : new ≡ next = ok_is new next (sym is ∙ ap (λ (v : Bool). cond v (Ok next) (Err Strays)) hit) in
          let size = within.size in
          let low : s < n = let r = roomiest_below old.rooms (omega (arith, size, some)) in omega (arith, r, size) in
          subst (λ (x : Scattered). AreSeated (b ∷ []) n old x) (sym e)
          (record {
            within = record { size = less_length s 1 old.rooms ∙ size; places = (low, within.places) };
            own = λ c there. elim (or_cases (b == c) false there) [
              | inl at ↦ ap (λ (v : Bool). is_some (cond v (Some s) (place_in old.places c))) at
              | inr never ↦ absurd (false≢true never)
            ];
            others = λ c found. seat_found c b s old.places found;
          })
      | inr miss ↦ absurd (not_ok Strays new (sym (ap (λ (v : Bool). cond v (Ok next) (Err Strays)) miss) ∙ is))
    ]

pub strays_seated : (n : ℕ) (bs : List ℕ) (old new : Scattered) → 0 < n → AreScattered n old → each_ok place_stray bs old ≡ Ok new → AreSeated bs n old new
strays_seated n [] old new some within is =
    subst (λ (x : Scattered). AreSeated [] n old x) (ok_is old new is) (record { within = within; own = λ b there. absurd (false≢true there); others = λ b found. found })
strays_seated n (b ∷ bs) old new some within is =
    let parts = then_parts (place_stray b old) (each_ok place_stray bs) new is in
    let first = stray_seated n b old parts.0 some within parts.1 in
    let rest = strays_seated n bs parts.0 new some first.within parts.2 in
    record {
      within = rest.within;
      own = λ c there. elim (or_cases (b == c) (has c bs) there) [
        | inl at ↦ rest.others c (first.own c (has_head c b [] (eqb-true b c at)))
        | inr later ↦ rest.own c later
      ];
      others = λ c found. rest.others c (first.others c found);
    }

-- ---- the whole

pub found_some : (o : Option ℕ) → is_some o ≡ true → (s : ℕ) × (o ≡ Some s)
found_some None e = absurd (false≢true e)
found_some (Some s) e = (s, refl)

places_below : (shape : Shape) (b a n : ℕ) → 0 < shape.b → AreBelow shape.b (map (λ i. (b + i) % shape.b) (range_with_len a n))
places_below shape b a zero some = tt
places_below shape b a (suc n) some = (omega arith, places_below shape b (a + 1) n some)

-- the first place of a kept block
first_place : (shape : Shape) (b m : ℕ) → m ≡ shape.m → 1 ≤ m → has ((b + 0) % shape.b) (map (λ i. (b + i) % shape.b) (range_with_len 0 m)) ≡ true
first_place shape b zero is some = absurd (omega arith)
first_place shape b (suc m) is some = has_head ((b + 0) % shape.b) ((b + 0) % shape.b) (map (λ i. (b + i) % shape.b) (range_with_len 1 m)) refl

-- homes of placed files are boundaries of the array
pub placed_low : (shape : Shape) (wants : List (Option Want)) (parents : List Parent) (homes : List Home) (rooms : List ℕ) (placed : Placed) → IsShape shape
    → kept_placed shape wants (replicate shape.b shape.k) ≡ Ok rooms
    → files_placed wants parents homes rooms ≡ Ok placed → (i s : ℕ) → home_of placed.homes i ≡ Some s → s < shape.b
placed_low shape wants parents homes rooms placed limits kept files i s found =
    let least = limits.least_boundaries in
    let some : 0 < shape.b = omega arith in
    let start : Placed = record { rooms = rooms; homes = [] } in
    let first : AreWithin shape.b start = record { size = kept_length _ _ rooms kept ∙ length-replicate shape.b shape.k; homes = tt } in
    let stayed = stay_all wants homes start in
    home_below shape.b i s placed.homes
    (files_put shape.b wants parents (waiting wants stayed) stayed placed some (stays_within shape.b wants homes start first) files).within.homes found

module _ (shape : Shape) (wants : List (Option Want)) (parents : List Parent) (homes : List Home) (p : Plan) (limits : IsShape shape) (is : plan shape wants parents homes ≡ Ok p) where
  abbrev steps : HasSteps shape wants parents homes p
  steps = steps_of shape wants parents homes p is

  some_boundaries : 0 < shape.b
  some_boundaries = let least = limits.least_boundaries in omega arith

  first_within : AreWithin shape.b (record { rooms = steps.rooms; homes = [] })
  first_within = record { size = kept_length _ _ steps.rooms steps.first ∙ length-replicate shape.b shape.k; homes = tt }

  files_all : ArePut (waiting wants (stay_all wants homes (record { rooms = steps.rooms; homes = [] }))) shape.b (stay_all wants homes (record { rooms = steps.rooms; homes = [] })) steps.placed
  files_all =
      files_put shape.b wants parents (waiting wants (stay_all wants homes (record { rooms = steps.rooms; homes = [] }))) (stay_all wants homes (record { rooms = steps.rooms; homes = [] })) steps.placed some_boundaries
      (stays_within shape.b wants homes (record { rooms = steps.rooms; homes = [] }) first_within) steps.third

  strays_all : AreSeated (blocks_with is_stray wants) shape.b (record { rooms = steps.placed.rooms; places = [] }) steps.scattered
  strays_all = strays_seated shape.b (blocks_with is_stray wants) (record { rooms = steps.placed.rooms; places = [] }) steps.scattered some_boundaries (record { size = files_all.within.size; places = tt }) steps.fourth

  -- each file with a block has a home
  pub listed_housed : (i : ℕ) → has i (files_in wants) ≡ true → is_some (home_of p.homes i) ≡ true
  listed_housed i there =
      ap (λ (q : Plan). is_some (home_of q.homes i)) steps.made
      ∙ (elim (waits wants (stay_all wants homes (record { rooms = steps.rooms; homes = [] })) i there) [
        | inl housed ↦ files_all.others i housed
        | inr waiting ↦ files_all.own i waiting
      ])

  pub file_housed : (b i : ℕ) → want_of wants b ≡ Some (File i) → is_some (home_of p.homes i) ≡ true
  file_housed b i want = listed_housed i (files_have wants b i want)

  inside : (b : ℕ) (want : Want) → want_of wants b ≡ Some want → b < length wants
  inside b want e = elim (cases_lt b (length wants)) [
    | inl within ↦ within
    | inr past ↦ let none : want_of wants b ≡ None = get_or_past wants b None past in absurd (cc)
  ]

  pub stray_seat : (b : ℕ) → want_of wants b ≡ Some Stray → is_some (place_in p.strays b) ≡ true
  stray_seat b want =
      ap (λ (q : Plan). is_some (place_in q.strays b)) steps.made
      ∙ strays_all.own b
      (filter_has (λ c. is_stray (want_of wants c)) b (range_with_len 0 (length wants)) (range_has 0 (length wants) b (omega arith) (let w = inside b Stray want in omega (arith, w))) (ap is_stray want))

  -- each written block has a target
  pub some_target : (b : ℕ) (want : Want) → want_of wants b ≡ Some want → (t : ℕ) × (has t (targets_by shape p b (want_of wants b)) ≡ true)
  some_target b want e = subst (λ (w : Option Want). (t : ℕ) × (has t (targets_by shape p b w) ≡ true)) (sym e) (by_want want e)
    where
      by_want : (w : Want) → want_of wants b ≡ Some w → (t : ℕ) × (has t (targets_by shape p b (Some w)) ≡ true)
      by_want Kept f = ((b + 0) % shape.b, first_place shape b shape.m refl limits.least_places)
      by_want (File i) f =
          let s = found_some (home_of p.homes i) (file_housed b i f) in
          (s.0, ap (λ (o : Option ℕ). has s.0 (option_to_list o)) s.1 ∙ has_head s.0 s.0 [] refl)
      by_want Stray f =
          let s = found_some (place_in p.strays b) (stray_seat b f) in
          (s.0, ap (λ (o : Option ℕ). has s.0 (option_to_list o)) s.1 ∙ has_head s.0 s.0 [] refl)

  -- homes are boundaries of the array
  pub home_within : (i s : ℕ) → home_of p.homes i ≡ Some s → s < shape.b
  home_within i s found = home_below shape.b i s steps.placed.homes files_all.within.homes (sym (ap (λ (q : Plan). home_of q.homes i) steps.made) ∙ found)

  -- targets are boundaries of the array
  pub target_below : (b t : ℕ) → has t (targets_by shape p b (want_of wants b)) ≡ true → t < shape.b
  target_below b t there = by_want (want_of wants b) there
    where
      of_option : (o : Option ℕ) → ((s : ℕ) → o ≡ Some s → s < shape.b) → has t (option_to_list o) ≡ true → t < shape.b
      of_option None low on = absurd (false≢true on)
      of_option (Some s) low on = let e : s ≡ t = eqb-true s t (sym (is_at_some t s) ∙ on) in let l = low s refl in omega (arith, l, e)

      by_want : (w : Option Want) → has t (targets_by shape p b w) ≡ true → t < shape.b
      by_want None on = absurd (false≢true on)
      by_want (Some Kept) on = below_of shape.b t (places_of shape b) (places_below shape b 0 shape.m some_boundaries) on
      by_want (Some (File i)) on = of_option (home_of p.homes i) (λ s found. home_below shape.b i s steps.placed.homes files_all.within.homes (sym (ap (λ (q : Plan). home_of q.homes i) steps.made) ∙ found)) on
      by_want (Some Stray) on = of_option (place_in p.strays b) (λ s found. second_below shape.b b s steps.scattered.places strays_all.within.places (sym (ap (λ (q : Plan). place_in q.strays b) steps.made) ∙ found)) on
