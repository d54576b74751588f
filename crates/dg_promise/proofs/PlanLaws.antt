-- The homes that a plan gives: just the files with written blocks have one, and they ascend.
use Rattle.std.proofs.Common.{◌≡◌, ◌≢◌, ◌∙◌, ◌⊎◌, ◌&&◌, ◌==◌, ℕ, suc, ◌<◌, ◌≤◌, inl, inr, Bool, true, not, List, [], ◌∷◌, Option, Some, None, Result, Ok, Err, refl, sym, ap, subst, arith}
use Rattle.std.specs.Prelude.{Contains, is_some, nat_lt, replicate}
use Rattle.std.specs.List.{filter, flat_map}
use Rattle.std.proofs.lemmas.Bool.{and_parts, cases_Bool, false≢true, ltb-true}
use Rattle.std.proofs.lemmas.Bool.Decides.{nat_tests}
use Rattle.std.proofs.lemmas.List.Elements.{Contains-append_cases, Contains-append_right}
use Rattle.dg_model.specs.Homes.{Ascend, home_of}
use Rattle.dg_model.specs.Plans.{Placed, Plan, beside, blocks_with, boundary_for, count_of, each_ok, files_in, has_room, is_kept, is_stray, place_file, place_kept, place_stray, place_with, placed_on, places_of, plan, stay, stay_all, then_ok, waiting, with_number}
use Rattle.dg_model.specs.Wants.{want_of}
use Rattle.dg_model.specs.declared.homes.Home.{Home}
use Rattle.dg_model.specs.declared.parents.Parent.{Parent}
use Rattle.dg_model.specs.declared.shapes.Shape.{Shape}
use Rattle.dg_model.specs.declared.wants.NoRoom.TheVariants.{Inode}
use Rattle.dg_model.specs.declared.wants.Want.{Want}
use Rattle.dg_model.specs.declared.wants.Want.TheVariants.{File, Kept, Stray}
use Rattle.dg_model.proofs.HomeLaws.{AscendFrom, Ascending, ascending_from, home_others, with_ascends}
use Rattle.dg_model.proofs.NumberLists.{head_in}
use Rattle.dg_promise.proofs.WantLaws.{block_counts}

-- ---- results

ok_is : {S E : Type 0} (a b : S) → ◌≡◌ {A = Result S E} (Ok a) (Ok b) → a ≡ b
ok_is a b e = cc

not_ok : {S E : Type 0} (e : E) (b : S) → ◌≡◌ {A = Result S E} (Err e) (Ok b) → ⊥
not_ok e b is = cc

then_parts : {S T E : Type 0} (r : Result S E) (step : S → Result T E) (t : T) → then_ok r step ≡ Ok t → (s : S) × (r ≡ Ok s) × (step s ≡ Ok t)
then_parts (Ok s) step t is = (s, refl, is)
then_parts (Err e) step t is = absurd (not_ok e t is)

-- ---- the files of blocks

-- numbers above one, each above the one before
unfoldable pub RiseFrom : ℕ → List ℕ → Type 0
RiseFrom n [] = Unit {0}
RiseFrom n (i ∷ is) = (n ≤ i) × RiseFrom (suc i) is

pub head_or_tail : (x y : ℕ) (ys : List ℕ) → Contains (y ∷ ys) x → (x ≡ y) ⊎ Contains ys x
head_or_tail x y ys h = elim (Contains-append_cases (y ∷ []) ys x h) [
  | inl first ↦ inl (let place : first.0 ≡ 0 = let low = first.1 in omega arith in sym (rw place at first.2))
  | inr later ↦ inr later
]

pub in_tail : (x y : ℕ) (ys : List ℕ) → Contains ys x → Contains (y ∷ ys) x
in_tail x y ys h = Contains-append_right (y ∷ []) ys x h

rise_lower : (n m : ℕ) (is : List ℕ) → n ≤ m → RiseFrom m is → RiseFrom n is
unfolding RiseFrom
rise_lower n m [] low rise = tt
rise_lower n m (i ∷ is) low rise = (let h = rise.0 in omega arith, rise.1)

pub rise_above : (n x : ℕ) (is : List ℕ) → RiseFrom n is → Contains is x → n ≤ x
unfolding RiseFrom
rise_above n x [] rise has = let low = has.1 in absurd (omega arith)
rise_above n x (i ∷ is) rise has = elim (head_or_tail x i is has) [
  | inl here ↦ let low = rise.0 in omega arith
  | inr later ↦ let low = rise.0 in let high = rise_above (suc i) x is rise.1 later in omega arith
]

-- a number among rising ones
rise_with : (n j : ℕ) (is : List ℕ) → n ≤ j → RiseFrom n is → RiseFrom n (with_number j is)
unfolding RiseFrom
rise_with n j [] low rise = (low, tt)
rise_with n j (i ∷ is) low rise = elim (cases_Bool (j == i)) [
  | inl same ↦ rw same rise
  | inr apart ↦ elim (cases_Bool (nat_lt j i)) [
    | inl less ↦ let lt : j < i = ltb-true j i less in rw (apart, less) (low, (omega arith, rise.1))
    | inr more ↦ let gt : suc i ≤ j = grind (arith, nat_tests) in rw (apart, more) (rise.0, rise_with (suc i) j is gt rise.1)
  ]
]

with_has : (j x : ℕ) (is : List ℕ) → Contains (with_number j is) x → (x ≡ j) ⊎ Contains is x
with_has j x [] has = head_or_tail x j [] has
with_has j x (i ∷ is) has = elim (cases_Bool (j == i)) [
  | inl same ↦ inr (rw same at has)
  | inr apart ↦ elim (cases_Bool (nat_lt j i)) [
    | inl less ↦ head_or_tail x j (i ∷ is) (rw (apart, less) at has)
    | inr more ↦ elim (head_or_tail x i (with_number j is) (rw (apart, more) at has)) [
      | inl first ↦ inr (subst (λ (k : ℕ). Contains (i ∷ is) k) (sym first) (head_in i is))
      | inr later ↦ elim (with_has j x is later) [
        | inl own ↦ inl own
        | inr old ↦ inr (in_tail x i is old)
      ]
    ]
  ]
]

pub files_rise : (wants : List (Option Want)) → RiseFrom 0 (files_in wants)
unfolding RiseFrom
files_rise [] = tt
files_rise (None ∷ wants) = files_rise wants
files_rise (Some Kept ∷ wants) = files_rise wants
files_rise (Some (File i) ∷ wants) = rise_with 0 i (files_in wants) (omega arith) (files_rise wants)
files_rise (Some Stray ∷ wants) = files_rise wants

-- a file of blocks has a block
file_has : (wants : List (Option Want)) (i : ℕ) → Contains (files_in wants) i → (b : ℕ) × (want_of wants b ≡ Some (File i))
file_has [] i has = let low = has.1 in absurd (omega arith)
file_has (None ∷ wants) i has = let one = file_has wants i has in (suc one.0, one.1)
file_has (Some Kept ∷ wants) i has = let one = file_has wants i has in (suc one.0, one.1)
file_has (Some (File j) ∷ wants) i has = elim (with_has j i (files_in wants) has) [
  | inl own ↦ (0, ap (λ (k : ℕ). Some (File k)) (sym own))
  | inr old ↦ let one = file_has wants i old in (suc one.0, one.1)
]
file_has (Some Stray ∷ wants) i has = let one = file_has wants i has in (suc one.0, one.1)

file_counts : (wants : List (Option Want)) (i : ℕ) → Contains (files_in wants) i → 0 < count_of wants i
file_counts wants i has = let one = file_has wants i has in block_counts wants one.0 i one.1

pub rise_filter : (test : ℕ → Bool) (n : ℕ) (is : List ℕ) → RiseFrom n is → RiseFrom n (filter test is)
unfolding RiseFrom
rise_filter test n [] rise = tt
rise_filter test n (i ∷ is) rise = elim (cases_Bool (test i)) [
  | inl passes ↦ rw passes (rise.0, rise_filter test (suc i) is rise.1)
  | inr fails ↦ rw fails (let low = rise.0 in rise_lower n (suc i) (filter test is) (omega arith) (rise_filter test (suc i) is rise.1))
]

pub in_filter : (test : ℕ → Bool) (x : ℕ) (is : List ℕ) → Contains (filter test is) x → Contains is x × (test x ≡ true)
in_filter test x [] has = let low = has.1 in absurd (omega arith)
in_filter test x (i ∷ is) has = elim (cases_Bool (test i)) [
  | inl passes ↦ elim (head_or_tail x i (filter test is) (rw passes at has)) [
    | inl here ↦ (subst (λ (k : ℕ). Contains (i ∷ is) k) (sym here) (head_in i is), ap test here ∙ passes)
    | inr later ↦ let rest = in_filter test x is later in (in_tail x i is rest.0, rest.1)
  ]
  | inr fails ↦ let rest = in_filter test x is (rw fails at has) in (in_tail x i is rest.0, rest.1)
]

-- ---- placed files

-- each file with a home has blocks, and the homes ascend
record AreGood (wants : List (Option Want)) (placed : Placed) : Type 0 where
  some : (i : ℕ) → is_some (home_of placed.homes i) ≡ true → 0 < count_of wants i
  ascend : Ascend placed.homes

good_put : (wants : List (Option Want)) (i count s : ℕ) (placed : Placed) → 0 < count_of wants i → home_of placed.homes i ≡ None → AreGood wants placed → AreGood wants (placed_on i count s placed)
good_put wants i count s placed some none good = record {
  some = λ j found. elim (differs i j) [
    | inl own ↦ subst (λ (k : ℕ). 0 < count_of wants k) own some
    | inr other ↦ good.some j (ap is_some (sym (home_others (record { inode = i; boundary = s }) placed.homes j other)) ∙ found)
  ];
  ascend = with_ascends (record { inode = i; boundary = s }) placed.homes none good.ascend;
}
  where
    differs : (a b : ℕ) → (a ≡ b) ⊎ (a ≢ b)
    differs a b = elim (cases_Bool (a == b)) [
      | inl same ↦ inl (grind (arith, nat_tests))
      | inr apart ↦ inr (λ (is : a ≡ b). grind (arith, nat_tests))
    ]

-- each home that is left has an inode that isn't placed
abbrev pub NonePlaced : Placed → List Home → Type 0
NonePlaced placed [] = Unit {0}
NonePlaced placed (home ∷ homes) = (home_of placed.homes home.inode ≡ None) × NonePlaced placed homes

pub none_put : (n i count s : ℕ) (placed : Placed) (homes : List Home) → i ≤ n → AscendFrom n homes → NonePlaced placed homes → NonePlaced (placed_on i count s placed) homes
none_put n i count s placed [] low up none = tt
none_put n i count s placed (home ∷ homes) low up none = (
  home_others (record { inode = i; boundary = s }) placed.homes home.inode (λ (is : i ≡ home.inode). let high = up.0 in absurd (omega arith)) ∙ none.0,
  none_put home.inode i count s placed homes (let high = up.0 in omega arith) up.1 none.1,
)

good_stay : (wants : List (Option Want)) (home : Home) (placed : Placed) (homes : List Home) → AscendFrom home.inode homes → NonePlaced placed (home ∷ homes) → AreGood wants placed
    → AreGood wants (stay wants home placed) × NonePlaced (stay wants home placed) homes
unfolding stay
good_stay wants home placed homes up none good = elim (cases_Bool (nat_lt 0 (count_of wants home.inode) && has_room home.boundary (count_of wants home.inode) placed.rooms)) [
  | inl stays ↦
      let some : 0 < count_of wants home.inode = ltb-true 0 (count_of wants home.inode) (and_parts (nat_lt 0 (count_of wants home.inode)) (has_room home.boundary (count_of wants home.inode) placed.rooms) stays).0 in
      rw stays (
        good_put wants home.inode (count_of wants home.inode) home.boundary placed some none.0 good,
        none_put home.inode home.inode (count_of wants home.inode) home.boundary placed homes (omega arith) up none.1,
      )
  | inr goes ↦ rw goes (good, none.1)
]

good_stays : (wants : List (Option Want)) (homes : List Home) (placed : Placed) → Ascending homes → NonePlaced placed homes → AreGood wants placed → AreGood wants (stay_all wants homes placed)
good_stays wants [] placed up none good = good
good_stays wants (home ∷ homes) placed up none good =
    let next = good_stay wants home placed homes up none good in
    good_stays wants homes (stay wants home placed) (later homes up) next.1 next.0
  where
    later : (homes : List Home) → AscendFrom home.inode homes → Ascending homes
    later [] up = tt
    later (next ∷ homes) up = up.1

pub none_at_first : (rooms : List ℕ) (homes : List Home) → NonePlaced (record { rooms = rooms; homes = [] }) homes
none_at_first rooms [] = tt
none_at_first rooms (home ∷ homes) = (refl, none_at_first rooms homes)

-- ---- files without a home

good_file : (wants : List (Option Want)) (parents : List Parent) (i : ℕ) (placed new : Placed) → 0 < count_of wants i → home_of placed.homes i ≡ None → place_file wants parents i placed ≡ Ok new
    → AreGood wants placed → AreGood wants new × ((j : ℕ) → i ≢ j → home_of placed.homes j ≡ None → home_of new.homes j ≡ None)
unfolding place_with
good_file wants parents i placed new some none is good =
    let count = count_of wants i in
    let s = boundary_for (count_of wants i) (beside parents i placed.homes) placed.rooms in
    elim (cases_Bool (has_room (boundary_for (count_of wants i) (beside parents i placed.homes) placed.rooms) (count_of wants i) placed.rooms)) [
      | inl fits ↦
          let same : placed_on i (count_of wants i) (boundary_for (count_of wants i) (beside parents i placed.homes) placed.rooms) placed ≡ new = ok_is _ new (rw fits at is) in
          subst (λ (p : Placed). AreGood wants p × ((j : ℕ) → i ≢ j → home_of placed.homes j ≡ None → home_of p.homes j ≡ None)) same (
            good_put wants i count s placed some none good,
            λ j other before. home_others (record { inode = i; boundary = s }) placed.homes j other ∙ before,
          )
      | inr full ↦ absurd (not_ok (Inode i) new (rw full at is))
    ]

good_files : (wants : List (Option Want)) (parents : List Parent) (n : ℕ) (files : List ℕ) (placed new : Placed) → RiseFrom n files → ((i : ℕ) → Contains files i → 0 < count_of wants i)
    → ((i : ℕ) → Contains files i → home_of placed.homes i ≡ None) → each_ok (place_file wants parents) files placed ≡ Ok new → AreGood wants placed → AreGood wants new
unfolding RiseFrom
good_files wants parents n [] placed new rise some none is good = subst (AreGood wants) (ok_is placed new is) good
good_files wants parents n (i ∷ files) placed new rise some none is good =
    let parts = then_parts (place_file wants parents i placed) (each_ok (place_file wants parents) files) new is in
    let next = good_file wants parents i placed parts.0 (some i (head_in i files)) (none i (head_in i files)) parts.1 good in
    good_files wants parents (suc i) files parts.0 new rise.1 (λ j has. some j (in_tail j i files has))
    (λ j has. next.1 j (λ (same : i ≡ j). let high = rise_above (suc i) j files rise.1 has in absurd (omega arith)) (none j (in_tail j i files has)))
    parts.2 next.0

pub not_some : (found : Option ℕ) → not (is_some found) ≡ true → found ≡ None
not_some None h = refl
not_some (Some s) h = absurd (false≢true h)

-- ---- the homes of a plan

pub good_plan : (shape : Shape) (wants : List (Option Want)) (parents : List Parent) (homes : List Home) (found : Plan) → Ascend homes → plan shape wants parents homes ≡ Ok found
    → ((i : ℕ) → is_some (home_of found.homes i) ≡ true → 0 < count_of wants i) × Ascend found.homes
unfolding plan
good_plan shape wants parents homes found up is =
    let one = then_parts (each_ok place_kept (flat_map (places_of shape) (blocks_with is_kept wants)) (replicate shape.b shape.k)) _ found is in
    let start : Placed = record { rooms = one.0; homes = [] } in
    let stayed = stay_all wants homes (record { rooms = one.0; homes = [] }) in
    let two = then_parts (each_ok (place_file wants parents) (waiting wants (stay_all wants homes (record { rooms = one.0; homes = [] }))) (stay_all wants homes (record { rooms = one.0; homes = [] }))) _ found one.2 in
    let three = then_parts (each_ok place_stray (blocks_with is_stray wants) (record { rooms = two.0.rooms; places = [] })) _ found two.2 in
    let made = ok_is (record { homes = two.0.homes; strays = three.0.places }) found three.2 in
    let first = good_stays wants homes start (ascending_from homes up) (none_at_first one.0 homes) (record { some = λ i none. absurd (false≢true none); ascend = λ k low. absurd (omega arith) }) in
    let good = good_files wants parents 0 (waiting wants stayed) stayed two.0 (rise_filter _ 0 (files_in wants) (files_rise wants))
    (λ i has. file_counts wants i (in_filter _ i (files_in wants) has).0)
    (λ i has. not_some (home_of stayed.homes i) (in_filter _ i (files_in wants) has).1) two.1 first in
    subst (λ (p : Plan). ((i : ℕ) → is_some (home_of p.homes i) ≡ true → 0 < count_of wants i) × Ascend p.homes) {x = record { homes = two.0.homes; strays = three.0.places }} made (good.some, good.ascend)
