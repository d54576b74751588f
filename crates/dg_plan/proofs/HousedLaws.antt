-- Just the files that have a written block have homes.
use Rattle.std.proofs.Common.{◌≡◌, ◌<◌, ◌+◌, ◌==◌, ◌&&◌, ◌⊎◌, ℕ, Bool, true, false, cond, List, [], ◌∷◌, inl, inr, refl, sym, ◌∙◌, ap, subst, arith}
use Rattle.std.specs.Prelude.{Option, Some, None, Ok, Err, count_by, is_some, nat_lt}
use Rattle.std.specs.List.{filter}
use Rattle.std.proofs.lemmas.Bool.{and_parts, cases_Bool, cases_eq, eqb-true, false≢true, ltb-true, or_cases}
use Rattle.std.proofs.lemmas.List.Sums.{sum_by-cons}
use Rattle.dg_model.proofs.SiteLists.{apart_test, same_test}
use Rattle.dg_model.specs.Homes.{home_of}
use Rattle.dg_model.specs.Plans.{Placed, Plan, beside, boundary_for, count_of, each_ok, files_in, has_room, is_file, place_file, place_with, placed_on, plan, stay, stay_all, waiting, with_number}
use Rattle.dg_model.specs.declared.homes.Home.{Home}
use Rattle.dg_model.specs.declared.parents.Parent.{Parent}
use Rattle.dg_model.specs.declared.shapes.Shape.{Shape}
use Rattle.dg_model.specs.declared.wants.NoRoom.TheVariants.{Inode}
use Rattle.dg_model.specs.declared.wants.Want.{Want}
use Rattle.dg_model.specs.declared.wants.Want.TheVariants.{Kept, File, Stray}
use Rattle.dg_plan.proofs.FileLaws.{blocks_same, counted}
use Rattle.dg_plan.proofs.PlaceLaws.{has, has_head, has_tail, number_keeps, number_own}
use Rattle.dg_plan.proofs.RoomLaws.{not_ok, ok_is, then_parts}
use Rattle.dg_plan.proofs.StayLaws.{with_other}
use Rattle.dg_plan.proofs.SumLaws.{none_at, one_at}
use Rattle.dg_plan.proofs.TargetLaws.{HasSteps, steps_of}

-- ---- files and counts

number_only : (i j : ℕ) (js : List ℕ) → has i (with_number j js) ≡ true → (j ≡ i) ⊎ (has i js ≡ true)
number_only i j [] there = elim (or_cases (j == i) false there) [ inl at ↦ inl (eqb-true j i at) | inr never ↦ absurd (false≢true never) ]
number_only i j (k ∷ js) there = elim (cases_Bool (j == k)) [
  | inl at ↦ inr (sym (ap (λ (v : Bool). has i (cond v (k ∷ js) (cond (nat_lt j k) (j ∷ k ∷ js) (k ∷ with_number j js)))) at) ∙ there)
  | inr off ↦
      let later : has i (cond (nat_lt j k) (j ∷ k ∷ js) (k ∷ with_number j js)) ≡ true = sym (ap (λ (v : Bool). has i (cond v (k ∷ js) (cond (nat_lt j k) (j ∷ k ∷ js) (k ∷ with_number j js)))) off) ∙ there in
      elim (cases_Bool (nat_lt j k)) [
        | inl hit ↦ elim (or_cases (j == i) (has i (k ∷ js)) (sym (ap (λ (v : Bool). has i (cond v (j ∷ k ∷ js) (k ∷ with_number j js))) hit) ∙ later)) [
          | inl own ↦ inl (eqb-true j i own)
          | inr rest ↦ inr rest
        ]
        | inr miss ↦ elim (or_cases (k == i) (has i (with_number j js)) (sym (ap (λ (v : Bool). has i (cond v (j ∷ k ∷ js) (k ∷ with_number j js))) miss) ∙ later)) [
          | inl own ↦ inr (has_head i k js (eqb-true k i own))
          | inr rest ↦ elim (number_only i j js rest) [ inl own ↦ inl own | inr old ↦ inr (has_tail i k js old) ]
        ]
      ]
]

one_more : (i : ℕ) (want : Option Want) (wants : List (Option Want)) → count_by (is_file i) (want ∷ wants) ≡ cond (is_file i want) 1 0 + count_by (is_file i) wants
one_more i want wants = sum_by-cons (λ (w : Option Want). cond (is_file i w) 1 0) want wants

counted_if : (i : ℕ) (wants : List (Option Want)) → has i (files_in wants) ≡ true → 0 < count_by (is_file i) wants
counted_if i [] there = absurd (false≢true there)
counted_if i (None ∷ wants) there = omega (arith, one_more i None wants, counted_if i wants there)
counted_if i (Some Kept ∷ wants) there = omega (arith, one_more i (Some Kept) wants, counted_if i wants there)
counted_if i (Some (File j) ∷ wants) there = elim (number_only i j (files_in wants) there) [
  | inl own ↦ omega (arith, one_more i (Some (File j)) wants, one_at (j == i) 1 (same_test j i own))
  | inr old ↦ omega (arith, one_more i (Some (File j)) wants, counted_if i wants old)
]
counted_if i (Some Stray ∷ wants) there = omega (arith, one_more i (Some Stray) wants, counted_if i wants there)

only_counted : (i : ℕ) (wants : List (Option Want)) → 0 < count_by (is_file i) wants → has i (files_in wants) ≡ true
only_counted i [] some = absurd (omega (arith, some))
only_counted i (None ∷ wants) some = only_counted i wants (omega (arith, some, one_more i None wants))
only_counted i (Some Kept ∷ wants) some = only_counted i wants (omega (arith, some, one_more i (Some Kept) wants))
only_counted i (Some (File j) ∷ wants) some = elim (cases_eq j i) [
  | inl own ↦ subst (λ (k : ℕ). has k (with_number j (files_in wants)) ≡ true) own (number_own j (files_in wants))
  | inr off ↦ number_keeps j i (files_in wants) (only_counted i wants (omega (arith, some, one_more i (Some (File j)) wants, none_at (j == i) 1 (apart_test j i off))))
]
only_counted i (Some Stray ∷ wants) some = only_counted i wants (omega (arith, some, one_more i (Some Stray) wants))

same_count : (wants : List (Option Want)) (i : ℕ) → count_of wants i ≡ count_by (is_file i) wants
same_count wants i = sym (blocks_same wants i) ∙ counted wants i

pub listed : (wants : List (Option Want)) (i : ℕ) → 0 < count_of wants i → has i (files_in wants) ≡ true
listed wants i some = only_counted i wants (omega (arith, some, same_count wants i))

some_blocks : (wants : List (Option Want)) (i : ℕ) → has i (files_in wants) ≡ true → 0 < count_of wants i
some_blocks wants i there = omega (arith, same_count wants i, counted_if i wants there)

-- ---- each file with a home has blocks

abbrev AreOfFiles : List (Option Want) → Placed → Type 0
AreOfFiles wants placed = (i : ℕ) → is_some (home_of placed.homes i) ≡ true → 0 < count_of wants i

put_keeps : (wants : List (Option Want)) (i s : ℕ) (placed : Placed) → 0 < count_of wants i → AreOfFiles wants placed → AreOfFiles wants (placed_on i (count_of wants i) s placed)
put_keeps wants i s placed some are j found = elim (cases_eq i j) [
  | inl own ↦ subst (λ (k : ℕ). 0 < count_of wants k) own some
  | inr off ↦ are j (ap is_some (sym (with_other (record { inode = i; boundary = s }) placed.homes j off)) ∙ found)
]

stay_keeps : (wants : List (Option Want)) (home : Home) (placed : Placed) → AreOfFiles wants placed → AreOfFiles wants (stay wants home placed)
unfolding stay
stay_keeps wants home placed are =
    let count = count_of wants home.inode in
    elim (cases_Bool (nat_lt 0 count && has_room home.boundary count placed.rooms)) [
      | inl hit ↦
          let some = ltb-true 0 count (and_parts (nat_lt 0 count) (has_room home.boundary count placed.rooms) hit).0 in
          subst (λ (v : Bool). AreOfFiles wants (cond v (placed_on home.inode count home.boundary placed) placed)) (sym hit) (put_keeps wants home.inode home.boundary placed some are)
      | inr miss ↦ subst (λ (v : Bool). AreOfFiles wants (cond v (placed_on home.inode count home.boundary placed) placed)) (sym miss) are
    ]

stays_keep : (wants : List (Option Want)) (homes : List Home) (placed : Placed) → AreOfFiles wants placed → AreOfFiles wants (stay_all wants homes placed)
stays_keep wants [] placed are = are
stays_keep wants (home ∷ homes) placed are = stays_keep wants homes (stay wants home placed) (stay_keeps wants home placed are)

file_keeps : (wants : List (Option Want)) (parents : List Parent) (i : ℕ) (placed new : Placed) → 0 < count_of wants i → place_file wants parents i placed ≡ Ok new → AreOfFiles wants placed → AreOfFiles wants new
unfolding place_with
file_keeps wants parents i placed new some is are =
    let count = count_of wants i in
    let s = boundary_for count (beside parents i placed.homes) placed.rooms in
    elim (cases_Bool (has_room s count placed.rooms)) [
      | inl hit ↦
          let e : new ≡ placed_on i count s placed = ok_is new (placed_on i count s placed) (sym is ∙ ap (λ (v : Bool). cond v (Ok (placed_on i count s placed)) (Err (Inode i))) hit) in
          subst (λ (q : Placed). AreOfFiles wants q) (sym e) (put_keeps wants i s placed some are)
      | inr miss ↦ absurd (not_ok (Inode i) new (sym (ap (λ (v : Bool). cond v (Ok (placed_on i count s placed)) (Err (Inode i))) miss) ∙ is))
    ]

files_keep : (wants : List (Option Want)) (parents : List Parent) (files : List ℕ) (placed new : Placed) → ((i : ℕ) → has i files ≡ true → 0 < count_of wants i) → each_ok (place_file wants parents) files placed ≡ Ok new
    → AreOfFiles wants placed → AreOfFiles wants new
files_keep wants parents [] placed new each is are = subst (λ (q : Placed). AreOfFiles wants q) (ok_is placed new is) are
files_keep wants parents (i ∷ files) placed new each is are =
    let parts = then_parts (place_file wants parents i placed) (each_ok (place_file wants parents) files) new is in
    files_keep wants parents files parts.0 new (λ j there. each j (has_tail j i files there)) parts.2
    (file_keeps wants parents i placed parts.0 (each i (has_head i i files refl)) parts.1 are)

in_filter : (test : ℕ → Bool) (i : ℕ) (js : List ℕ) → has i (filter test js) ≡ true → has i js ≡ true
in_filter test i [] there = there
in_filter test i (j ∷ js) there = elim (cases_Bool (test j)) [
  | inl hit ↦ elim (or_cases (j == i) (has i (filter test js)) (sym (ap (λ (v : Bool). has i (cond v (j ∷ filter test js) (filter test js))) hit) ∙ there)) [
    | inl own ↦ has_head i j js (eqb-true j i own)
    | inr later ↦ has_tail i j js (in_filter test i js later)
  ]
  | inr miss ↦ has_tail i j js (in_filter test i js (sym (ap (λ (v : Bool). has i (cond v (j ∷ filter test js) (filter test js))) miss) ∙ there))
]

pub of_files : (shape : Shape) (wants : List (Option Want)) (parents : List Parent) (homes : List Home) (p : Plan) → plan shape wants parents homes ≡ Ok p → (i : ℕ) → is_some (home_of p.homes i) ≡ true → 0 < count_of wants i
of_files shape wants parents homes p is i found =
    let steps : HasSteps shape wants parents homes p = steps_of shape wants parents homes p is in
    let start : Placed = record { rooms = steps.rooms; homes = [] } in
    let stayed = stay_all wants homes start in
    files_keep wants parents (waiting wants stayed) stayed steps.placed (λ j there. some_blocks wants j (in_filter _ j (files_in wants) there)) steps.third
    (stays_keep wants homes start (λ j none. absurd (false≢true none)))
    i (sym (ap (λ (q : Plan). is_some (home_of q.homes i)) steps.made) ∙ found)
