-- The room that a plan takes on each boundary.
use Rattle.std.proofs.Common.{◌≡◌, ◌≤◌, ◌+◌, ◌-◌, ◌==◌, ◌&&◌, ℕ, Bool, true, cond, List, [], ◌∷◌, length, get_or, inl, inr, refl, sym, ◌∙◌, ap, arith}
use Rattle.std.specs.Prelude.{Option, Result, Ok, Err, nat_lt}
use Rattle.std.specs.List.{count_by, sum_by}
use Rattle.std.proofs.lemmas.Bool.{and_parts, cases_Bool, cases_eq, cases_lt, leb-true}
use Rattle.std.proofs.lemmas.List.{get_or-set_other, get_or-set_same, get_or_past, set_past}
use Rattle.std.proofs.lemmas.List.Sums.{sum_by-cons}
use Rattle.dg_model.proofs.SiteLists.{apart_test, same_test}
use Rattle.dg_model.specs.Homes.{with_home}
use Rattle.dg_model.specs.Plans.{Placement, Placed, Scattered, beside, blocks_of, boundary_for, each_ok, has_room, less_room, place_file, place_with, place_kept, place_stray, placed_on, roomiest, stay, stay_all, then_ok}
use Rattle.dg_model.specs.declared.homes.Home.{Home}
use Rattle.dg_model.specs.declared.wants.NoRoom.TheVariants.{System, Inode, Strays}
use Rattle.dg_model.specs.declared.parents.Parent.{Parent}
use Rattle.dg_model.specs.declared.wants.Want.{Want}
use Rattle.dg_plan.proofs.SumLaws.{none_at, one_at}

-- a room that has enough is taken
pub less_at : (s count : ℕ) (rooms : List ℕ) → has_room s count rooms ≡ true → (t : ℕ) → get_or (less_room s count rooms) t 0 + cond (s == t) count 0 ≡ get_or rooms t 0
less_at s count rooms enough t =
    let fits : count ≤ get_or rooms s 0 = leb-true count (get_or rooms s 0) enough in
    elim (cases_eq s t) [
      | inl at ↦ elim (cases_lt s (length rooms)) [
        | inl within ↦
            omega (
              arith,
              ap (λ (k : ℕ). get_or (less_room s count rooms) k 0) (sym at),
              ap (λ (k : ℕ). get_or rooms k 0) (sym at),
              get_or-set_same rooms s (get_or rooms s 0 - count) 0 within,
              one_at (s == t) count (same_test s t at),
              fits,
            )
        | inr past ↦
            let none : get_or rooms s 0 ≡ 0 = get_or_past rooms s 0 past in
            let zero_count : count ≡ 0 = omega (arith, fits, none) in
            omega (
              arith,
              ap (λ (xs : List ℕ). get_or xs t 0) (set_past rooms s (get_or rooms s 0 - count) past),
              one_at (s == t) count (same_test s t at),
              zero_count,
            )
      ]
      | inr off ↦
          omega (
            arith,
            get_or-set_other rooms s t (get_or rooms s 0 - count) 0 (λ e. off (sym e)),
            none_at (s == t) count (apart_test s t off),
          )
    ]

pub ok_is : {S E : Type 0} (a b : S) → ◌≡◌ {A = Result S E} (Ok a) (Ok b) → a ≡ b
ok_is a b e = cc

pub not_ok : {S E : Type 0} (e : E) (b : S) → ◌≡◌ {A = Result S E} (Err e) (Ok b) → ⊥
not_ok e b is = cc

-- both steps gave something
pub then_parts : {S T E : Type 0} (r : Result S E) (step : S → Result T E) (t : T) → then_ok r step ≡ Ok t → (s : S) × (r ≡ Ok s) × (step s ≡ Ok t)
then_parts (Ok s) step t is = (s, refl, is)
then_parts (Err e) step t is = absurd (not_ok e t is)

-- ---- step 1

pub kept_yes : (s : ℕ) (rooms new : List ℕ) → place_kept s rooms ≡ Ok new → (has_room s 1 rooms ≡ true) × (new ≡ less_room s 1 rooms)
unfolding place_kept
kept_yes s rooms new is = elim (cases_Bool (has_room s 1 rooms)) [
  | inl hit ↦ (hit, ok_is new (less_room s 1 rooms) (sym is ∙ ap (λ (v : Bool). cond v (Ok (less_room s 1 rooms)) (Err System)) hit))
  | inr miss ↦ absurd (not_ok System new (sym (ap (λ (v : Bool). cond v (Ok (less_room s 1 rooms)) (Err System)) miss) ∙ is))
]

pub kept_rooms : (ps rooms new : List ℕ) → each_ok place_kept ps rooms ≡ Ok new → (t : ℕ) → get_or new t 0 + count_by (λ p. p == t) ps ≡ get_or rooms t 0
kept_rooms [] rooms new is t = let e : rooms ≡ new = ok_is rooms new is in omega (arith, ap (λ (xs : List ℕ). get_or xs t 0) e)
kept_rooms (s ∷ ps) rooms new is t =
    let parts = then_parts (place_kept s rooms) (each_ok place_kept ps) new is in
    let first = kept_yes s rooms parts.0 parts.1 in
    omega (
      arith,
      kept_rooms ps parts.0 new parts.2 t,
      less_at s 1 rooms first.0 t,
      ap (λ (xs : List ℕ). get_or xs t 0) first.1,
      sum_by-cons (λ (p : ℕ). cond (p == t) 1 0) s ps,
    )

-- ---- steps 2 and 3

-- how many blocks the files with a home on boundary t have
abbrev pub used_by : List (Option Want) → List Home → ℕ → ℕ
used_by wants homes t = sum_by (λ home. cond (home.boundary == t) (length (blocks_of wants home.inode)) 0) homes

used_more : (wants : List (Option Want)) (home : Home) (homes : List Home) (t : ℕ) → used_by wants (with_home home homes) t ≡ cond (home.boundary == t) (length (blocks_of wants home.inode)) 0 + used_by wants homes t
used_more wants home [] t = sum_by-cons (λ (h : Home). cond (h.boundary == t) (length (blocks_of wants h.inode)) 0) home []
used_more wants home (first ∷ homes) t = elim (cases_Bool (nat_lt home.inode first.inode)) [
  | inl before ↦
      ap (λ (v : Bool). used_by wants (cond v (home ∷ first ∷ homes) (first ∷ with_home home homes)) t) before
      ∙ sum_by-cons (λ (h : Home). cond (h.boundary == t) (length (blocks_of wants h.inode)) 0) home (first ∷ homes)
  | inr behind ↦
      omega (
        arith,
        ap (λ (v : Bool). used_by wants (cond v (home ∷ first ∷ homes) (first ∷ with_home home homes)) t) behind,
        sum_by-cons (λ (h : Home). cond (h.boundary == t) (length (blocks_of wants h.inode)) 0) first (with_home home homes),
        sum_by-cons (λ (h : Home). cond (h.boundary == t) (length (blocks_of wants h.inode)) 0) first homes,
        used_more wants home homes t,
      )
]

-- the room that is left on boundary t, and the blocks of files there
abbrev pub taken_with : List (Option Want) → Placed → ℕ → ℕ
taken_with wants placed t = get_or placed.rooms t 0 + used_by wants placed.homes t

placed_keeps : (wants : List (Option Want)) (i s t : ℕ) (placed : Placed) → has_room s (length (blocks_of wants i)) placed.rooms ≡ true
    → taken_with wants (placed_on i (length (blocks_of wants i)) s placed) t ≡ taken_with wants placed t
placed_keeps wants i s t placed enough =
    omega (
      arith,
      less_at s (length (blocks_of wants i)) placed.rooms enough t,
      used_more wants (record { inode = i; boundary = s }) placed.homes t,
    )

stay_keeps : (wants : List (Option Want)) (home : Home) (placed : Placed) (t : ℕ) → taken_with wants (stay wants home placed) t ≡ taken_with wants placed t
unfolding stay
stay_keeps wants home placed t =
    let count = length (blocks_of wants home.inode) in
    let test = nat_lt 0 count && has_room home.boundary count placed.rooms in
    elim (cases_Bool test) [
      | inl hit ↦
          ap (λ (v : Bool). taken_with wants (cond v (placed_on home.inode count home.boundary placed) placed) t) hit
          ∙ placed_keeps wants home.inode home.boundary t placed (and_parts (nat_lt 0 count) (has_room home.boundary count placed.rooms) hit).1
      | inr miss ↦ ap (λ (v : Bool). taken_with wants (cond v (placed_on home.inode count home.boundary placed) placed) t) miss
    ]

pub stays_keep : (wants : List (Option Want)) (homes : List Home) (placed : Placed) (t : ℕ) → taken_with wants (stay_all wants homes placed) t ≡ taken_with wants placed t
stays_keep wants [] placed t = refl
stays_keep wants (home ∷ homes) placed t = stays_keep wants homes (stay wants home placed) t ∙ stay_keeps wants home placed t

file_keeps : (wants : List (Option Want)) (parents : List Parent) (i t : ℕ) (placed new : Placed) → place_file wants parents i placed ≡ Ok new → taken_with wants new t ≡ taken_with wants placed t
unfolding place_with
file_keeps wants parents i t placed new is =
    let count = length (blocks_of wants i) in
    let s = boundary_for count (beside parents i placed.homes) placed.rooms in
    elim (cases_Bool (has_room s count placed.rooms)) [
      | inl hit ↦
          let e : new ≡ placed_on i count s placed = ok_is new (placed_on i count s placed) (sym is ∙ ap (λ (v : Bool). cond v (Ok (placed_on i count s placed)) (Err (Inode i))) hit) in
          ap (λ (p : Placed). taken_with wants p t) e ∙ placed_keeps wants i s t placed hit
      | inr miss ↦ absurd (not_ok (Inode i) new (sym (ap (λ (v : Bool). cond v (Ok (placed_on i count s placed)) (Err (Inode i))) miss) ∙ is))
    ]

pub files_keep : (wants : List (Option Want)) (parents : List Parent) (files : List ℕ) (t : ℕ) (placed new : Placed) → each_ok (place_file wants parents) files placed ≡ Ok new → taken_with wants new t ≡ taken_with wants placed t
files_keep wants parents [] t placed new is = ap (λ (p : Placed). taken_with wants p t) (sym (ok_is placed new is))
files_keep wants parents (i ∷ files) t placed new is =
    let parts = then_parts (place_file wants parents i placed) (each_ok (place_file wants parents) files) new is in
    files_keep wants parents files t parts.0 new parts.2 ∙ file_keeps wants parents i t placed parts.0 parts.1

-- ---- step 4

abbrev pub scattered_with : Scattered → ℕ → ℕ
scattered_with scattered t = get_or scattered.rooms t 0 + count_by (λ (p : Placement). p.boundary == t) scattered.places

stray_keeps : (b t : ℕ) (scattered new : Scattered) → place_stray b scattered ≡ Ok new → scattered_with new t ≡ scattered_with scattered t
unfolding place_stray
stray_keeps b t scattered new is =
    let s = roomiest scattered.rooms in
    let place : Placement = record { block = b; boundary = s } in
    let next : Scattered = record { rooms = less_room s 1 scattered.rooms; places = place ∷ scattered.places } in
    elim (cases_Bool (has_room s 1 scattered.rooms)) [
      | inl hit ↦
          let e : new ≡ next = ok_is new next (sym is ∙ ap (λ (v : Bool). cond v (Ok next) (Err Strays)) hit) in
          omega (
            arith,
            ap (λ (x : Scattered). scattered_with x t) e,
            less_at s 1 scattered.rooms hit t,
            sum_by-cons (λ (p : Placement). cond (p.boundary == t) 1 0) place scattered.places,
          )
      | inr miss ↦ absurd (not_ok Strays new (sym (ap (λ (v : Bool). cond v (Ok next) (Err Strays)) miss) ∙ is))
    ]

pub strays_keep : (bs : List ℕ) (t : ℕ) (scattered new : Scattered) → each_ok place_stray bs scattered ≡ Ok new → scattered_with new t ≡ scattered_with scattered t
strays_keep [] t scattered new is = ap (λ (x : Scattered). scattered_with x t) (sym (ok_is scattered new is))
strays_keep (b ∷ bs) t scattered new is =
    let parts = then_parts (place_stray b scattered) (each_ok place_stray bs) new is in
    strays_keep bs t parts.0 new parts.2 ∙ stray_keeps b t scattered parts.0 parts.1
