-- No boundary is the target of more than K blocks.
use Rattle.std.proofs.Common.{◌≡◌, ◌<◌, ◌≤◌, ◌+◌, ◌==◌, ◌||◌, ℕ, Bool, true, false, cond, List, [], ◌∷◌, length, get_or, replicate, inl, inr, refl, sym, ◌∙◌, ap, arith}
use Rattle.std.specs.Prelude.{Option, Some, None, Ok, option_to_list}
use Rattle.std.specs.List.{count_by, filter, flat_map, list_any, range_with_len, sum_by}
use Rattle.std.proofs.lemmas.Bool.{cases_Bool, cases_eq}
use Rattle.std.proofs.lemmas.List.{get_or-replicate}
use Rattle.std.proofs.lemmas.List.Sums.{length-filter, sum_by-append, sum_by-cons}
use Rattle.dg_model.proofs.SiteLists.{apart_test, same_test}
use Rattle.dg_model.specs.declared.shapes.Shape.{Shape}
use Rattle.dg_model.specs.Homes.{home_of}
use Rattle.dg_model.specs.Plans.{Placement, Placed, Plan, Scattered, blocks_of, blocks_with, each_ok, is_file, is_kept, is_stray, place_file, place_kept, place_stray, places_of, plan, place_in, stay_all, targets_by, waiting}
use Rattle.dg_model.specs.Wants.{want_of}
use Rattle.dg_model.specs.declared.homes.Home.{Home}
use Rattle.dg_model.specs.declared.parents.Parent.{Parent}
use Rattle.dg_model.specs.declared.wants.Want.{Want}
use Rattle.dg_model.specs.declared.wants.Want.TheVariants.{Kept, File, Stray}
use Rattle.dg_plan.proofs.RoomLaws.{files_keep, kept_rooms, ok_is, stays_keep, strays_keep, then_parts, used_by}
use Rattle.dg_plan.proofs.SumLaws.{none_at, once, one_at, sums_both, sums_if, sums_le, sums_same, sums_swap}

-- ---- the four steps of a plan

pub record HasSteps (shape : Shape) (wants : List (Option Want)) (parents : List Parent) (homes : List Home) (p : Plan) : Type 0 where
  pub rooms : List ℕ
  pub placed : Placed
  pub scattered : Scattered
  pub first : each_ok place_kept (flat_map (places_of shape) (blocks_with is_kept wants)) (replicate shape.b shape.k) ≡ Ok rooms
  pub third : each_ok (place_file wants parents) (waiting wants (stay_all wants homes (record { rooms = rooms; homes = [] }))) (stay_all wants homes (record { rooms = rooms; homes = [] })) ≡ Ok placed
  pub fourth : each_ok place_stray (blocks_with is_stray wants) (record { rooms = placed.rooms; places = [] }) ≡ Ok scattered
  pub made : p ≡ record { homes = placed.homes; strays = scattered.places }

pub steps_of : (shape : Shape) (wants : List (Option Want)) (parents : List Parent) (homes : List Home) (p : Plan) → plan shape wants parents homes ≡ Ok p → HasSteps shape wants parents homes p
unfolding plan
steps_of shape wants parents homes p is =
    let one = then_parts (each_ok place_kept (flat_map (places_of shape) (blocks_with is_kept wants)) (replicate shape.b shape.k)) _ p is in
    let two = then_parts (each_ok (place_file wants parents) (waiting wants (stay_all wants homes (record { rooms = one.0; homes = [] }))) (stay_all wants homes (record { rooms = one.0; homes = [] }))) _ p one.2 in
    let three = then_parts (each_ok place_stray (blocks_with is_stray wants) (record { rooms = two.0.rooms; places = [] })) _ p two.2 in
    record {
      rooms = one.0;
      placed = two.0;
      scattered = three.0;
      first = one.1;
      third = two.1;
      fourth = three.1;
      made = sym (ok_is (record { homes = two.0.homes; strays = three.0.places }) p three.2);
    }

-- ---- blocks on a boundary

any_le : {X : Type 0} (test : X → Bool) (xs : List X) → cond (list_any test xs) 1 0 ≤ count_by test xs
any_le test [] = omega arith
any_le test (x ∷ xs) = elim (cases_Bool (test x)) [
  | inl hit ↦
      omega (
        arith,
        ap (λ (v : Bool). cond {A = ℕ} (v || list_any test xs) 1 0) hit,
        sum_by-cons (λ y. cond {A = ℕ} (test y) 1 0) x xs,
        one_at (test x) 1 hit,
      )
  | inr miss ↦
      omega (
        arith,
        ap (λ (v : Bool). cond {A = ℕ} (v || list_any test xs) 1 0) miss,
        sum_by-cons (λ y. cond {A = ℕ} (test y) 1 0) x xs,
        any_le test xs,
      )
]

-- a sum over what a filtered list is flattened to
kept_sum : {X : Type 0} (keep : X → Bool) (f : X → List ℕ) (test : ℕ → Bool) (xs : List X) → sum_by (λ (x : X). cond (keep x) (count_by test (f x)) 0) xs ≡ count_by test (flat_map f (filter keep xs))
kept_sum keep f test [] = refl
kept_sum {X} keep f test (x ∷ xs) = elim (cases_Bool (keep x)) [
  | inl hit ↦
      omega (
        arith,
        sum_by-cons (λ (y : X). cond (keep y) (count_by test (f y)) 0) x xs,
        one_at (keep x) (count_by test (f x)) hit,
        ap (λ (v : Bool). count_by test (flat_map f (cond v (x ∷ filter keep xs) (filter keep xs)))) hit,
        sum_by-append (λ (y : ℕ). cond (test y) 1 0) (f x) (flat_map f (filter keep xs)),
        kept_sum keep f test xs,
      )
  | inr miss ↦
      omega (
        arith,
        sum_by-cons (λ (y : X). cond (keep y) (count_by test (f y)) 0) x xs,
        none_at (keep x) (count_by test (f x)) miss,
        ap (λ (v : Bool). count_by test (flat_map f (cond v (x ∷ filter keep xs) (filter keep xs)))) miss,
        kept_sum keep f test xs,
      )
]

abbrev pub is_at : ℕ → Option ℕ → Bool
is_at t found = list_any (λ u. u == t) (option_to_list found)

abbrev pub one_if : Bool → ℕ
one_if b = cond b 1 0

pub is_at_some : (t s : ℕ) → is_at t (Some s) ≡ (s == t)
is_at_some t s = or_none (s == t)
  where
    or_none : (b : Bool) → (b || false) ≡ b
    or_none true = refl
    or_none false = refl

-- the home that is found is one of the list's
home_le : (t i : ℕ) (homes : List Home) → one_if (is_at t (home_of homes i)) ≤ sum_by (λ (home : Home). cond (home.boundary == t) (one_if (i == home.inode)) 0) homes
home_le t i [] = omega arith
home_le t i (home ∷ homes) = elim (cases_eq home.inode i) [
  | inl at ↦
      omega (
        arith,
        ap (λ (v : Bool). one_if (is_at t (cond v (Some home.boundary) (home_of homes i)))) (same_test home.inode i at),
        ap one_if (is_at_some t home.boundary),
        sum_by-cons (λ (h : Home). cond (h.boundary == t) (one_if (i == h.inode)) 0) home homes,
        whole (home.boundary == t) (i == home.inode) (same_test i home.inode (sym at)),
      )
  | inr off ↦
      omega (
        arith,
        ap (λ (v : Bool). one_if (is_at t (cond v (Some home.boundary) (home_of homes i)))) (apart_test home.inode i off),
        sum_by-cons (λ (h : Home). cond (h.boundary == t) (one_if (i == h.inode)) 0) home homes,
        home_le t i homes,
      )
]
  where
    whole : (a b : Bool) → b ≡ true → cond a (one_if b) 0 ≡ one_if a
    whole true b e = ap one_if e
    whole false b e = refl

-- the place that is found is one of the list's
second_le : (t b : ℕ) (places : List Placement) → one_if (is_at t (place_in places b)) ≤ sum_by (λ (q : Placement). cond (q.boundary == t) (one_if (q.block == b)) 0) places
second_le t b [] = omega arith
second_le t b (q ∷ places) = elim (cases_eq q.block b) [
  | inl at ↦
      omega (
        arith,
        ap (λ (v : Bool). one_if (is_at t (cond v (Some q.boundary) (place_in places b)))) (same_test q.block b at),
        ap one_if (is_at_some t q.boundary),
        sum_by-cons (λ (r : Placement). cond (r.boundary == t) (one_if (r.block == b)) 0) q places,
        whole (q.boundary == t) (q.block == b) (same_test q.block b at),
      )
  | inr off ↦
      omega (
        arith,
        ap (λ (v : Bool). one_if (is_at t (cond v (Some q.boundary) (place_in places b)))) (apart_test q.block b off),
        sum_by-cons (λ (r : Placement). cond (r.boundary == t) (one_if (r.block == b)) 0) q places,
        second_le t b places,
      )
]
  where
    whole : (x y : Bool) → y ≡ true → cond x (one_if y) 0 ≡ one_if x
    whole true y e = ap one_if e
    whole false y e = refl

-- ---- all blocks

module _ (shape : Shape) (wants : List (Option Want)) (p : Plan) (t : ℕ) where
  abbrev blocks : List ℕ
  blocks = range_with_len 0 (length wants)

  abbrev by_kept : ℕ → ℕ
  by_kept b = cond (is_kept (want_of wants b)) (count_by (λ u. u == t) (places_of shape b)) 0

  abbrev by_home : ℕ → Home → ℕ
  by_home b home = cond (home.boundary == t) (one_if (is_file home.inode (want_of wants b))) 0

  abbrev by_place : ℕ → Placement → ℕ
  by_place b q = cond (q.boundary == t) (one_if (q.block == b)) 0

  abbrev pub stands : ℕ → Bool
  stands b = list_any (λ u. u == t) (targets_by shape p b (want_of wants b))

  -- a block on the boundary is counted among the kept ones, with a home or with a place
  one_le : (b : ℕ) (want : Option Want) → one_if (list_any (λ u. u == t) (targets_by shape p b want))
      ≤ cond (is_kept want) (count_by (λ u. u == t) (places_of shape b)) 0 + sum_by (λ (home : Home). cond (home.boundary == t) (one_if (is_file home.inode want)) 0) p.homes + sum_by (by_place b) p.strays
  one_le b None = omega arith
  one_le b (Some Kept) = omega (arith, any_le (λ u. u == t) (places_of shape b))
  one_le b (Some (File i)) = omega (arith, home_le t i p.homes)
  one_le b (Some Stray) = omega (arith, second_le t b p.strays)

  kept_all : sum_by by_kept blocks ≡ count_by (λ u. u == t) (flat_map (places_of shape) (blocks_with is_kept wants))
  kept_all = kept_sum (λ b. is_kept (want_of wants b)) (places_of shape) (λ u. u == t) blocks

  homes_all : sum_by (λ b. sum_by (by_home b) p.homes) blocks ≡ used_by wants p.homes t
  homes_all =
      sums_swap by_home blocks p.homes
      ∙ sums_same (λ (home : Home). sum_by (λ b. by_home b home) blocks) (λ (home : Home). cond (home.boundary == t) (length (blocks_of wants home.inode)) 0) p.homes
      (λ (home : Home). sums_if (home.boundary == t) (λ b. one_if (is_file home.inode (want_of wants b))) blocks
      ∙ ap (λ (k : ℕ). cond (home.boundary == t) k 0) (sym (length-filter (λ b. is_file home.inode (want_of wants b)) blocks)))

  places_all : sum_by (λ b. sum_by (by_place b) p.strays) blocks ≤ count_by (λ (q : Placement). q.boundary == t) p.strays
  places_all =
      omega (
        arith,
        sums_swap by_place blocks p.strays,
        sums_le (λ (q : Placement). sum_by (λ b. by_place b q) blocks) (λ (q : Placement). one_if (q.boundary == t)) p.strays
            (λ (q : Placement). few (q.boundary == t) q.block (sums_if (q.boundary == t) (λ b. one_if (q.block == b)) blocks)),
      )
    where
      few : (v : Bool) (c : ℕ) → sum_by (λ (b : ℕ). cond v (one_if (c == b)) 0) blocks ≡ cond v (sum_by (λ (b : ℕ). one_if (c == b)) blocks) 0 → sum_by (λ (b : ℕ). cond v (one_if (c == b)) 0) blocks ≤ one_if v
      few true c e = omega (arith, e, once c 0 (length wants))
      few false c e = omega (arith, e)

  -- no boundary is the target of more than K blocks
  pub most_blocks : (parents : List Parent) (homes : List Home) → plan shape wants parents homes ≡ Ok p → t < shape.b → count_by stands blocks ≤ shape.k
  most_blocks parents homes is within =
      let s = steps_of shape wants parents homes p is in
      let stayed = stay_all wants homes (record { rooms = s.rooms; homes = [] }) in
      let whole : get_or (replicate shape.b shape.k) t 0 ≡ shape.k = get_or-replicate shape.b t shape.k 0 within in
      let kept = kept_rooms (flat_map (places_of shape) (blocks_with is_kept wants)) (replicate shape.b shape.k) s.rooms s.first t in
      let stay = stays_keep wants homes (record { rooms = s.rooms; homes = [] }) t in
      let files = files_keep wants parents (waiting wants stayed) t stayed s.placed s.third in
      let rest = strays_keep (blocks_with is_stray wants) t (record { rooms = s.placed.rooms; places = [] }) s.scattered s.fourth in
      let own : used_by wants p.homes t ≡ used_by wants s.placed.homes t = ap (λ (q : Plan). used_by wants q.homes t) s.made in
      let off : count_by (λ (q : Placement). q.boundary == t) p.strays ≡ count_by (λ (q : Placement). q.boundary == t) s.scattered.places = ap (λ (q : Plan). count_by (λ (r : Placement). r.boundary == t) q.strays) s.made in
      let all : count_by stands blocks ≤ sum_by (λ b. by_kept b + sum_by (by_home b) p.homes + sum_by (by_place b) p.strays) blocks =
      sums_le (λ b. one_if (stands b)) (λ b. by_kept b + sum_by (by_home b) p.homes + sum_by (by_place b) p.strays) blocks (λ b. one_le b (want_of wants b)) in
      omega (
        arith,
        all,
        sums_both (λ b. by_kept b + sum_by (by_home b) p.homes) (λ b. sum_by (by_place b) p.strays) blocks,
        sums_both by_kept (λ b. sum_by (by_home b) p.homes) blocks,
        kept_all,
        homes_all,
        places_all,
        whole,
        kept,
        stay,
        files,
        rest,
        own,
        off,
      )
