-- One step after another, over what is left.
use Rattle.std.proofs.Common.{◌≡◌, ◌<◌, ◌≤◌, ◌+◌, ◌-◌, ◌*◌, ◌%◌, ◌^◌, inl, inr, set, ℕ, suc, Bool, true, false, cond, List, [], ◌∷◌, ◌++◌, length, get_or, map, refl, sym, ◌∙◌, ap, subst, arith}
use Rattle.std.specs.Prelude.{Option, Some, Result, Ok, Err}
use Rattle.std.specs.List.{filter, flat_map, range_with_len}
use Rattle.std.proofs.Math.Nat.{pow-le-pow_right}
use Rattle.dg_model.specs.declared.shapes.Shape.{Shape}
use Rattle.dg_model.specs.Plans.{Scattered, blocks_with, each_ok, is_kept, is_stray, less_room, place_kept, place_stray, places_of, roomiest, place_in, then_ok}
use Rattle.dg_plan.specs.Strays.{AreMarked, HasSeats, mark_of}
use Rattle.dg_model.proofs.SiteLists.{apart_test, same_test}
use Rattle.std.proofs.lemmas.List.{get_or-set_other, get_or-set_same, length-set}
use Rattle.dg_model.specs.Wants.{want_of}
use Rattle.dg_model.specs.declared.wants.NoRoom.{NoRoom}
use Rattle.dg_model.specs.declared.wants.NoRoom.TheVariants.{System, Strays}
use Rattle.dg_model.specs.declared.wants.Want.{Want}
use Rattle.std.proofs.lemmas.Bool.{cases_eq, le-leb, lt-leb}

-- what is left of a range
pub range_step : (k m : ℕ) → k < m → range_with_len k (m - k) ≡ k ∷ range_with_len (k + 1) (m - (k + 1))
range_step k m below = let e : m - k ≡ suc (m - (k + 1)) = omega arith in ap (λ (n : ℕ). range_with_len k n) e

pub range_start : (m : ℕ) → range_with_len 0 (m - 0) ≡ range_with_len 0 m
range_start m = let e : m - 0 ≡ m = omega arith in ap (λ (n : ℕ). range_with_len 0 n) e

pub range_end : (k m : ℕ) → m ≤ k → range_with_len k (m - k) ≡ []
range_end k m past = let e : m - k ≡ 0 = omega arith in ap (λ (n : ℕ). range_with_len k n) e

module _ {A S E : Type 0} (step : A → S → Result S E) where
  both_step : (r : Result S E) (xs ys : List A) → ((t : S) → each_ok step (xs ++ ys) t ≡ then_ok (each_ok step xs t) (each_ok step ys)) → then_ok r (each_ok step (xs ++ ys)) ≡ then_ok (then_ok r (each_ok step xs)) (each_ok step ys)
  both_step (Ok t) xs ys same = same t
  both_step (Err e) xs ys same = refl

  pub each_both : (xs ys : List A) (s : S) → each_ok step (xs ++ ys) s ≡ then_ok (each_ok step xs s) (each_ok step ys)
  each_both [] ys s = refl
  each_both (x ∷ xs) ys s = both_step (step x s) xs ys (each_both xs ys)

-- ---- step 1

pub take_yes : (s : ℕ) (rooms : List ℕ) → 0 < get_or rooms s 0 → place_kept s rooms ≡ Ok (less_room s 1 rooms)
unfolding place_kept
take_yes s rooms some = ap (λ (v : Bool). cond v (Ok (less_room s 1 rooms)) (Err System)) (le-leb 1 (get_or rooms s 0) (omega arith))

pub take_no : (s : ℕ) (rooms : List ℕ) → get_or rooms s 0 ≡ 0 → place_kept s rooms ≡ Err System
unfolding place_kept
take_no s rooms none = ap (λ (v : Bool). cond v (Ok (less_room s 1 rooms)) (Err System)) (lt-leb 1 (get_or rooms s 0) (omega (arith, none)))

-- the places of a block that are left
abbrev pub places_from : Shape → ℕ → ℕ → List ℕ
places_from shape b k = map (λ i. (b + i) % shape.b) (range_with_len k (shape.m - k))

pub places_step : (shape : Shape) (b k : ℕ) → k < shape.m → places_from shape b k ≡ ((b + k) % shape.b) ∷ places_from shape b (k + 1)
places_step shape b k below = ap (map (λ i. (b + i) % shape.b)) (range_step k shape.m below)

-- the places of the kept blocks that are left
abbrev pub kept_from : Shape → List (Option Want) → ℕ → List ℕ
kept_from shape wants k = flat_map (places_of shape) (filter (λ b. is_kept (want_of wants b)) (range_with_len k (length wants - k)))

pub kept_yes_from : (shape : Shape) (wants : List (Option Want)) (k : ℕ) → k < length wants → is_kept (want_of wants k) ≡ true → kept_from shape wants k ≡ places_of shape k ++ kept_from shape wants (k + 1)
kept_yes_from shape wants k below is =
    let test : ℕ → Bool = λ b. is_kept (want_of wants b) in
    ap (λ (xs : List ℕ). flat_map (places_of shape) (filter (λ b. is_kept (want_of wants b)) xs)) (range_step k (length wants) below)
    ∙ ap (λ (v : Bool). flat_map (places_of shape) (cond v (k ∷ filter (λ b. is_kept (want_of wants b)) (range_with_len (k + 1) (length wants - (k + 1)))) (filter (λ b. is_kept (want_of wants b)) (range_with_len (k + 1) (length wants - (k + 1)))))) is

pub kept_no_from : (shape : Shape) (wants : List (Option Want)) (k : ℕ) → k < length wants → is_kept (want_of wants k) ≡ false → kept_from shape wants k ≡ kept_from shape wants (k + 1)
kept_no_from shape wants k below is =
    ap (λ (xs : List ℕ). flat_map (places_of shape) (filter (λ b. is_kept (want_of wants b)) xs)) (range_step k (length wants) below)
    ∙ ap (λ (v : Bool). flat_map (places_of shape) (cond v (k ∷ filter (λ b. is_kept (want_of wants b)) (range_with_len (k + 1) (length wants - (k + 1)))) (filter (λ b. is_kept (want_of wants b)) (range_with_len (k + 1) (length wants - (k + 1)))))) is

-- a kept block had room, or had none
pub block_yes : (shape : Shape) (wants : List (Option Want)) (k : ℕ) (rooms new : List ℕ) → k < length wants → is_kept (want_of wants k) ≡ true → each_ok place_kept (places_of shape k) rooms ≡ Ok new
    → each_ok place_kept (kept_from shape wants k) rooms ≡ each_ok place_kept (kept_from shape wants (k + 1)) new
block_yes shape wants k rooms new below is placed =
    ap (λ (xs : List ℕ). each_ok place_kept xs rooms) (kept_yes_from shape wants k below is)
    ∙ each_both place_kept (places_of shape k) (kept_from shape wants (k + 1)) rooms
    ∙ ap (λ (r : Result (List ℕ) NoRoom). then_ok r (each_ok place_kept (kept_from shape wants (k + 1)))) placed

pub block_no : (shape : Shape) (wants : List (Option Want)) (k : ℕ) (rooms : List ℕ) → k < length wants → is_kept (want_of wants k) ≡ true → each_ok place_kept (places_of shape k) rooms ≡ Err System
    → each_ok place_kept (kept_from shape wants k) rooms ≡ Err System
block_no shape wants k rooms below is none =
    ap (λ (xs : List ℕ). each_ok place_kept xs rooms) (kept_yes_from shape wants k below is)
    ∙ each_both place_kept (places_of shape k) (kept_from shape wants (k + 1)) rooms
    ∙ ap (λ (r : Result (List ℕ) NoRoom). then_ok r (each_ok place_kept (kept_from shape wants (k + 1)))) none

-- one place of a block had room, or had none
pub place_more : (shape : Shape) (b k x : ℕ) (rooms new : List ℕ) → k < shape.m → x ≡ (b + k) % shape.b → place_kept x rooms ≡ Ok new
    → each_ok place_kept (places_from shape b k) rooms ≡ each_ok place_kept (places_from shape b (k + 1)) new
place_more shape b k x rooms new below at placed =
    ap (λ (xs : List ℕ). each_ok place_kept xs rooms) (places_step shape b k below)
    ∙ ap (λ (y : ℕ). then_ok (place_kept y rooms) (each_ok place_kept (places_from shape b (k + 1)))) (sym at)
    ∙ ap (λ (r : Result (List ℕ) NoRoom). then_ok r (each_ok place_kept (places_from shape b (k + 1)))) placed

pub place_stop : (shape : Shape) (b k x : ℕ) (rooms : List ℕ) → k < shape.m → x ≡ (b + k) % shape.b → place_kept x rooms ≡ Err System
    → each_ok place_kept (places_from shape b k) rooms ≡ Err System
place_stop shape b k x rooms below at none =
    ap (λ (xs : List ℕ). each_ok place_kept xs rooms) (places_step shape b k below)
    ∙ ap (λ (y : ℕ). then_ok (place_kept y rooms) (each_ok place_kept (places_from shape b (k + 1)))) (sym at)
    ∙ ap (λ (r : Result (List ℕ) NoRoom). then_ok r (each_ok place_kept (places_from shape b (k + 1)))) none

-- ---- step 4

-- the strays that are left
abbrev pub strays_from : List (Option Want) → ℕ → List ℕ
strays_from wants k = filter (λ b. is_stray (want_of wants b)) (range_with_len k (length wants - k))

pub stray_yes_from : (wants : List (Option Want)) (k : ℕ) → k < length wants → is_stray (want_of wants k) ≡ true → strays_from wants k ≡ k ∷ strays_from wants (k + 1)
stray_yes_from wants k below is =
    ap (filter (λ b. is_stray (want_of wants b))) (range_step k (length wants) below)
    ∙ ap (λ (v : Bool). cond v (k ∷ filter (λ b. is_stray (want_of wants b)) (range_with_len (k + 1) (length wants - (k + 1)))) (filter (λ b. is_stray (want_of wants b)) (range_with_len (k + 1) (length wants - (k + 1))))) is

pub stray_no_from : (wants : List (Option Want)) (k : ℕ) → k < length wants → is_stray (want_of wants k) ≡ false → strays_from wants k ≡ strays_from wants (k + 1)
stray_no_from wants k below is =
    ap (filter (λ b. is_stray (want_of wants b))) (range_step k (length wants) below)
    ∙ ap (λ (v : Bool). cond v (k ∷ filter (λ b. is_stray (want_of wants b)) (range_with_len (k + 1) (length wants - (k + 1)))) (filter (λ b. is_stray (want_of wants b)) (range_with_len (k + 1) (length wants - (k + 1))))) is

-- what was placed so far, and that the strays from k on complete it
pub record IsSeating (wants : List (Option Want)) (k : ℕ) (before rooms marks_before marks : List ℕ) : Type 0 where
  pub scattered : Scattered
  pub left : each_ok place_stray (strays_from wants k) scattered ≡ each_ok place_stray (blocks_with is_stray wants) (record { rooms = before; places = [] })
  pub same : rooms ≡ scattered.rooms
  pub marked : AreMarked scattered.places marks_before marks
  pub size : length marks ≡ length marks_before
  pub number : length rooms ≡ length before

abbrev seated : ℕ → Scattered → Scattered
seated b x = record { rooms = less_room (roomiest x.rooms) 1 x.rooms; places = record { block = b; boundary = roomiest x.rooms } ∷ x.places }

seat_yes : (b : ℕ) (x : Scattered) → 0 < get_or x.rooms (roomiest x.rooms) 0 → place_stray b x ≡ Ok (seated b x)
unfolding place_stray
seat_yes b x some = ap (λ (v : Bool). cond v (Ok (seated b x)) (Err Strays)) (le-leb 1 (get_or x.rooms (roomiest x.rooms) 0) (omega arith))

seat_no : (b : ℕ) (x : Scattered) → get_or x.rooms (roomiest x.rooms) 0 ≡ 0 → place_stray b x ≡ Err Strays
unfolding place_stray
seat_no b x none = ap (λ (v : Bool). cond v (Ok (seated b x)) (Err Strays)) (lt-leb 1 (get_or x.rooms (roomiest x.rooms) 0) (omega (arith, none)))

module _ (wants : List (Option Want)) (k : ℕ) (before rooms marks_before marks : List ℕ) (so_far : IsSeating wants k before rooms marks_before marks) (below : k < length wants) where
  -- block k is no stray
  pub seat_passes : is_stray (want_of wants k) ≡ false → IsSeating wants (k + 1) before rooms marks_before marks
  seat_passes none = record {
    scattered = so_far.scattered;
    left = ap (λ (xs : List ℕ). each_ok place_stray xs so_far.scattered) (sym (stray_no_from wants k below none)) ∙ so_far.left;
    same = so_far.same;
    marked = so_far.marked;
    size = so_far.size;
    number = so_far.number;
  }

  first_step : is_stray (want_of wants k) ≡ true → then_ok (place_stray k so_far.scattered) (each_ok place_stray (strays_from wants (k + 1))) ≡ each_ok place_stray (blocks_with is_stray wants) (record { rooms = before; places = [] })
  first_step is = ap (λ (xs : List ℕ). each_ok place_stray xs so_far.scattered) (sym (stray_yes_from wants k below is)) ∙ so_far.left

  -- there is no room for block k
  pub seat_stops : is_stray (want_of wants k) ≡ true → get_or rooms (roomiest rooms) 0 ≡ 0 → each_ok place_stray (blocks_with is_stray wants) (record { rooms = before; places = [] }) ≡ Err Strays
  seat_stops is none =
      sym (first_step is)
      ∙ ap (λ (r : Result Scattered NoRoom). then_ok r (each_ok place_stray (strays_from wants (k + 1))))
      (seat_no k so_far.scattered (sym (ap (λ (xs : List ℕ). get_or xs (roomiest xs) 0) so_far.same) ∙ none))

  -- block k has its place
  pub seat_takes : (new marks_new : List ℕ) → is_stray (want_of wants k) ≡ true → 0 < get_or rooms (roomiest rooms) 0 → k < length marks → new ≡ less_room (roomiest rooms) 1 rooms → marks_new ≡ set marks k (2 ^ roomiest rooms)
      → IsSeating wants (k + 1) before new marks_before marks_new
  seat_takes new marks_new is some inside taken marked = record {
    scattered = seated k so_far.scattered;
    left = ap (λ (r : Result Scattered NoRoom). then_ok r (each_ok place_stray (strays_from wants (k + 1)))) (sym (seat_yes k so_far.scattered (subst (λ (xs : List ℕ). 0 < get_or xs (roomiest xs) 0) so_far.same some)))
        ∙ first_step is;
    same = taken ∙ ap (λ (xs : List ℕ). less_room (roomiest xs) 1 xs) so_far.same;
    marked = λ b. elim (cases_eq b k) [
      | inl at ↦
          ap (λ (xs : List ℕ). get_or xs b 0) marked
          ∙ ap (λ (i : ℕ). get_or (set marks k (2 ^ roomiest rooms)) i 0) at
          ∙ get_or-set_same marks k (2 ^ roomiest rooms) 0 inside
          ∙ ap (λ (xs : List ℕ). 2 ^ roomiest xs) so_far.same
          ∙ sym (ap (λ (v : Bool). mark_of (cond v (Some (roomiest so_far.scattered.rooms)) (place_in so_far.scattered.places b)) (get_or marks_before b 0)) (same_test k b (sym at)))
      | inr off ↦
          ap (λ (xs : List ℕ). get_or xs b 0) marked
          ∙ get_or-set_other marks k b (2 ^ roomiest rooms) 0 off
          ∙ so_far.marked b
          ∙ sym (ap (λ (v : Bool). mark_of (cond v (Some (roomiest so_far.scattered.rooms)) (place_in so_far.scattered.places b)) (get_or marks_before b 0)) (apart_test k b (λ e. off (sym e))))
    ];
    size = ap length marked ∙ length-set marks k (2 ^ roomiest rooms) ∙ so_far.size;
    number = ap length taken ∙ length-set rooms (roomiest rooms) (get_or rooms (roomiest rooms) 0 - 1) ∙ so_far.number;
  }

-- nothing was placed yet
pub seat_none : (wants : List (Option Want)) (rooms marks : List ℕ) → IsSeating wants 0 rooms rooms marks marks
seat_none wants rooms marks = record {
  scattered = record { rooms = rooms; places = [] };
  left = ap (λ (xs : List ℕ). each_ok place_stray (filter (λ b. is_stray (want_of wants b)) xs) (record { rooms = rooms; places = [] })) (range_start (length wants));
  same = refl;
  marked = λ b. refl;
  size = refl;
  number = refl;
}

pub seat_all : (wants : List (Option Want)) (k : ℕ) (before rooms marks_before marks : List ℕ) → length wants ≤ k → IsSeating wants k before rooms marks_before marks → HasSeats wants before rooms marks_before marks
seat_all wants k before rooms marks_before marks past so_far = record {
  scattered = so_far.scattered;
  placed = sym so_far.left ∙ ap (λ (xs : List ℕ). each_ok place_stray (filter (λ b. is_stray (want_of wants b)) xs) so_far.scattered) (range_end k (length wants) past);
  left = so_far.same;
  marked = so_far.marked;
  size = so_far.size;
}

-- a bit of a number of 16
pub bit_is : (s : ℕ) → s < 16 → 1 * 2 ^ s % 65536 ≡ 2 ^ s
bit_is s below =
    let most : 2 ^ s ≤ 2 ^ 15 = pow-le-pow_right {n = 2} (omega arith) {i = s} {j = 15} (omega arith) in
    omega (arith, most)
