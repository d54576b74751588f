-- A plan finds room: what each of its steps takes from the room of all boundaries together.
use Rattle.std.proofs.Common.{◌≡◌, ◌≢◌, ◌∙◌, ◌&&◌, ◌==◌, ℕ, zero, suc, ◌+◌, ◌-◌, ◌*◌, ◌%◌, ◌<◌, ◌≤◌, inl, inr, Bool, true, false, cond, not, List, [], ◌∷◌, ◌++◌, length, get_or, Option, Some, None, Result, Ok, Err, refl, sym, ap, subst, arith}
use Rattle.std.specs.Prelude.{Contains, IsOk, is_some, map, nat_lt, replicate}
use Rattle.std.specs.List.{filter, flat_map, range_with_len}
use Rattle.std.proofs.Math.Nat.{mul-le-mul_left}
use Rattle.std.proofs.lemmas.Bool.{and_parts, cases_Bool, cases_eq, cases_lt, leb-true, ltb-true}
use Rattle.std.proofs.lemmas.Bool.Decides.{nat_tests}
use Rattle.std.proofs.lemmas.List.{get_or-set_other, get_or-set_same, get_or-replicate, length-append, length-replicate, length-set}
use Rattle.dg_model.specs.Homes.{Ascend, home_of, with_home}
use Rattle.dg_model.specs.Plans.{Placed, Plan, Scattered, beside, blocks_with, boundary_for, count_of, each_ok, files_in, has_room, is_file, is_kept, is_stray, less_room, place_file, place_kept, place_stray, place_with, placed_on, places_of, plan, roomiest, roomiest_of, stay, stay_all, then_ok, waiting}
use Rattle.dg_model.specs.Wants.{want_of}
use Rattle.dg_model.specs.declared.homes.Home.{Home}
use Rattle.dg_model.specs.declared.parents.Parent.{Parent}
use Rattle.dg_model.specs.declared.shapes.Shape.{Shape}
use Rattle.dg_model.specs.declared.wants.Want.{Want}
use Rattle.dg_model.specs.declared.wants.Want.TheVariants.{File, Kept, Stray}
use Rattle.dg_model.proofs.HomeLaws.{AscendFrom, Ascending, ascending_from, home_new, home_others}
use Rattle.dg_model.proofs.NumberLists.{head_in}
use Rattle.dg_promise.proofs.PlanLaws.{NonePlaced, RiseFrom, files_rise, in_filter, in_tail, none_at_first, none_put, not_some, rise_above, rise_filter}
use Rattle.dg_promise.specs.Rooms.{HasRoom}

-- ---- the room of all boundaries

total : List ℕ → ℕ
total [] = 0
total (room ∷ rooms) = room + total rooms

total_less : (s count : ℕ) (rooms : List ℕ) → count ≤ get_or rooms s 0 → total (less_room s count rooms) + count ≡ total rooms
unfolding total
total_less s count [] fits = omega arith
total_less zero count (room ∷ rooms) fits = omega arith
total_less (suc s) count (room ∷ rooms) fits = let rest = total_less s count rooms fits in omega (arith, rest)

length_less : (s count : ℕ) (rooms : List ℕ) → length (less_room s count rooms) ≡ length rooms
length_less s count rooms = length-set rooms s (get_or rooms s 0 - count)

total_same : (k b : ℕ) → total (replicate b k) ≡ b * k
unfolding total
total_same k zero = omega arith
total_same k (suc b) = let rest = total_same k b in let product : suc b * k ≡ k + b * k = grind arith in omega (arith, rest, product)

-- no room is more than that of the roomiest boundary
at_most : (rooms : List ℕ) (n t : ℕ) → t < n → get_or rooms t 0 ≤ get_or rooms (roomiest_of rooms n) 0
at_most rooms zero t low = absurd (omega arith)
at_most rooms (suc n) t low = by_more (nat_lt (get_or rooms (roomiest_of rooms n) 0) (get_or rooms n 0)) refl (λ less. at_most rooms n t less)
  where
    before : (best : ℕ) → (t < n → get_or rooms t 0 ≤ get_or rooms best 0) → get_or rooms n 0 ≤ get_or rooms best 0 → get_or rooms t 0 ≤ get_or rooms best 0
    before best early last = elim (cases_lt t n) [
      | inl less ↦ early less
      | inr more ↦ let same : t ≡ n = omega arith in subst (λ (k : ℕ). get_or rooms k 0 ≤ get_or rooms best 0) (sym same) last
    ]

    by_more : (more : Bool) → nat_lt (get_or rooms (roomiest_of rooms n) 0) (get_or rooms n 0) ≡ more → (t < n → get_or rooms t 0 ≤ get_or rooms (roomiest_of rooms n) 0)
        → get_or rooms t 0 ≤ get_or rooms (cond more n (roomiest_of rooms n)) 0
    by_more true e early =
        let gain : get_or rooms (roomiest_of rooms n) 0 < get_or rooms n 0 = ltb-true (get_or rooms (roomiest_of rooms n) 0) (get_or rooms n 0) e in
        before n (λ less. let h = early less in omega (arith, h, gain)) (omega arith)
    by_more false e early =
        let most : get_or rooms n 0 ≤ get_or rooms (roomiest_of rooms n) 0 = grind (arith, nat_tests) in
        before (roomiest_of rooms n) early most

most_total : (most : ℕ) (rooms : List ℕ) → ((t : ℕ) → t < length rooms → get_or rooms t 0 ≤ most) → total rooms ≤ length rooms * most
unfolding total
most_total most [] low = omega arith
most_total most (room ∷ rooms) low =
    let first = low 0 (omega arith) in
    let rest = most_total most rooms (λ t less. low (suc t) (omega (arith, less))) in
    let product : suc (length rooms) * most ≡ most + length rooms * most = grind arith in
    omega (arith, first, rest, product)

-- so it has this much, where less on each boundary is less than there is
roomy : (count : ℕ) (rooms : List ℕ) → ((room : ℕ) → room < count → length rooms * room < total rooms) → has_room (roomiest rooms) count rooms ≡ true
unfolding roomiest
roomy count rooms enough = elim (cases_lt (get_or rooms (roomiest_of rooms (length rooms)) 0) count) [
  | inr more ↦ grind (arith, nat_tests)
  | inl less ↦
      let room = get_or rooms (roomiest_of rooms (length rooms)) 0 in
      let all = most_total room rooms (λ t low. at_most rooms (length rooms) t low) in
      let some = enough room less in
      absurd (omega (arith, all, some))
]

-- a file of few blocks
roomy_file : (count most : ℕ) (rooms : List ℕ) → count ≤ most → length rooms * most + count ≤ total rooms → has_room (roomiest rooms) count rooms ≡ true
roomy_file count most rooms few enough = roomy count rooms (λ room less.
    let product = mul-le-mul_left (length rooms) (let h : room ≤ most = omega (arith, less, few) in h) in
    omega (arith, product, enough, less))

-- ---- blocks by a test of their wants

tally : (Option Want → Bool) → List (Option Want) → ℕ
tally test [] = 0
tally test (want ∷ wants) = cond (test want) 1 0 + tally test wants

filtered : (f : ℕ → Bool) (test : Option Want → Bool) (wants : List (Option Want)) (a : ℕ) → ((b : ℕ) → f (a + b) ≡ test (want_of wants b))
    → length (filter f (range_with_len a (length wants))) ≡ tally test wants
unfolding tally
filtered f test [] a same = refl
filtered f test (want ∷ wants) a same =
    let first : f a ≡ test want = subst (λ (k : ℕ). f k ≡ test want) (let e : a + 0 ≡ a = omega arith in e) (same 0) in
    let rest = filtered f test wants (a + 1) (λ b. subst (λ (k : ℕ). f k ≡ test (want_of wants b)) (let e : a + suc b ≡ a + 1 + b = omega arith in e) (same (suc b))) in
    by_first (f a) refl first rest
  where
    count_one : Bool → ℕ
    count_one b = cond b 1 0

    by_first : (here : Bool) → f a ≡ here → f a ≡ test want → length (filter f (range_with_len (a + 1) (length wants))) ≡ tally test wants
        → length (cond here (a ∷ filter f (range_with_len (a + 1) (length wants))) (filter f (range_with_len (a + 1) (length wants)))) ≡ cond (test want) 1 0 + tally test wants
    by_first true is first rest = let one : count_one (test want) ≡ 1 = ap count_one (sym first ∙ is) in omega (arith, rest, one)
    by_first false is first rest = let none : count_one (test want) ≡ 0 = ap count_one (sym first ∙ is) in omega (arith, rest, none)

counted : (test : Option Want → Bool) (wants : List (Option Want)) → length (blocks_with test wants) ≡ tally test wants
counted test wants = filtered (λ b. test (want_of wants b)) test wants 0 (λ b. ap (λ (k : ℕ). test (want_of wants k)) (let e : 0 + b ≡ b = omega arith in e))

-- ---- blocks of files that aren't placed

waits : List Home → Option Want → Bool
waits homes None = false
waits homes (Some Kept) = false
waits homes (Some (File i)) = not (is_some (home_of homes i))
waits homes (Some Stray) = false

left : List Home → List (Option Want) → ℕ
left homes wants = tally (waits homes) wants

one_kind : (homes : List Home) (want : Option Want) → cond (waits homes want) 1 0 + cond (is_stray want) 1 0 ≤ 1
unfolding waits
one_kind homes None = omega arith
one_kind homes (Some Kept) = omega arith
one_kind homes (Some (File i)) = by_home (not (is_some (home_of homes i)))
  where
    by_home : (b : Bool) → cond b 1 0 + 0 ≤ 1
    by_home true = omega arith
    by_home false = omega arith
one_kind homes (Some Stray) = omega arith

few_left : (homes : List Home) (wants : List (Option Want)) → left homes wants + tally is_stray wants ≤ length wants
unfolding left tally
few_left homes [] = omega arith
few_left homes (want ∷ wants) =
    let first = one_kind homes want in
    let rest = few_left homes wants in
    omega (arith, first, rest)

one_placed : (home : Home) (homes : List Home) (want : Option Want) → home_of homes home.inode ≡ None
    → cond (waits (with_home home homes) want) 1 0 + cond (is_file home.inode want) 1 0 ≡ cond (waits homes want) 1 0
unfolding waits
one_placed home homes None none = refl
one_placed home homes (Some Kept) none = refl
one_placed home homes (Some (File j)) none = by_same (j == home.inode) refl
  where
    value : Option ℕ → ℕ
    value found = cond (not (is_some found)) 1 0

    by_same : (same : Bool) → (j == home.inode) ≡ same → value (home_of (with_home home homes) j) + cond same 1 0 ≡ value (home_of homes j)
    by_same true e =
        let same : j ≡ home.inode = grind (arith, nat_tests) in
        let now : value (home_of (with_home home homes) j) ≡ 0 = ap value (ap (home_of (with_home home homes)) same ∙ home_new home homes none) in
        let was : value (home_of homes j) ≡ 1 = ap value (ap (home_of homes) same ∙ none) in
        omega (arith, now, was)
    by_same false e =
        let apart : home.inode ≢ j = λ (is : home.inode ≡ j). grind (arith, nat_tests) in
        let same : value (home_of (with_home home homes) j) ≡ value (home_of homes j) = ap value (home_others home homes j apart) in
        omega (arith, same)
one_placed home homes (Some Stray) none = refl

all_placed : (home : Home) (homes : List Home) (wants : List (Option Want)) → home_of homes home.inode ≡ None
    → left (with_home home homes) wants + tally (is_file home.inode) wants ≡ left homes wants
unfolding left tally
all_placed home homes [] none = refl
all_placed home homes (want ∷ wants) none =
    let first = one_placed home homes want none in
    let rest = all_placed home homes wants none in
    omega (arith, first, rest)

-- ---- a step that finds room

-- it finds what has this property
abbrev Finds : {S E : Type 0} → Result S E → (S → Type 0) → Type 0
Finds {S} {E} found P = (s : S) × (found ≡ Ok s) × P s

then_found : {S T E : Type 0} (r : Result S E) (step : S → Result T E) (P : S → Type 0) (Q : T → Type 0) → Finds r P → ((s : S) → P s → Finds (step s) Q) → Finds (then_ok r step) Q
then_found (Ok t) step P Q found on = on t (subst P (let e : found.0 ≡ t = cc found.1 in e) found.2)
then_found (Err e) step P Q found on = absurd (cc found.1)

-- ---- kept blocks

-- all boundaries are there
abbrev AreThere : ℕ → List ℕ → Type 0
AreThere b [] = Unit {0}
AreThere b (s ∷ places) = (s < b) × AreThere b places

there_both : (b : ℕ) (xs ys : List ℕ) → AreThere b xs → AreThere b ys → AreThere b (xs ++ ys)
there_both b [] ys one two = two
there_both b (x ∷ xs) ys one two = (one.0, there_both b xs ys one.1 two)

row_there : (f : ℕ → ℕ) (b from n : ℕ) → ((i : ℕ) → f i < b) → AreThere b (map f (range_with_len from n))
row_there f b from zero low = tt
row_there f b from (suc n) low = (low from, row_there f b (from + 1) n low)

row_length : (f : ℕ → ℕ) (from n : ℕ) → length (map f (range_with_len from n)) ≡ n
row_length f from zero = refl
row_length f from (suc n) = let rest = row_length f (from + 1) n in omega (arith, rest)

remainder : (a b : ℕ) → 0 < b → a % b < b
remainder a b some = omega (arith, some)

places_there : (shape : Shape) (blocks : List ℕ) → 0 < shape.b → AreThere shape.b (flat_map (places_of shape) blocks) × (length (flat_map (places_of shape) blocks) ≡ shape.m * length blocks)
places_there shape [] some = (tt, omega arith)
places_there shape (b ∷ blocks) some =
    let rest = places_there shape blocks some in
    let long = length-append (places_of shape b) (flat_map (places_of shape) blocks) in
    let own = row_length (λ i. (b + i) % shape.b) 0 shape.m in
    let product : shape.m * suc (length blocks) ≡ shape.m + shape.m * length blocks = grind arith in (
      there_both shape.b (places_of shape b) (flat_map (places_of shape) blocks) (row_there (λ i. (b + i) % shape.b) shape.b 0 shape.m (λ i. remainder (b + i) shape.b some)) rest.0,
      (let tail = rest.1 in omega (arith, long, own, product, tail)),
    )

-- so many boundaries, and so much room
record IsLeft (b room : ℕ) (rooms : List ℕ) : Type 0 where
  count : length rooms ≡ b
  room_is : room ≤ total rooms

less_each : (s t : ℕ) (rooms : List ℕ) → s < length rooms → get_or rooms t 0 ≤ get_or (less_room s 1 rooms) t 0 + 1
less_each s t rooms low = elim (cases_eq t s) [
  | inr other ↦ let e = get_or-set_other rooms s t (get_or rooms s 0 - 1) 0 other in omega (arith, e)
  | inl same ↦
      let e = get_or-set_same rooms s (get_or rooms s 0 - 1) 0 low in
      let now = ap (λ (k : ℕ). get_or (less_room s 1 rooms) k 0) same in
      let was = ap (λ (k : ℕ). get_or rooms k 0) same in
      omega (arith, e, now, was)
]

kept_room : (b room : ℕ) (places rooms : List ℕ) → AreThere b places → length rooms ≡ b → ((t : ℕ) → t < b → length places ≤ get_or rooms t 0) → room + length places ≤ total rooms
    → Finds (each_ok place_kept places rooms) (IsLeft b room)
unfolding place_kept
kept_room b room [] rooms there count each all = (rooms, refl, record { count = count; room_is = omega (arith, all) })
kept_room b room (s ∷ places) rooms there count each all =
    let own = each s there.0 in
    let fits : has_room s 1 rooms ≡ true = let h : 1 ≤ get_or rooms s 0 = omega (arith, own) in grind (arith, nat_tests) in
    let taken = total_less s 1 rooms (omega (arith, own)) in
    rw fits (kept_room b room places (less_room s 1 rooms) there.1 (length_less s 1 rooms ∙ count)
    (λ t low. let before = each t low in let one = less_each s t rooms (let h = there.0 in omega (arith, h, count)) in omega (arith, before, one)) (omega (arith, taken, all)))

-- ---- files

-- so many boundaries, and so much room beside that for files that aren't placed
record HasLeft (b room : ℕ) (wants : List (Option Want)) (placed : Placed) : Type 0 where
  count : length placed.rooms ≡ b
  room_is : room + left placed.homes wants ≤ total placed.rooms

left_put : (b room i s : ℕ) (wants : List (Option Want)) (placed : Placed) → home_of placed.homes i ≡ None → has_room s (count_of wants i) placed.rooms ≡ true → HasLeft b room wants placed
    → HasLeft b room wants (placed_on i (count_of wants i) s placed)
left_put b room i s wants placed none fits is =
    let enough : count_of wants i ≤ get_or placed.rooms s 0 = leb-true (count_of wants i) (get_or placed.rooms s 0) fits in
    let taken = total_less s (count_of wants i) placed.rooms enough in
    let home = all_placed (record { inode = i; boundary = s }) placed.homes wants none in
    let count = counted (is_file i) wants in
    let before = is.room_is in
    record {
      count = length_less s (count_of wants i) placed.rooms ∙ is.count;
      room_is = omega (arith, taken, home, count, before);
    }

left_stay : (b room : ℕ) (wants : List (Option Want)) (home : Home) (placed : Placed) (homes : List Home) → AscendFrom home.inode homes → NonePlaced placed (home ∷ homes) → HasLeft b room wants placed
    → HasLeft b room wants (stay wants home placed) × NonePlaced (stay wants home placed) homes
unfolding stay
left_stay b room wants home placed homes up none is = elim (cases_Bool (nat_lt 0 (count_of wants home.inode) && has_room home.boundary (count_of wants home.inode) placed.rooms)) [
  | inl stays ↦
      let fits = (and_parts (nat_lt 0 (count_of wants home.inode)) (has_room home.boundary (count_of wants home.inode) placed.rooms) stays).1 in
      rw stays (
        left_put b room home.inode home.boundary wants placed none.0 fits is,
        none_put home.inode home.inode (count_of wants home.inode) home.boundary placed homes (omega arith) up none.1,
      )
  | inr goes ↦ rw goes (is, none.1)
]

left_stays : (b room : ℕ) (wants : List (Option Want)) (homes : List Home) (placed : Placed) → Ascending homes → NonePlaced placed homes → HasLeft b room wants placed
    → HasLeft b room wants (stay_all wants homes placed)
left_stays b room wants [] placed up none is = is
left_stays b room wants (home ∷ homes) placed up none is =
    let next = left_stay b room wants home placed homes up none is in
    left_stays b room wants homes (stay wants home placed) (later homes up) next.1 next.0
  where
    later : (homes : List Home) → AscendFrom home.inode homes → Ascending homes
    later [] up = tt
    later (next ∷ homes) up = up.1

fits_there : (count most : ℕ) (found : Option Home) (rooms : List ℕ) → count ≤ most → length rooms * most + count ≤ total rooms → has_room (boundary_for count found rooms) count rooms ≡ true
fits_there count most None rooms few enough = roomy_file count most rooms few enough
fits_there count most (Some home) rooms few enough = by_room (has_room home.boundary count rooms) refl
  where
    by_room : (room : Bool) → has_room home.boundary count rooms ≡ room → has_room (cond room home.boundary (roomiest rooms)) count rooms ≡ true
    by_room true e = e
    by_room false e = roomy_file count most rooms few enough

-- a file, and what has no home besides
abbrev IsPut : ℕ → Placed → Placed → Type 0
IsPut i placed new = (j : ℕ) → i ≢ j → home_of placed.homes j ≡ None → home_of new.homes j ≡ None

file_room : (b room most : ℕ) (wants : List (Option Want)) (parents : List Parent) (i : ℕ) (placed : Placed) → count_of wants i ≤ most → b * most ≤ room → home_of placed.homes i ≡ None → HasLeft b room wants placed
    → Finds (place_file wants parents i placed) (λ new. HasLeft b room wants new × IsPut i placed new)
unfolding place_with
file_room b room most wants parents i placed few enough none is =
    let s = boundary_for (count_of wants i) (beside parents i placed.homes) placed.rooms in
    let home = all_placed (record { inode = i; boundary = s }) placed.homes wants none in
    let count = counted (is_file i) wants in
    let before = is.room_is in
    let boundaries : length placed.rooms * most ≡ b * most = ap (λ (n : ℕ). n * most) is.count in
    let fits = fits_there (count_of wants i) most (beside parents i placed.homes) placed.rooms few (omega (arith, home, count, before, enough, boundaries)) in
    rw fits (
      placed_on i (count_of wants i) s placed,
      refl,
      (left_put b room i s wants placed none fits is, λ j other was. home_others (record { inode = i; boundary = s }) placed.homes j other ∙ was),
    )

files_room : (b room most n : ℕ) (wants : List (Option Want)) (parents : List Parent) (files : List ℕ) (placed : Placed) → ((i : ℕ) → count_of wants i ≤ most) → b * most ≤ room → RiseFrom n files
    → ((i : ℕ) → Contains files i → home_of placed.homes i ≡ None) → HasLeft b room wants placed → Finds (each_ok (place_file wants parents) files placed) (HasLeft b room wants)
unfolding RiseFrom
files_room b room most n wants parents [] placed few enough rise none is = (placed, refl, is)
files_room b room most n wants parents (i ∷ files) placed few enough rise none is =
    then_found (place_file wants parents i placed) (each_ok (place_file wants parents) files) (λ new. HasLeft b room wants new × IsPut i placed new) (HasLeft b room wants)
    (file_room b room most wants parents i placed (few i) enough (none i (head_in i files)) is)
    (λ new put. files_room b room most (suc i) wants parents files new few enough rise.1
    (λ j has. put.1 j (λ (same : i ≡ j). let high = rise_above (suc i) j files rise.1 has in absurd (omega (arith, same, high))) (none j (in_tail j i files has))) put.0)

-- ---- other blocks

stray_room : (room : ℕ) (blocks : List ℕ) (scattered : Scattered) → room + length blocks ≤ total scattered.rooms → Finds (each_ok place_stray blocks scattered) (λ end. room ≤ total end.rooms)
unfolding place_stray
stray_room room [] scattered enough = (scattered, refl, omega (arith, enough))
stray_room room (block ∷ blocks) scattered enough =
    let s = roomiest scattered.rooms in
    let fits = roomy 1 scattered.rooms (λ some less. let none : some ≡ 0 = omega (arith, less) in let product : length scattered.rooms * some ≡ 0 = rw none (omega arith) in omega (arith, product, enough)) in
    let taken = total_less s 1 scattered.rooms (leb-true 1 (get_or scattered.rooms s 0) fits) in
    rw fits (stray_room room blocks (record { rooms = less_room s 1 scattered.rooms; places = record { block = block; boundary = s } ∷ scattered.places }) (omega (arith, taken, enough)))

-- ---- the plan

ok_found : {S E : Type 0} (r : Result S E) (P : S → Type 0) → Finds r P → IsOk r
ok_found (Ok s) P found = refl
ok_found (Err e) P found = absurd (cc found.1)

pub plan_room : (shape : Shape) (wants : List (Option Want)) (parents : List Parent) (homes : List Home) (kept most : ℕ) → Ascend homes → HasRoom shape wants kept most
    → IsOk (plan shape wants parents homes)
unfolding plan
plan_room shape wants parents homes kept most up room =
    let blocks = blocks_with is_kept wants in
    let strays = tally is_stray wants in
    let most_kept = mul-le-mul_left shape.m room.few in
    let there = places_there shape blocks room.some in
    let all = total_same shape.k shape.b in
    let each = room.each in
    let enough = room.all in
    let few = few_left [] wants in
    let kept_left : ℕ = shape.b * most + length wants in
    let slack : ℕ = shape.b * most + tally is_stray wants in
    let long = there.1 in
    let Q : Plan → Type 0 = λ found. Unit {0} in
    ok_found _ Q
    (then_found (each_ok place_kept (flat_map (places_of shape) blocks) (replicate shape.b shape.k)) _ (IsLeft shape.b kept_left) Q
    (kept_room shape.b kept_left (flat_map (places_of shape) blocks) (replicate shape.b shape.k) there.0 (length-replicate shape.b shape.k)
    (λ t low. let here = get_or-replicate shape.b t shape.k 0 low in omega (arith, here, long, most_kept, each)) (omega (arith, all, long, most_kept, enough)))
    (λ rooms left_rooms.
    let start : Placed = record { rooms = rooms; homes = [] } in
    let room_is = left_rooms.room_is in
    let first : HasLeft shape.b slack wants start = record { count = left_rooms.count; room_is = omega (arith, room_is, few) } in
    let stayed = left_stays shape.b slack wants homes start (ascending_from homes up) (none_at_first rooms homes) first in
    then_found (each_ok (place_file wants parents) (waiting wants (stay_all wants homes start)) (stay_all wants homes start)) _ (HasLeft shape.b slack wants) Q
    (files_room shape.b slack most 0 wants parents (waiting wants (stay_all wants homes start)) (stay_all wants homes start) room.small (omega arith)
    (rise_filter _ 0 (files_in wants) (files_rise wants))
    (λ i has. not_some (home_of (stay_all wants homes start).homes i) (in_filter _ i (files_in wants) has).1) stayed)
    (λ placed is.
    let room_left = is.room_is in
    let count = counted is_stray wants in
    then_found (each_ok place_stray (blocks_with is_stray wants) (record { rooms = placed.rooms; places = [] })) _ (λ end. shape.b * most ≤ total end.rooms) Q
    (stray_room (shape.b * most) (blocks_with is_stray wants) (record { rooms = placed.rooms; places = [] }) (omega (arith, room_left, count)))
    (λ scattered some. (record { homes = placed.homes; strays = scattered.places }, refl, tt)))))
