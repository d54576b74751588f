-- Files that go to their boundaries, one after another.
use Rattle.std.proofs.Common.{◌≡◌, ◌<◌, ◌==◌, ℕ, Bool, true, false, cond, not, List, [], ◌∷◌, length, inl, inr, refl, sym, ◌∙◌, ap, subst}
use Rattle.std.proofs.Common.{Less}
use Rattle.std.specs.Prelude.{Option, Some, None, Result, filter, is_some}
use Rattle.std.specs.BTreeMap.{BTreeMap}
use Rattle.std.specs.Ordering.{nat_cmp}
use Rattle.std.specs.List.{AllByRecursion}
use Rattle.std.specs.List.Sorted.{IsStrictlySortedBy}
use Rattle.std.proofs.lemmas.Bool.{eqb-true, false≢true, or_cases}
use Rattle.std.proofs.lemmas.List.{length-set}
use Rattle.dg_model.specs.Homes.{home_of, with_home}
use Rattle.dg_model.specs.Plans.{Placed, each_ok, place_file, place_with, then_ok, waiting}
use Rattle.dg_model.specs.declared.homes.Home.{Home}
use Rattle.dg_model.specs.declared.parents.Parent.{Parent}
use Rattle.dg_model.specs.declared.wants.NoRoom.{NoRoom}
use Rattle.dg_model.specs.declared.wants.Want.{Want}
use Rattle.dg_plan.specs.Beside.{Rise}
use Rattle.dg_plan.specs.Files.{blocks_at}
use Rattle.dg_plan.specs.Placings.{ArePlaced, ArePositive, Goes, HasLeast, Knows, Stands, homes_in, placed_of}
use Rattle.dg_plan.specs.declared.placings.Placing.{Placing}
use Rattle.dg_plan.proofs.BesideLaws.{rise_more}
use Rattle.dg_plan.proofs.FileLaws.{files_same, found_here, found_later, numbers, same_is}
use Rattle.dg_plan.proofs.PlaceLaws.{has, has_head, has_tail}
use Rattle.dg_plan.proofs.StayLaws.{knows_counts, none_of, with_other}

-- ---- files in their order

sorted_tail : (i : ℕ) (js : List ℕ) → IsStrictlySortedBy nat_cmp (i ∷ js) → IsStrictlySortedBy nat_cmp js
unfolding IsStrictlySortedBy
sorted_tail i js sorted = sorted.1

all_less : (i j : ℕ) (js : List ℕ) → AllByRecursion (λ y. nat_cmp i y ≡ Less) js → has j js ≡ true → nat_cmp i j ≡ Less
all_less i j [] all there = absurd (false≢true there)
all_less i j (k ∷ js) all there = elim (or_cases (k == j) (has j js) there) [
  | inl at ↦ ap (nat_cmp i) (sym (eqb-true k j at)) ∙ all.0
  | inr later ↦ all_less i j js all.1 later
]

-- the first file isn't among the rest
first_apart : (i j : ℕ) (js : List ℕ) → IsStrictlySortedBy nat_cmp (i ∷ js) → has j js ≡ true → i ≡ j → ⊥
unfolding IsStrictlySortedBy
first_apart i j js sorted there same =
    let less = all_less i j js sorted.0 there in
    let equal = same_is i j same in
    cc

-- ---- numbers of blocks

-- the pairs are files with their numbers of blocks, as the whole table has them, and each has some
abbrev pub AreCounts : List (ℕ × ℕ) → List (ℕ × ℕ) → Type 0
AreCounts files [] = Unit {0}
AreCounts files (e ∷ es) = (e.1 ≡ blocks_at files e.0) × (0 < e.1) × AreCounts files es

counts_more : (e : ℕ × ℕ) (files es : List (ℕ × ℕ)) → ((j : ℕ) → has j (numbers es) ≡ true → e.0 ≡ j → ⊥) → AreCounts files es → AreCounts (e ∷ files) es
counts_more e files [] apart counts = tt
counts_more e files (x ∷ es) apart counts = (
  counts.0 ∙ sym (found_later x.0 e files (λ at. apart x.0 (has_head x.0 x.0 (numbers es) refl) (sym at))),
  counts.1,
  counts_more e files es (λ j there. apart j (has_tail j x.0 (numbers es) there)) counts.2,
)

counts_self : (es : List (ℕ × ℕ)) → IsStrictlySortedBy nat_cmp (numbers es) → ArePositive es → AreCounts es es
counts_self [] sorted positive = tt
counts_self (e ∷ es) sorted positive = (
  sym (found_here e.0 e.1 e.0 es refl),
  positive.0,
  counts_more e es es (λ j there. first_apart e.0 j (numbers es) sorted there) (counts_self es (sorted_tail e.0 (numbers es) sorted) positive.1),
)

-- ---- what was placed so far

abbrev pub is_waiting : Placed → ℕ → Bool
is_waiting placed i = not (is_some (home_of placed.homes i))

pub record IsGoing (wants : List (Option Want)) (parents : List Parent) (rest : List (ℕ × ℕ)) (start now : Placing) : Type 0 where
  pub left : each_ok (place_file wants parents) (filter (is_waiting (placed_of start)) (numbers rest)) (placed_of now)
      ≡ each_ok (place_file wants parents) (waiting wants (placed_of start)) (placed_of start)
  pub least : HasLeast parents now

-- and that the files that are left complete it
pub record IsPlacing (files directories : BTreeMap ℕ ℕ) (rest : List (ℕ × ℕ)) (start now : Placing) : Type 0 where
  pub rise : Rise (homes_in now.homes.entries)
  pub size : length now.rooms.items ≡ length start.rooms.items
  pub sorted : IsStrictlySortedBy nat_cmp (numbers rest)
  pub same : (j : ℕ) → has j (numbers rest) ≡ true → home_of (homes_in now.homes.entries) j ≡ home_of (homes_in start.homes.entries) j
  pub counts : AreCounts files.entries rest
  pub each : (wants : List (Option Want)) (parents : List Parent) → Knows wants parents files directories → HasLeast parents start → IsGoing wants parents rest start now

pub go_begins : (files directories : BTreeMap ℕ ℕ) (rest : List (ℕ × ℕ)) (start : Placing) → rest ≡ files.entries → Rise (homes_in start.homes.entries) → IsStrictlySortedBy nat_cmp (numbers files.entries)
    → ArePositive files.entries → IsPlacing files directories rest start start
go_begins files directories rest start all rise sorted positive =
    subst (λ es. IsPlacing files directories es start start) (sym all)
    (record {
      rise = rise;
      size = refl;
      sorted = sorted;
      same = λ j there. refl;
      counts = counts_self files.entries sorted positive;
      each = λ wants parents knows least. record {
        left = ap (λ js. each_ok (place_file wants parents) (filter (is_waiting (placed_of start)) js) (placed_of start)) (ap numbers knows.by_file ∙ files_same wants);
        least = least;
      };
    })

module _ (files directories : BTreeMap ℕ ℕ) (e : ℕ × ℕ) (rest : List (ℕ × ℕ)) (start now : Placing) (placing : IsPlacing files directories (e ∷ rest) start now) where
  kept_by : (js : List ℕ) (b : Bool) → is_waiting (placed_of start) e.0 ≡ b → filter (is_waiting (placed_of start)) (e.0 ∷ js) ≡ cond b (e.0 ∷ filter (is_waiting (placed_of start)) js) (filter (is_waiting (placed_of start)) js)
  kept_by js b is = ap (λ (v : Bool). cond v (e.0 ∷ filter (is_waiting (placed_of start)) js) (filter (is_waiting (placed_of start)) js)) is

  at_start : home_of (homes_in now.homes.entries) e.0 ≡ home_of (homes_in start.homes.entries) e.0
  at_start = placing.same e.0 (has_head e.0 e.0 (numbers rest) refl)

  -- the file has a home already
  pub go_skips : is_some (home_of (homes_in now.homes.entries) e.0) ≡ true → IsPlacing files directories rest start now
  go_skips housed = record {
    rise = placing.rise;
    size = placing.size;
    sorted = sorted_tail e.0 (numbers rest) placing.sorted;
    same = λ j there. placing.same j (has_tail j e.0 (numbers rest) there);
    counts = placing.counts.2;
    each = λ wants parents knows least.
        let so_far = placing.each wants parents knows least in
        record {
          left = ap (λ js. each_ok (place_file wants parents) js (placed_of now)) (sym (kept_by (numbers rest) false (ap (λ o. not (is_some o)) (sym at_start) ∙ ap not housed))) ∙ so_far.left;
          least = so_far.least;
        };
  }

  -- the file has none
  pub go_none : is_some (home_of (homes_in now.homes.entries) e.0) ≡ false → home_of (homes_in now.homes.entries) e.0 ≡ None
  go_none free = none_of (home_of (homes_in now.homes.entries) e.0) (λ found. false≢true (sym free ∙ found))

  first_goes : (wants : List (Option Want)) (parents : List Parent) → Knows wants parents files directories → HasLeast parents start → is_some (home_of (homes_in now.homes.entries) e.0) ≡ false
      → then_ok (place_with e.1 parents e.0 (placed_of now)) (each_ok (place_file wants parents) (filter (is_waiting (placed_of start)) (numbers rest)))
      ≡ each_ok (place_file wants parents) (waiting wants (placed_of start)) (placed_of start)
  first_goes wants parents knows least free =
      ap (λ (c : ℕ). then_ok (place_with c parents e.0 (placed_of now)) (each_ok (place_file wants parents) (filter (is_waiting (placed_of start)) (numbers rest)))) (placing.counts.0 ∙ knows_counts wants parents files directories knows e.0)
      ∙ ap (λ js. each_ok (place_file wants parents) js (placed_of now)) (sym (kept_by (numbers rest) true (ap (λ o. not (is_some o)) (sym at_start) ∙ ap not free)))
      ∙ (placing.each wants parents knows least).left

  -- it got one
  pub go_places : (new : Placing) → is_some (home_of (homes_in now.homes.entries) e.0) ≡ false → Goes directories e.1 e.0 now new true → Stands e.0 e.1 now new → IsPlacing files directories rest start new
  go_places new free goes stands =
      let none = go_none free in
      let home : Home = record { inode = e.0; boundary = stands.boundary } in
      let homes : homes_in new.homes.entries ≡ with_home home (homes_in now.homes.entries) = ap (λ (p : Placed). p.homes) stands.placed in
      record {
        rise = subst Rise (sym homes) (rise_more home (homes_in now.homes.entries) placing.rise none);
        size = ap (λ (p : Placed). length p.rooms) stands.placed ∙ length-set now.rooms.items _ _ ∙ placing.size;
        sorted = sorted_tail e.0 (numbers rest) placing.sorted;
        same = λ j there.
            ap (λ hs. home_of hs j) homes
            ∙ with_other home (homes_in now.homes.entries) j (first_apart e.0 j (numbers rest) placing.sorted there)
            ∙ placing.same j (has_tail j e.0 (numbers rest) there);
        counts = placing.counts.2;
        each = λ wants parents knows least.
            let gone = goes parents knows.by_directory (placing.each wants parents knows least).least in
            record {
              left = sym (ap (λ (r : Result Placed NoRoom). then_ok r (each_ok (place_file wants parents) (filter (is_waiting (placed_of start)) (numbers rest)))) gone.0)
                  ∙ first_goes wants parents knows least free;
              least = gone.1;
            };
      }

  -- there is no room for it
  pub go_stops : (new : Placing) → is_some (home_of (homes_in now.homes.entries) e.0) ≡ false → Goes directories e.1 e.0 now new false → (last : Placing) → ArePlaced files directories start last (Some e.0)
  go_stops new free goes last wants parents knows least =
      sym (first_goes wants parents knows least free)
      ∙ ap (λ (r : Result Placed NoRoom). then_ok r (each_ok (place_file wants parents) (filter (is_waiting (placed_of start)) (numbers rest))))
      (goes parents knows.by_directory (placing.each wants parents knows least).least)

pub go_ends : (files directories : BTreeMap ℕ ℕ) (rest : List (ℕ × ℕ)) (start now : Placing) → rest ≡ [] → IsPlacing files directories rest start now → ArePlaced files directories start now None
go_ends files directories rest start now none placing wants parents knows least =
    sym (placing.each wants parents knows least).left
    ∙ ap (λ es. each_ok (place_file wants parents) (filter (is_waiting (placed_of start)) (numbers es)) (placed_of now)) none
