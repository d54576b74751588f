-- A rack of the boundaries in use that goes on with fewer of them.
use Rattle.std.proofs.Common.{◌≡◌, ◌∙◌, ◌+◌, ◌-◌, ◌*◌, ◌/◌, ◌%◌, ◌<◌, ◌≤◌, ◌==◌, ℕ, Bool, true, false, List, [], ◌∷◌, ◌++◌, None, Some, All, filter, length, get_or, slice_index, nat_lt, if◌then◌else◌, refl, sym, ap, subst, arith, add-one, zero-add}
use Rattle.std.specs.Int.{bit_at}
use Rattle.std.specs.List.{range_with_len}
use Rattle.std.specs.List.Sorted.{IsStrictlyIncreasing}
use Rattle.std.proofs.lemmas.Bool.Decides.{nat_tests}
use Rattle.std.proofs.lemmas.List.{append-nil, get_or-map, length-map, map-append}
use Rattle.std.proofs.lemmas.List.Elements.{All-filter, filter-append}
use Rattle.std.proofs.lemmas.List.FromFn.{get_or-range_with_len, length-range_with_len}
use Rattle.std.proofs.lemmas.List.Kept.{IsStrictlyIncreasing-filter}
use Rattle.dg_io.specs.Kept.{Kept}
use Rattle.dg_io.specs.Reduced.{IsKeptLeft, LeavesLeft, member_before, places_left}
use Rattle.dg_io.specs.declared.outside.Rack.{Ghosts}
use Rattle.dg_model.proofs.ActionLists.{range_last}
use Rattle.dg_model.proofs.RegroupLaws.{rises}
use Rattle.dg_model.specs.Lives.{boundary_at, member_at}
use Rattle.dg_regroup.specs.LiveGhosts.{live}
use Rattle.dg_regroup.specs.LiveRacks.{IsKeptAt, is_there, live_left, passed}
use Rattle.dg_regroup.specs.declared.live_racks.LiveRack.{LiveRack}

-- ---- the list

one_more : (p : ℕ → Bool) (x y : ℕ) → y ≡ x → filter p (y ∷ []) ≡ (if p x then x ∷ [] else [])
one_more p x y e = ap (λ (s : ℕ). if p s then s ∷ [] else []) e

pub filter_more : (p : ℕ → Bool) (x : ℕ) → filter p (range_with_len 0 (x + 1)) ≡ filter p (range_with_len 0 x) ++ (if p x then x ∷ [] else [])
filter_more p x =
    ap (λ n. filter p (range_with_len 0 n)) (add-one x)
    ∙ ap (filter p) (range_last 0 x)
    ∙ filter-append p (range_with_len 0 x) ((0 + x) ∷ [])
    ∙ ap (λ (xs : List ℕ). filter p (range_with_len 0 x) ++ xs) (one_more p x (0 + x) (zero-add x))

pub left_more : (lost x : ℕ) → places_left lost (x + 1) ≡ places_left lost x ++ (if bit_at lost x == 0 then x ∷ [] else [])
left_more lost x = filter_more (λ s. bit_at lost s == 0) x

pub kept_more : (lost x : ℕ) (live : List ℕ) → (bit_at lost x == 0) ≡ true → live_left (places_left lost (x + 1)) live ≡ live_left (places_left lost x) live ++ slice_index live x ∷ []
kept_more lost x live is =
    let e : places_left lost (x + 1) ≡ places_left lost x ++ x ∷ [] = left_more lost x ∙ ap (λ (b : Bool). places_left lost x ++ (if b then x ∷ [] else [])) is in
    ap (λ (left : List ℕ). live_left left live) e ∙ map-append (λ s. boundary_at live s) (places_left lost x) (x ∷ [])

pub dropped_more : (lost x : ℕ) (live : List ℕ) → (bit_at lost x == 0) ≡ false → live_left (places_left lost (x + 1)) live ≡ live_left (places_left lost x) live
dropped_more lost x live is =
    let e : places_left lost (x + 1) ≡ places_left lost x ++ [] = left_more lost x ∙ ap (λ (b : Bool). places_left lost x ++ (if b then x ∷ [] else [])) is in
    ap (λ (left : List ℕ). live_left left live) (e ∙ append-nil (places_left lost x))

-- one number more
pub range_more : (n : ℕ) → range_with_len 0 (n + 1) ≡ range_with_len 0 n ++ n ∷ []
range_more n =
    ap (λ (k : ℕ). range_with_len 0 k) (add-one n)
    ∙ range_last 0 n
    ∙ ap (λ (k : ℕ). range_with_len 0 n ++ k ∷ []) (zero-add n)

pub range_ascends : (n : ℕ) → IsStrictlyIncreasing (range_with_len 0 n)
range_ascends n k low =
    let long = length-range_with_len 0 n in
    omega (arith, get_or-range_with_len 0 n k 0 (omega (arith, low, long)), get_or-range_with_len 0 n (k + 1) 0 (omega (arith, low, long)))

pub places_ascend : (lost n : ℕ) → IsStrictlyIncreasing (places_left lost n)
places_ascend lost n = IsStrictlyIncreasing-filter (λ s. bit_at lost s == 0) (range_with_len 0 n) (range_ascends n)

pub range_low : (n : ℕ) → All (λ x. x < n) (range_with_len 0 n)
range_low n k d low =
    let long = length-range_with_len 0 n in
    let within : k < n = omega (arith, low, long) in
    omega (arith, within, get_or-range_with_len 0 n k d within)

pub places_low : (lost n : ℕ) → All (λ x. x < n) (places_left lost n)
places_low lost n = All-filter (λ s. bit_at lost s == 0) (λ x. x < n) (range_with_len 0 n) (range_low n)

pub left_ascends : (left live : List ℕ) → IsStrictlyIncreasing live → IsStrictlyIncreasing left → All (λ x. x < length live) left → IsStrictlyIncreasing (live_left left live)
left_ascends left live rise up low k within =
    let f : ℕ → ℕ = λ x. boundary_at live x in
    let long = length-map left f in
    let first : k < length left = omega (arith, within, long) in
    let second : k + 1 < length left = omega (arith, within, long) in
    let lt = rises live rise (get_or left k 0) (get_or left (k + 1) 0) (up k second) (low (k + 1) 0 second) in
    omega (arith, lt, get_or-map f left k 0 0 first, get_or-map f left (k + 1) 0 0 second)

pub left_few : (left live : List ℕ) (most : ℕ) → All (λ s. s < most) live → All (λ x. x < length live) left → All (λ s. s < most) (live_left left live)
left_few left live most few low k d within =
    let f : ℕ → ℕ = λ x. boundary_at live x in
    let first : k < length left = omega (arith, within, length-map left f) in
    let lt = few (get_or left k 0) 0 (low k 0 first) in
    omega (arith, lt, get_or-map f left k 0 d first)

-- ---- places

-- a member that is left, at its new place and at its old one
pub record IsMoved (left live : List ℕ) (q : ℕ) : Type 0 where
  pub now : is_there (live_left left live) q ≡ true
  pub was : is_there live (member_before left q) ≡ true
  pub same : member_at (live_left left live) q ≡ member_at live (member_before left q)

pub moved : (left live : List ℕ) (q : ℕ) → q / 2 < length left → All (λ x. x < length live) left → IsMoved left live q
moved left live q within low =
    let f : ℕ → ℕ = λ x. boundary_at live x in
    let long = length-map left f in
    let less = low (q / 2) 0 within in
    let half : (2 * slice_index left (q / 2) + q % 2) / 2 ≡ slice_index left (q / 2) = omega arith in
    let odd : (2 * slice_index left (q / 2) + q % 2) % 2 ≡ q % 2 = omega arith in
    let at = get_or-map f left (q / 2) 0 0 within in record {
      now = grind (arith, nat_tests, long, within);
      was = rw half (grind (arith, nat_tests, less));
      same = rw (half, odd, at) refl;
    }

passed_moved : {A : Type 0} (left live : List ℕ) (said absent : ℕ → A) (q : ℕ) → IsMoved left live q → passed (live_left left live) said absent q ≡ passed live said absent (member_before left q)
passed_moved left live said absent q is = rw (is.now, is.was, is.same) refl

module _ {R : Type 0} (rack : Ghosts R) where
  kept_left : (left lives : List ℕ) (below kept : Kept) → All (λ x. x < length lives) left → IsKeptAt lives below kept
      → (next : Kept) × IsKeptLeft left kept next × IsKeptAt (live_left left lives) below next
  kept_left left lives below kept low at =
      let now = live_left left lives in
      let next : Kept = record { entries = λ q. if is_there now q then below.entries (member_at now q) else below.entries (q - 2 * length now); extra = below.extra } in (
        next,
        record {
          entries = λ q within. (let is = moved left lives q within low in rw (is.now, is.same, at.entries (member_before left q) is.was) refl);
          extra = sym at.extra;
        },
        record {
          entries = λ q here. rw here refl;
          extra = refl;
          nothing = λ none. record { entries = λ p. behind now below p (none.entries (p + 2 * length now)); extra = none.extra };
        },
      )
    where
      behind : (now : List ℕ) (below : Kept) (p : ℕ) → (if is_there now (p + 2 * length now) then below.entries (member_at now (p + 2 * length now)) else below.entries (p + 2 * length now - 2 * length now)) ≡ None
          → below.entries p ≡ None
      behind now below p none =
          let high : length now ≤ (p + 2 * length now) / 2 = omega arith in
          let gone : is_there now (p + 2 * length now) ≡ false = grind (arith, nat_tests, high) in
          let back : p + 2 * length now - 2 * length now ≡ p = omega arith in
          rw (gone, back) at none

  pub leaves_left : (left : List ℕ) (old new : LiveRack R) → new.rack ≡ old.rack → new.calls ≡ old.calls → new.writes ≡ old.writes → new.live.items ≡ live_left left old.live.items
      → All (λ x. x < length old.live.items) left → LeavesLeft (live rack) left old new
  leaves_left left old new same calls writes lives low = record {
    bytes = λ q within. rw (same, lives) (passed_moved left old.live.items (rack.bytes old.rack) (λ q. Some []) q (at q within));
    faults = λ q within. (let is = at q within in rw (same, lives, is.now, is.was, is.same) refl);
    stands = λ q within. rw (same, lives) (passed_moved left old.live.items (rack.stands old.rack) (λ q. false) q (at q within));
    tells = λ q within. (let is = at q within in (
      λ h here. rw (same, lives, is.same) (h is.was),
      λ h here. subst (λ (p : ℕ). rack.tells old.rack p) is.same (subst (λ (below : R). rack.tells below (member_at (live_left left old.live.items) q)) same ((rw lives at h) is.now)),
    ));
    calls = rw (same, calls) refl;
    writes = rw (same, writes) refl;
    steady_on = rw same (λ h. h, λ h. h);
    kept = λ kept keeps. (let next = kept_left left old.live.items keeps.0 kept low keeps.2 in (next.0, next.1, (keeps.0, rw same keeps.1, rw lives next.2)));
    untold = λ keeps. (keeps.0, rw same keeps.1);
    out = λ s j within. rw same (group (rack.disks old.rack).out s j false within);
    disk_faults = λ s j within. rw same (group (rack.disks old.rack).faults s j 0 within);
  } where
    at : (q : ℕ) → q / 2 < length left → IsMoved left old.live.items q
    at q within = moved left old.live.items q within low

    group : {A : Type 0} (said : ℕ → ℕ → A) (s j : ℕ) (none : A) → s < length left
        → (if nat_lt s (length new.live.items) then said (boundary_at new.live.items s) j else none)
        ≡ (if nat_lt (slice_index left s) (length old.live.items) then said (boundary_at old.live.items (slice_index left s)) j else none)
    group said s j none within =
        let f : ℕ → ℕ = λ x. boundary_at old.live.items x in
        let long = length-map left f in
        let less = low s 0 within in
        let now : nat_lt s (length (live_left left old.live.items)) ≡ true = grind (arith, nat_tests, long, within) in
        let was : nat_lt (slice_index left s) (length old.live.items) ≡ true = grind (arith, nat_tests, less) in
        let at = get_or-map f left s 0 0 within in
        rw (lives, now, was, at) refl
