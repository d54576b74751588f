-- What is reached through a source that an inode owns.
use Rattle.std.proofs.Common.{◌≡◌, ◌∙◌, ℕ, ◌+◌, ◌-◌, ◌*◌, ◌/◌, ◌^◌, ◌<◌, ◌≤◌, List, Option, Some, None, refl, sym, ap, subst, arith}
use Rattle.std.specs.Prelude.{Contains, slice_get}
use Rattle.std.proofs.Math.Nat.{add-mul}
use Rattle.ufs_model.specs.Blocks.{Volume}
use Rattle.ufs_model.specs.Claims.{IsClaim, by_pointer, by_slot, fragments_from, level_of, source_fragments}
use Rattle.ufs_model.specs.Owners.{IsOnlyClaim, IsOwner}
use Rattle.ufs_model.specs.Owners.IsOwner.{by_own_slot, by_upper}
use Rattle.ufs_model.specs.Malformations.{Claims, FirstBlock, first_block}
use Rattle.ufs_model.specs.Malformations.FirstBlock.{of_pointer, of_slot}
use Rattle.ufs_model.specs.declared.claims.ClaimSource.{ClaimSource}
use Rattle.ufs_model.specs.declared.claims.ClaimSource.TheVariants.{Slot, Pointer}
use Rattle.ufs_model.specs.declared.geometries.Geometry.{Geometry}
use Rattle.dg_claims.specs.Tables.{ClaimTable, IsSource, TableClaims}
use Rattle.ufs_check.proofs.RunLaws.{contains_from, contains_got, from_contains, from_get, get_from, upper_run}
use Rattle.ufs_check.specs.Fragments.{HasClaimsOf, IsUpperIn}
use Rattle.ufs_check.specs.Reaches.{IsPlaceIn, IsReach, OwnsSource, ReachesAll, ReachesAs, ReachesThis}
use Rattle.ufs_check.specs.declared.reaches.Reach.{Reach}

-- ---- claims

claim_contains : (claimed : ClaimSource → List ℕ) (f : ℕ) (source : ClaimSource) → IsClaim claimed f source → Contains (claimed source) f
claim_contains claimed f source (by_slot h) = h
claim_contains claimed f source (by_pointer upper level above h) = h

same_claim : (claimed : ClaimSource → List ℕ) (f x : ℕ) (source : ClaimSource) → IsClaim claimed f source → Contains (claimed source) x → IsClaim claimed x source
same_claim claimed f x source (by_slot h) has = by_slot has
same_claim claimed f x source (by_pointer upper level above h) has = by_pointer upper level above has

-- what is reached is claimed
pub reach_claim : (g : Geometry) (v : Volume) (source : ClaimSource) (i n f : ℕ) → FirstBlock g v source i n → Contains (source_fragments g v source) f
    → IsClaim (source_fragments g v) f source
reach_claim g v source i n f of_slot has = by_slot has
reach_claim g v source i n f (of_pointer {f = upper} {n = m} {source = other} place before here level above) has =
    by_pointer (reach_claim g v other i m upper before (contains_got (source_fragments g v other) place upper here)) level above has

-- the one claim by a table is the one claim of the volume
only_on : (g : Geometry) (table : ClaimTable) (v : Volume) (f : ℕ) (source : ClaimSource) → HasClaimsOf g table v → IsOnlyClaim (TableClaims table) f source
    → IsOnlyClaim (Claims g v) f source
only_on g table v f source has one = record { claim = (has f source).0 one.claim; only = λ other claim. one.only other ((has f other).1 claim) }

only_in : (g : Geometry) (table : ClaimTable) (v : Volume) (f : ℕ) (source : ClaimSource) → HasClaimsOf g table v → IsOnlyClaim (Claims g v) f source
    → IsOnlyClaim (TableClaims table) f source
only_in g table v f source has one = record { claim = (has f source).1 one.claim; only = λ other claim. one.only other ((has f other).0 claim) }

-- ---- owners

-- the one claim of a fragment with an owner
record IsOwned (g : Geometry) (v : Volume) (f i level : ℕ) : Type 0 where
  pub source : ClaimSource
  pub one : IsOnlyClaim (Claims g v) f source
  pub of_level : level_of source ≡ level
  pub owns : OwnsSource g v source i

owned_of : (g : Geometry) (v : Volume) (f i level : ℕ) → IsOwner (Claims g v) f i level → IsOwned g v f i level
owned_of g v f i level (by_own_slot {slot = slot} one is) = record { source = Slot i slot; one = one; of_level = is; owns = refl }
owned_of g v f i level (by_upper {upper = upper} {at = at} {above = above} one is owner) =
    record { source = Pointer upper above at; one = one; of_level = is; owns = owner }

owner_by : (g : Geometry) (v : Volume) (f i level : ℕ) (source : ClaimSource) → IsOnlyClaim (Claims g v) f source → level_of source ≡ level → OwnsSource g v source i
    → IsOwner (Claims g v) f i level
owner_by g v f i level (Slot j slot) one is owns =
    subst (λ k. IsOwner (Claims g v) f k level) owns (by_own_slot one is)
owner_by g v f i level (Pointer upper above at) one is owns = by_upper one is owns

-- by a table its claim is this one
owned_same : (g : Geometry) (table : ClaimTable) (v : Volume) (f i level : ℕ) (source : ClaimSource) → HasClaimsOf g table v → IsOnlyClaim (TableClaims table) f source
    → (owned : IsOwned g v f i level) → owned.source ≡ source
owned_same g table v f i level source has one owned = one.only (owned.source) ((has f (owned.source)).1 owned.one.claim)

-- ---- the place of a fragment among those of its source

-- two runs with the same fragments begin with the same one
same_start : (a b j k f : ℕ) → Contains (fragments_from a j) f → Contains (fragments_from b k) f
    → ((x : ℕ) → Contains (fragments_from a j) x → Contains (fragments_from b k) x) → ((x : ℕ) → Contains (fragments_from b k) x → Contains (fragments_from a j) x) → a ≡ b
same_start a b j k f one other there back =
    let first = from_contains a j f one in
    let second = from_contains b k f other in
    let low = from_contains b k a (there a (contains_from a j a (omega arith) (omega arith))) in
    let high = from_contains a j b (back b (contains_from b k b (omega arith) (omega arith))) in
    omega arith

-- what the place in the table says of the volume
pub placed : (g : Geometry) (table : ClaimTable) (v : Volume) (source : ClaimSource) (f place first count : ℕ) → HasClaimsOf g table v
    → IsClaim (source_fragments g v) f source → 0 < level_of source → table.claimed source ≡ fragments_from first count → IsPlaceIn (table.claimed source) f place
    → slice_get (source_fragments g v source) place ≡ Some f
placed g table v source f place first count has claim above run_is place_is =
    let own = claim_contains (source_fragments g v) f source claim in
    let run = upper_run g v source f above own in
    let kept : Contains (fragments_from first count) f = subst (λ xs. Contains xs f) run_is ((has f source).1 claim) in
    let start : first ≡ run.0 = same_start first (run.0) count g.frag f kept (subst (λ xs. Contains xs f) (run.1) own)
    (λ x has_x. subst (λ xs. Contains xs x) (run.1) (claim_contains (source_fragments g v) x source ((has x source).0 (subst (λ xs. Contains xs x) (sym run_is) has_x))))
    (λ x has_x. subst (λ xs. Contains xs x) run_is ((has x source).1 (same_claim (source_fragments g v) f x source claim (subst (λ xs. Contains xs x) (sym (run.1)) has_x)))) in
    let here : f ≡ first + place = from_get first count place f (subst (λ xs. slice_get xs place ≡ Some f) run_is place_is) in
    let inside = from_contains (run.0) g.frag f (subst (λ xs. Contains xs f) (run.1) own) in
    let within : place < g.frag = omega arith in
    let at : f ≡ run.0 + place = omega arith in
    rw (run.1) (get_from (run.0) g.frag place within ∙ ap Some (sym at))

-- ---- a pointer, by what is above it

-- what a pointer of a fragment reaches through the source that claims the fragment
record IsAbove (g : Geometry) (v : Volume) (f level at i n : ℕ) : Type 0 where
  pub source : ClaimSource
  pub m : ℕ
  pub place : ℕ
  pub before : FirstBlock g v source i m
  pub here : slice_get (source_fragments g v source) place ≡ Some f
  pub of_level : level_of source ≡ level
  pub above : 0 < level
  pub total : n ≡ m + (place * (g.fsize / 4) + at) * g.nindir ^ (level - 1)

above_of : (g : Geometry) (v : Volume) (f level at i n : ℕ) → FirstBlock g v (Pointer f level at) i n → IsAbove g v f level at i n
above_of g v f level at i n (of_pointer {n = m} {source = source} place before here of_level above) = record {
  source = source;
  m = m;
  place = place;
  before = before;
  here = here;
  of_level = of_level;
  above = above;
  total = refl;
}

above_claim : (g : Geometry) (v : Volume) (f level at i n : ℕ) (up : IsAbove g v f level at i n) → IsClaim (source_fragments g v) f (up.source)
above_claim g v f level at i n up = reach_claim g v (up.source) i (up.m) f up.before (contains_got (source_fragments g v (up.source)) (up.place) f up.here)

above_same : (g : Geometry) (table : ClaimTable) (v : Volume) (f level at i n : ℕ) (source : ClaimSource) → HasClaimsOf g table v → IsOnlyClaim (TableClaims table) f source
    → (up : IsAbove g v f level at i n) → up.source ≡ source
above_same g table v f level at i n source has one up = one.only (up.source) ((has f (up.source)).1 (above_claim g v f level at i n up))

-- ---- what is reached through a source

pub pointer_level : (g : Geometry) (source : ClaimSource) (f level at : ℕ) → source ≡ Pointer f level at → IsSource (Some g) source → 0 < level
pointer_level g source f level at is from = let one = (subst (λ s. IsSource (Some g) s) is from).0 in omega arith

abbrev IsAnswer : Option (ℕ × ℕ) → Option (ℕ × ℕ) → Type 0
IsAnswer r answer = r ≡ answer

abbrev inode_in : Option (ℕ × ℕ) → ℕ
inode_in None = 0
inode_in (Some first) = first.0

abbrev block_in : Option (ℕ × ℕ) → ℕ
block_in None = 0
block_in (Some first) = first.1

slot_only : (g : Geometry) (v : Volume) (i slot j m : ℕ) → FirstBlock g v (Slot i slot) j m → IsAnswer (Some (i, first_block g slot)) (Some (j, m))
slot_only g v i slot j m of_slot = refl

pub reaches_slot : (g : Geometry) (v : Volume) (source : ClaimSource) (i slot n : ℕ) → source ≡ Slot i slot → n ≡ first_block g slot → ReachesAs g v source (Some (i, n))
reaches_slot g v source i slot n is value = rw (is, value) (record { is = (refl, of_slot); only = λ j m owns h. slot_only g v i slot j m h })

-- there is no answer where the pointer's fragment has no owner through whose pointers blocks are reached
reaches_none : (g : Geometry) (v : Volume) (source : ClaimSource) (f level at : ℕ) (r : Option (ℕ × ℕ)) → source ≡ Pointer f level at → r ≡ None
    → ((i n : ℕ) → IsOwned g v f i level → IsAbove g v f level at i n → ⊥) → ReachesAs g v source r
reaches_none g v source f level at r is empty none =
    rw (is, empty) (record { is = tt; only = λ i n owns h. absurd (none i n (owned_of g v f i level owns) (above_of g v f level at i n h)) })

-- the fragment of the pointer has no claim, or more than one
pub reaches_no_claim : (g : Geometry) (table : ClaimTable) (v : Volume) (source : ClaimSource) (f level at : ℕ) (r : Option (ℕ × ℕ)) → source ≡ Pointer f level at → r ≡ None
    → HasClaimsOf g table v → ((upper : ClaimSource) → IsOnlyClaim (TableClaims table) f upper → ⊥) → ReachesAs g v source r
reaches_no_claim g table v source f level at r is empty has none =
    reaches_none g v source f level at r is empty (λ i n owned up. none (owned.source) (only_in g table v f (owned.source) has owned.one))

-- its claim is at another level
pub reaches_other_level : (g : Geometry) (table : ClaimTable) (v : Volume) (source upper : ClaimSource) (f level at : ℕ) (r : Option (ℕ × ℕ)) → source ≡ Pointer f level at → r ≡ None
    → HasClaimsOf g table v → IsOnlyClaim (TableClaims table) f upper → (level_of upper ≡ level → ⊥) → ReachesAs g v source r
reaches_other_level g table v source upper f level at r is empty has one differ =
    reaches_none g v source f level at r is empty
    (λ i n owned up. differ (ap level_of (sym (above_same g table v f level at i n upper has one up)) ∙ up.of_level))

-- nothing is reached through its source
pub reaches_no_upper : (g : Geometry) (table : ClaimTable) (v : Volume) (source upper : ClaimSource) (f level at : ℕ) (r : Option (ℕ × ℕ)) → source ≡ Pointer f level at → r ≡ None
    → HasClaimsOf g table v → IsOnlyClaim (TableClaims table) f upper → ReachesAs g v upper None → ReachesAs g v source r
reaches_no_upper g table v source upper f level at r is empty has one reach =
    reaches_none g v source f level at r is empty (λ i n owned up.
    let same = above_same g table v f level at i n upper has one up in
    let owns = subst (λ s. OwnsSource g v s i) (owned_same g table v f i level upper has one owned) owned.owns in
    let no : None ≡ Some (i, up.m) = reach.only i (up.m) owns (subst (λ s. FirstBlock g v s i (up.m)) same up.before) in cc)

-- two places of one fragment among those of a source are one
pub one_place : (g : Geometry) (v : Volume) (source : ClaimSource) (f one other : ℕ) → 0 < level_of source
    → slice_get (source_fragments g v source) one ≡ Some f → slice_get (source_fragments g v source) other ≡ Some f → one ≡ other
one_place g v source f one other above first second =
    let run = upper_run g v source f above (contains_got (source_fragments g v source) one f first) in
    let a = from_get (run.0) g.frag one f (subst (λ xs. slice_get xs one ≡ Some f) (run.1) first) in
    let b = from_get (run.0) g.frag other f (subst (λ xs. slice_get xs other ≡ Some f) (run.1) second) in
    omega arith

pub reaches_through : (g : Geometry) (table : ClaimTable) (v : Volume) (source upper : ClaimSource) (f level at place i n before : ℕ) → source ≡ Pointer f level at
    → HasClaimsOf g table v → IsOnlyClaim (TableClaims table) f upper → level_of upper ≡ level → 0 < level
    → slice_get (source_fragments g v upper) place ≡ Some f
    → ReachesAs g v upper (Some (i, n)) → before ≡ (place * (g.fsize / 4) + at) * g.nindir ^ (level - 1) → ReachesAs g v source (Some (i, n + before))
reaches_through g table v source upper f level at place i n before is has one of_level above here reach value =
    rw (is, value) (record {
      is = (owner_by g v f i level upper (only_on g table v f upper has one) of_level (reach.is.0), of_pointer place (reach.is.1) here of_level above);
      only = λ j m owns h.
          let owned = owned_of g v f j level owns in
          let up = above_of g v f level at j m h in
          let same = above_same g table v f level at j m upper has one up in
          let owner = subst (λ s. OwnsSource g v s j) (owned_same g table v f j level upper has one owned) owned.owns in
          let first : IsAnswer (Some (i, n)) (Some (j, up.m)) = reach.only j (up.m) owner (subst (λ s. FirstBlock g v s j (up.m)) same up.before) in
          let places : up.place ≡ place = one_place g v upper f (up.place) place (rw of_level above) (subst (λ s. slice_get (source_fragments g v s) (up.place) ≡ Some f) same up.here) here in
          let inode : i ≡ j = ap inode_in first in
          let block : n ≡ up.m = ap block_in first in
          let total : m ≡ n + (place * (g.fsize / 4) + at) * g.nindir ^ (level - 1) = rw (block, ← places) up.total in
          rw (inode, total) refl;
    })

-- a fragment through whose pointers blocks are reached is one of an indirect block
pub reach_upper : (g : Geometry) (table : ClaimTable) (v : Volume) (f level at i n : ℕ) → HasClaimsOf g table v → FirstBlock g v (Pointer f level at) i n → IsUpperIn table f
reach_upper g table v f level at i n has h =
    let up = above_of g v f level at i n h in (
      up.source,
      (let of_level = up.of_level in let above = up.above in omega arith),
      (has f (up.source)).1 (above_claim g v f level at i n up),
    )

-- ---- what is reached through each pointer of a fragment

reach_none : (g : Geometry) (v : Volume) (f : ℕ) (r : Option Reach) → r ≡ None
    → ((level at i n : ℕ) → IsOwned g v f i level → IsAbove g v f level at i n → ⊥) → IsReach g v f r
reach_none g v f r empty none = rw empty (record {
  is = tt;
  only = λ level at i n owner h. tt;
  some = λ level at i n owner h e. none level at i n (owned_of g v f i level owner) (above_of g v f level at i n h);
})

pub reach_no_claim : (g : Geometry) (table : ClaimTable) (v : Volume) (f : ℕ) (r : Option Reach) → r ≡ None → HasClaimsOf g table v
    → ((source : ClaimSource) → IsOnlyClaim (TableClaims table) f source → ⊥) → IsReach g v f r
reach_no_claim g table v f r empty has none =
    reach_none g v f r empty (λ level at i n owned up. none (owned.source) (only_in g table v f (owned.source) has owned.one))

pub reach_data : (g : Geometry) (table : ClaimTable) (v : Volume) (f : ℕ) (source : ClaimSource) (r : Option Reach) → r ≡ None → HasClaimsOf g table v
    → IsOnlyClaim (TableClaims table) f source → level_of source ≡ 0 → IsReach g v f r
reach_data g table v f source r empty has one data_level =
    reach_none g v f r empty (λ level at i n owned up.
    let same = ap level_of (above_same g table v f level at i n source has one up) in
    let of_level = up.of_level in
    let above = up.above in
    omega arith)

-- the level of what is above a fragment
above_level : (g : Geometry) (table : ClaimTable) (v : Volume) (f level other at i n : ℕ) (source : ClaimSource) → HasClaimsOf g table v → IsOnlyClaim (TableClaims table) f source → level ≡ level_of source
    → IsAbove g v f other at i n → other ≡ level
above_level g table v f level other at i n source has one is up =
    sym up.of_level ∙ ap level_of (above_same g table v f other at i n source has one up) ∙ sym is

-- the first pointer of a fragment, by another one
first_pointer : (g : Geometry) (v : Volume) (f level at i n : ℕ) (up : IsAbove g v f level at i n)
    → FirstBlock g v (Pointer f level 0) i (up.m + (up.place * (g.fsize / 4) + 0) * g.nindir ^ (level - 1))
first_pointer g v f level at i n up = of_pointer (up.place) up.before up.here up.of_level up.above

pub reach_no_upper : (g : Geometry) (table : ClaimTable) (v : Volume) (f level : ℕ) (source : ClaimSource) (r : Option Reach) → r ≡ None → HasClaimsOf g table v
    → IsOnlyClaim (TableClaims table) f source → level ≡ level_of source → ReachesAs g v (Pointer f level 0) None → IsReach g v f r
reach_no_upper g table v f level source r empty has one is reach = rw empty (record {
  is = tt;
  only = λ other at i n owner h. tt;
  some = λ other at i n owner h e.
      let up0 = above_of g v f other at i n h in
      let same = above_level g table v f level other at i n source has one is up0 in
      let up : IsAbove g v f level at i n = subst (λ l. IsAbove g v f l at i n) same up0 in
      let no = reach.only i (up.m + (up.place * (g.fsize / 4) + 0) * g.nindir ^ (level - 1)) (subst (λ l. IsOwner (Claims g v) f i l) same owner) (first_pointer g v f level at i n up) in cc;
})

-- from the first pointer to another one
step_to : (m q at w first : ℕ) → first ≡ m + (q + 0) * w → m + (q + at) * w ≡ first + at * w
step_to m q at w first is =
    let zero_more : q + 0 ≡ q = omega arith in
    let first_is : first ≡ m + q * w = rw zero_more at is in
    omega (arith, add-mul q at w, first_is)

pub reach_some : (g : Geometry) (table : ClaimTable) (v : Volume) (f level i first : ℕ) (source : ClaimSource) → HasClaimsOf g table v → IsOnlyClaim (TableClaims table) f source → level ≡ level_of source
    → ReachesAs g v (Pointer f level 0) (Some (i, first)) → IsReach g v f (Some (record { level = level; inode = i; first = first }))
reach_some g table v f level i first source has one is reach = record {
  is = record {
    owned = reach.is.0;
    each = λ at.
        let up = above_of g v f level 0 i first (reach.is.1) in
        subst (λ n. FirstBlock g v (Pointer f level at) i n) (step_to (up.m) (up.place * (g.fsize / 4)) at (g.nindir ^ (level - 1)) first up.total)
        (of_pointer (up.place) up.before up.here up.of_level up.above);
  };
  only = λ other at j n owner h.
      let up0 = above_of g v f other at j n h in
      let same = above_level g table v f level other at j n source has one is up0 in
      let up : IsAbove g v f level at j n = subst (λ l. IsAbove g v f l at j n) same up0 in
      let block = up.m + (up.place * (g.fsize / 4) + 0) * g.nindir ^ (level - 1) in
      let answer : IsAnswer (Some (i, first)) (Some (j, block)) = reach.only j block (subst (λ l. IsOwner (Claims g v) f j l) same owner) (first_pointer g v f level at j n up) in
      let inode : i ≡ j = ap inode_in answer in
      let start : first ≡ block = ap block_in answer in
      record {
        of_level = same;
        of_inode = sym inode;
        block = up.total ∙ step_to (up.m) (up.place * (g.fsize / 4)) at (g.nindir ^ (level - 1)) first start;
      };
  some = λ other at j n owner h e. let no : Some (record { level = level; inode = i; first = first }) ≡ None = e in cc;
}
