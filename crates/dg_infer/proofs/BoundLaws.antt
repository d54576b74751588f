-- What was fetched after a write is what the write gave reason to read.
use Rattle.std.proofs.Common.{◌≡◌, ◌≢◌, ◌∙◌, ◌⊎◌, ℕ, ◌+◌, ◌-◌, ◌*◌, ◌/◌, ◌<◌, ◌≤◌, ◌++◌, ◌∷◌, inl, inr, List, [], Option, Some, None, IfSome, Result, Ok, length, length-append, All, refl, sym, ap, subst, arith, Contains}
use Rattle.std.proofs.lemmas.Grind.{div_ceil_times}
use Rattle.std.proofs.lemmas.List.{length-map}
use Rattle.std.proofs.lemmas.List.Elements.{All-append, All-contains_itself, All-weaker, Contains-append_left}
use Rattle.std.proofs.lemmas.List.Kept.{AllPairs-cons}
use Rattle.std.specs.Int.{div_ceil}
use Rattle.std.specs.List.{AllPairs}
use Rattle.std.specs.Prelude.{min, slice_set}
use Rattle.dg_io.specs.ViewWords.{Keeps}
use Rattle.dg_io.specs.declared.views.View.{Ghosts}
use Rattle.dg_model.specs.Rereads.{AreOfGroup, ClaimPlace, IsAreaOf, IsBeside, IsChangedAt, of_areas, of_group, of_group_block, of_inodes, of_superblock}
use Rattle.dg_model.specs.Volumes.{geometry_on}
use Rattle.ufs_model.specs.Blocks.{Volume, area_of, area_within, bind, block_at}
use Rattle.ufs_model.specs.Claims.{IsClaim, IsClaimedAt, VolumeClaims, source_fragments_in, volume_fragments}
use Rattle.ufs_model.specs.Geometries.{IsGeometry, IsGeometryOn, cgstart}
use Rattle.ufs_model.specs.GroupMaps.{group_bytes}
use Rattle.ufs_model.specs.Inodes.{inode_block}
use Rattle.ufs_model.specs.Superblocks.{superblock_of}
use Rattle.ufs_model.specs.declared.claims.ClaimSource.{ClaimSource}
use Rattle.ufs_model.specs.declared.geometries.BadSuper.{BadSuper}
use Rattle.ufs_model.specs.declared.geometries.Geometry.{Geometry}
use Rattle.ufs_pointer.specs.Superblocks.{superblock_blocks}
use Rattle.dg_claims.specs.Kept.{table_of}
use Rattle.dg_claims.specs.Tables.{ClaimTable, IsTableOf, accepted}
use Rattle.dg_infer.proofs.AreaLaws.{area_needs, area_needed}
use Rattle.dg_infer.proofs.FetchedLaws.{begun_along, begun_fresh, fetches_both, fetches_none, fresh_along, places_none}
use Rattle.dg_infer.proofs.ListLaws.{below_cases, contains_front, contains_map, contains_none, once_both}
use Rattle.dg_infer.proofs.TargetLaws.{ready_when_fresh, this_block}
use Rattle.dg_infer.proofs.VolumeLaws.{accepted_some, super_off, to_accepted}
use Rattle.dg_infer.proofs.WatchLaws.{touched_grows}
use Rattle.dg_infer.proofs.WriteLaws.{TableLaws, claims_by}
use Rattle.dg_infer.specs.Areas.{IsAreaRest, IsFrom, IsGroupRest, IsRest}
use Rattle.dg_infer.specs.AtHand.{OnVolumes}
use Rattle.dg_infer.specs.Writes.{IsKnownWrite, IsWriteTo}
use Rattle.dg_infer.specs.Bounds.{FetchesFollowing, FetchesKept, FetchesReread, IsGroupRestBy, dropped, fresh, kept}
use Rattle.dg_infer.specs.Claimed.{IsOnce}
use Rattle.dg_infer.specs.Fetched.{FetchesFresh, FetchesOnce, FetchesPlaces, IsBegun, fragments_of}
use Rattle.dg_infer.specs.Meanings.{KeptInference}
use Rattle.dg_infer.specs.Places.{IsClaimedAfter, IsClaimedBehind, IsClaimedIn, IsClaimedOn, IsClaimedRead, IsClaimedReady}
use Rattle.dg_infer.specs.Sweeps.{AreSlotsBefore}
use Rattle.dg_infer.specs.Watches.{Grows, IsTouched, IsWatched, KeepsWatch}
use Rattle.dg_infer.specs.declared.watches.Touch.{Touch}

-- ---- lists

all_of : {X : Type 0} (P : X → Type 0) (xs : List X) → ((x : X) → Contains xs x → P x) → All P xs
all_of P xs each = All-weaker (Contains xs) P each xs (All-contains_itself xs)

pub once_pairs : {X : Type 0} (xs : List X) → IsOnce xs → AllPairs (λ one other. one ≢ other) xs
once_pairs [] once = λ i j d lt inside. absurd (omega (arith, inside))
once_pairs (x ∷ xs) once =
    AllPairs-cons (λ one other. one ≢ other) x xs (all_of (λ y. x ≢ y) xs (λ y has e. once.0 (subst (λ z. Contains xs z) (sym e) has))) (once_pairs xs (once.1))

-- ---- all that was fetched

read_count : (a c : List ℕ) (places : List ClaimPlace) → length (a ++ (fragments_of places ++ c)) ≡ length places + length (a ++ c)
read_count a c places =
    let whole = length-append a (fragments_of places ++ c) in
    let rest = length-append (fragments_of places) c in
    let mapped = length-map places (λ place. place.fragment) in
    let beside = length-append a c in
    omega (arith, whole, rest, mapped, beside)

never_in : (a c : List ℕ) (places : List ClaimPlace) (block : ℕ) → ((b : ℕ) → Contains a b → b ≢ block) → ((place : ClaimPlace) → Contains places place → place.fragment ≢ block)
    → ((b : ℕ) → Contains c b → b ≢ block) → Contains (a ++ (fragments_of places ++ c)) block → ⊥
never_in a c places block first middle last has = elim (contains_front a (fragments_of places ++ c) block has) [
  | inl h ↦ first block h refl
  | inr rest ↦ elim (contains_front (fragments_of places) c block rest) [
    | inl h ↦ let found = contains_map (λ place. place.fragment) places block h in middle (found.0) (found.1) (found.2)
    | inr h ↦ last block h refl
  ]
]

pub reread_of : {S : Type 0} (view : Ghosts S) (Super Group : ℕ → Type 0) (Known : Type 0) (l n : ℕ) (v w : Volume) (block : ℕ) (before : ClaimSource → List ℕ) (Claims : ClaimPlace → Type 0) (s t u x : S)
    → ((s t u : S) (x y : List ℕ) → view.fetched s x t → view.fetched t y u → view.fetched s (x ++ y) u)
    → FetchesOnce view.fetched Super s t → FetchesPlaces view.fetched (IsBegun before Claims 0 block) t u → FetchesOnce view.fetched Group u x → ((b : ℕ) → Super b → Group b → ⊥)
    → (Known → (b : ℕ) → Super b → IsBeside l n v w block b) → (Known → (b : ℕ) → Group b → IsBeside l n v w block b)
    → (Known → (place : ClaimPlace) → IsBegun before Claims 0 block place → IsChangedAt l n v w place) → (Known → (place : ClaimPlace) → Claims place → IsClaimedIn l n w place)
    → ((b : ℕ) → Super b → b ≢ block) → ((b : ℕ) → Group b → b ≢ block) → FetchesReread view s x Known l n v w block
reread_of view Super Group Known l n v w block before Claims s t u x both super begun group apart super_is group_is begun_is claimed_is super_other group_other = record {
  reads = record {
    indirect = begun.places;
    indirect_once = once_pairs begun.places begun.once;
    changed = λ known. all_of (IsChangedAt l n v w) begun.places (λ place has. begun_is known place (begun.each place has));
    beside = super.blocks ++ group.blocks;
    beside_once = once_pairs (super.blocks ++ group.blocks) (once_both super.blocks group.blocks super.once group.once (λ b one other. apart b (super.each b one) (group.each b other)));
    are_beside = λ known.
        All-append (IsBeside l n v w block) super.blocks group.blocks (all_of (IsBeside l n v w block) super.blocks (λ b has. super_is known b (super.each b has)))
        (all_of (IsBeside l n v w block) group.blocks (λ b has. group_is known b (group.each b has)));
    others = λ known.
        All-append (λ f. f ≢ block) super.blocks group.blocks (all_of (λ f. f ≢ block) super.blocks (λ b has. super_other b (super.each b has)))
        (all_of (λ f. f ≢ block) group.blocks (λ b has. group_other b (group.each b has)));
  };
  claimed = λ known. all_of (IsClaimedIn l n w) begun.places (λ place has. claimed_is known place ((begun.each place has).some));
  blocks = super.blocks ++ (fragments_of begun.places ++ group.blocks);
  were = both s t x super.blocks (fragments_of begun.places ++ group.blocks) super.were (both t u x (fragments_of begun.places) group.blocks begun.were group.were);
  are = record { first = super.blocks; last = group.blocks; all_beside = refl; order = refl };
  count = read_count super.blocks group.blocks begun.places;
  never = never_in super.blocks group.blocks begun.places block (λ b has. super_other b (super.each b has)) (λ place has. (begun.each place has).other)
      (λ b has. group_other b (group.each b has));
}

-- ---- blocks beside the block

pub in_superblock : (l n : ℕ) (w : Volume) (b : ℕ) → IsFrom (8192 / l) (superblock_blocks l n) b → Contains (superblock_of l n w).needs b
unfolding superblock_of area_within bind
in_superblock l n w b from =
    Contains-append_left ((area_of l (8192 / l) (min (div_ceil 1376 l) (n - 8192 / l)) w).needs) [] b (area_needs l (8192 / l) (min (div_ceil 1376 l) (n - 8192 / l)) w b (from.0) (from.1))

pub super_beside : (l n : ℕ) (v w : Volume) (block b : ℕ) → IsFrom (8192 / l) (div_ceil 1376 l) block → block < n → IsRest (8192 / l) (superblock_blocks l n) block b → IsBeside l n v w block b
super_beside l n v w block b from inside rest =
    of_superblock (in_superblock l n w block (from.0, (let low = from.0 in let high = from.1 in omega (arith, low, high, inside)))) (in_superblock l n w b (rest.from, rest.to))

in_group_block : (g : Geometry) (c : ℕ) (w : Volume) (b : ℕ) → IsFrom (cgstart g c + g.cblkno) g.frag b → Contains (group_bytes g c w).needs b
unfolding group_bytes
in_group_block g c w b from = area_needs g.fsize (cgstart g c + g.cblkno) g.frag w b (from.0) (from.1)

pub group_beside : (l n : ℕ) (v w : Volume) (g : Geometry) (block b : ℕ) → Some g ≡ accepted (geometry_on l n w) → IsGroupRest g block b → IsBeside l n v w block b
group_beside l n v w g block b is rest =
    of_group_block (to_accepted (geometry_on l n w) g (λ h. AreOfGroup h w block b) is (record {
      group = rest.group;
      within = rest.within;
      one = in_group_block g rest.group w block rest.one;
      other = in_group_block g rest.group w b (rest.rest.from, rest.rest.to);
    }))

pub areas_beside : (l n : ℕ) (v w : Volume) (g : Geometry) (end block b : ℕ) → geometry_on l n v ≢ geometry_on l n w → Some g ≡ accepted (geometry_on l n w) → IsAreaRest g end block b
    → IsBeside l n v w block b
areas_beside l n v w g end block b changed is rest = of_areas changed (inr (to_accepted (geometry_on l n w) g (λ h. IsAreaOf h w b) is (rest.area w)))

-- ---- they are other blocks

rest_other : (geometry : Option Geometry) (block b : ℕ) → IsGroupRestBy geometry block b → b ≢ block
rest_other None block b rest = absurd rest
rest_other (Some g) block b rest = rest.rest.other

-- ---- they are apart

square : (s k l : ℕ) → s ≤ k → s * l ≤ k * l
square s k l le = grind (arith)

-- the superblock ends before what its geometry places
super_end : (l s : ℕ) → 0 < l → 9568 ≤ s * l → 8192 / l + div_ceil 1376 l ≤ s
super_end l s some far =
    let ceil = div_ceil_times 1376 l some in
    let q = 8192 / l in
    let r = div_ceil 1376 l in
    let first : q * l ≤ 8192 = omega (arith, some) in
    let parts : (q + r) * l ≡ q * l + r * l = grind (arith) in
    let below : (q + r) * l < s * l + l = omega (arith, parts, first, ceil.1, far) in
    let next : s * l + l ≡ (s + 1) * l = grind (arith) in
    elim (below_cases (q + r) (s + 1)) [
      | inl lt ↦ omega (arith, lt)
      | inr le ↦ absurd (let more = square (s + 1) (q + r) l le in omega (arith, more, below, next))
    ]

super_before : (l n : ℕ) (g : Geometry) (block b : ℕ) → IsGeometryOn l n g → IsRest (8192 / l) (superblock_blocks l n) block b → b < g.cblkno
super_before l n g block b on rest =
    let is = on.tests in
    let size = on.fsize in
    let far : 9568 ≤ g.sblkno * l = subst (λ (x : ℕ). 9568 ≤ g.sblkno * x) size is.sblkno in
    let bounds = is.fsize in
    let end = super_end l g.sblkno (omega (arith, size, bounds.0)) far in
    let high = rest.to in
    let order = is.cblkno in
    omega (arith, end, high, order)

pub super_not_group : (l n : ℕ) (g : Geometry) (block b : ℕ) → IsGeometryOn l n g → IsRest (8192 / l) (superblock_blocks l n) block b → IsGroupRest g block b → ⊥
super_not_group l n g block b on super group =
    let low = group.rest.from in
    let early = super_before l n g block b on super in
    omega (arith, low, early)

area_after : (g : Geometry) (v : Volume) {b : ℕ} → IsGeometry g → IsAreaOf g v b → g.cblkno ≤ b
unfolding group_bytes inode_block
area_after g v is (of_group c small has) = let from = area_needed g.fsize (cgstart g c + g.cblkno) g.frag v _ has in omega (arith, from.0)
area_after g v is (of_inodes i small here) = let order = is.iblkno in omega (arith, here, order)

pub super_not_area : (l n : ℕ) (g : Geometry) (end block b : ℕ) → IsGeometryOn l n g → IsRest (8192 / l) (superblock_blocks l n) block b → IsAreaRest g end block b → ⊥
super_not_area l n g end block b on super area =
    let late = area_after g [] on.tests (area.area []) in
    let early = super_before l n g block b on super in
    omega (arith, late, early)

-- ---- claims that began

table_at : (l n : ℕ) (v : Volume) (table : ClaimTable) (level fragment : ℕ) → IsTableOf l n v table → IsClaimedAt (VolumeClaims l n v) level fragment → IsClaimedAt (λ f s. Contains (table.claimed s) f) level fragment
table_at l n v table level fragment of at = record { source = at.source; claim = (of.claims fragment at.source).1 at.claim; is = at.is }

-- by the geometry that the volume has
pub volume_claimed : (l n : ℕ) (v : Volume) (g : Geometry) (place : ClaimPlace) → geometry_on l n v ≡ Ok g → IsClaimedOn g v place → IsClaimedIn l n v place
unfolding volume_fragments
volume_claimed l n v g place ok claimed =
    subst (λ (r : Result Geometry BadSuper). IsClaimedAt (IsClaim (λ source. source_fragments_in v r source)) place.level place.fragment) (sym ok) claimed

begun_kept : (l n : ℕ) (v w : Volume) (before : ClaimTable) (Claims : ClaimPlace → Type 0) (block : ℕ) (place : ClaimPlace) → IsTableOf l n v before → (Claims place → IsClaimedIn l n w place)
    → IsBegun before.claimed Claims 0 block place → IsChangedAt l n v w place
begun_kept l n v w before Claims block place was claimed begun =
    record { above = begun.above; changed = inr (inl (claimed begun.some, λ had. begun.none (table_at l n v before place.level place.fragment was had))) }

begun_anew : (l n : ℕ) (v w : Volume) (before : ClaimSource → List ℕ) (Claims : ClaimPlace → Type 0) (block : ℕ) (place : ClaimPlace) → geometry_on l n v ≢ geometry_on l n w
    → (Claims place → IsClaimedIn l n w place) → IsBegun before Claims 0 block place → IsChangedAt l n v w place
begun_anew l n v w before Claims block place changed claimed begun =
    record { above = begun.above; changed = inr (inr (record { geometry = changed; claimed = claimed begun.some })) }

-- what was read anew is claimed behind the write that made the volume
claimed_anew : {S : Type 0} (view : Ghosts S) (had : KeptInference) (g : Geometry) (geometry : Option Geometry) (block : ℕ) (bytes : List ℕ) (old new : S) (place : ClaimPlace) → geometry ≡ Some g
    → IsClaimedRead view old new g block bytes place → IsClaimedBehind view old new had geometry block bytes place
claimed_anew view had g geometry block bytes old new place is claimed v h =
    let write = h.0 in
    let w = slice_set v block bytes in
    volume_claimed had.l had.n w g place (accepted_some (geometry_on had.l had.n w) g (sym is ∙ h.1))
    (claimed write.tells w write.stands (this_block (view.size old) v block bytes write.inside))

claimed_kept : {S : Type 0} (laws : TableLaws) (view : Ghosts S) (had : KeptInference) (g : Geometry) (block : ℕ) (bytes : List ℕ) (old middle new : S) (place : ClaimPlace)
    → had.geometry ≡ Some g → (table_of had.claims).geometry ≡ Some g → (view.tells new → view.tells middle)
    → IsClaimedAfter view old middle g block bytes ((table_of had.claims).claimed) place → IsClaimedBehind view old new had had.geometry block bytes place
claimed_kept laws view had g block bytes old middle new place is has told claimed v h =
    let write = h.0 in
    let w = slice_set v block bytes in
    volume_claimed had.l had.n w g place (accepted_some (geometry_on had.l had.n w) g (sym is ∙ h.1))
    (claimed (told write.tells) v write.inside write.stands (claims_by laws had.l had.n v g (table_of had.claims) has write.was.claims))

-- what is read anew, where the sweep has made all ready for the levels
pub swept_fetched : {S : Type 0} (view : Ghosts S) (g : Geometry) (block : ℕ) (bytes : List ℕ) (empty now : ClaimSource → List ℕ) (first touches : List Touch) (old swept new : S)
    → IsGeometry g → ((inode : ℕ) → inode < g.ncg * g.ipg → inode_block g inode < g.size) → ((source : ClaimSource) → empty source ≡ []) → ((v : Volume) → AreSlotsBefore g v 0 empty)
    → ((level : ℕ) → 1 ≤ level → level ≤ 3 → IsTouched first level block) → IsWatched empty empty first → Grows first touches → KeepsWatch empty first now touches
    → OnVolumes view old swept block bytes (λ v. AreSlotsBefore g v 0 empty → AreSlotsBefore g v g.size now) → Keeps view old swept → (view.tells new → view.tells swept)
    → FetchesOnce view.fetched (IsAreaRest g g.size block) old swept
    → ((before : ClaimSource → List ℕ) → IsWatched before now touches → FetchesPlaces view.fetched (IsBegun before (IsClaimedReady view swept new g block bytes now touches) 0 block) swept new)
    → FetchesFresh view.fetched g block (IsClaimedRead view old new g block bytes) old new
swept_fetched view g block bytes empty now first touches old swept new is inside none slots touched watched grows watch more keeps told areas levels = record {
  middle = swept;
  areas = areas;
  levels = begun_fresh view.fetched empty (IsClaimedRead view old new g block bytes) 0 block swept new
      (begun_along view.fetched empty (IsClaimedReady view swept new g block bytes now touches) (IsClaimedRead view old new g block bytes) 0 block swept new
      (λ place claimed tells v holds has.
      claimed tells v (keeps.stands v holds) (has ∙ ap (λ (l : ℕ). block_at l v block) (sym keeps.bytes)) (
        empty,
        empty,
        ready_when_fresh g v block empty now touches is none (more (told tells) v holds has (slots v)) inside
            (λ level low high. touched_grows first touches level block grows (touched level low high)) (watch empty watched),
      ))
      (levels empty (watch empty watched)));
}

-- where the geometry stays, first the claims and then the group block
pub kept_fetched : {S : Type 0} (laws : TableLaws) (view : Ghosts S) (inner had : KeptInference) (g : Geometry) (block : ℕ) (bytes : List ℕ) (old middle new : S)
    → inner ≡ had → (table_of inner.claims).geometry ≡ inner.geometry → had.geometry ≡ Some g → (view.tells new → view.tells middle)
    → FetchesPlaces view.fetched (IsBegun ((table_of inner.claims).claimed) (IsClaimedAfter view old middle g block bytes ((table_of inner.claims).claimed)) 0 block) old middle
    → FetchesOnce view.fetched (IsGroupRest g block) middle new
    → FetchesKept view.fetched had.geometry block ((table_of had.claims).claimed) (IsClaimedBehind view old new had had.geometry block bytes) old new
kept_fetched laws view inner had g block bytes old middle new shown has is told levels group =
    let known = ap (λ (k : KeptInference). k.geometry) shown ∙ is in
    subst (λ (k : KeptInference). FetchesKept view.fetched k.geometry block ((table_of k.claims).claimed) (IsClaimedBehind view old new k k.geometry block bytes) old new) shown
    (record {
      middle = middle;
      levels = begun_along view.fetched ((table_of inner.claims).claimed) (IsClaimedAfter view old middle g block bytes ((table_of inner.claims).claimed))
          (IsClaimedBehind view old new inner inner.geometry block bytes) 0 block old middle
          (λ place claimed. claimed_kept laws view inner g block bytes old middle new place known (has ∙ known) told claimed) levels;
      group = subst (λ (o : Option Geometry). FetchesOnce view.fetched (IsGroupRestBy o block) middle new) (sym known) group;
    })

-- where it is another one, what is read anew
pub following_anew : {S : Type 0} (view : Ghosts S) (had : KeptInference) (g : Geometry) (next : Option Geometry) (block : ℕ) (bytes : List ℕ) (old new : S) → (had.geometry ≡ next → ⊥) → next ≡ Some g
    → FetchesFresh view.fetched g block (IsClaimedRead view old new g block bytes) old new
    → FetchesFollowing view.fetched had.geometry next block ((table_of had.claims).claimed) (IsClaimedBehind view old new had next block bytes) old new
following_anew view had g next block bytes old new apart is one =
    fresh apart g is (fresh_along view.fetched g block (IsClaimedRead view old new g block bytes) (IsClaimedBehind view old new had next block bytes) old new
    (λ place. claimed_anew view had g next block bytes old new place is) one)

-- ---- all that a write fetched

rest_beside : (l n : ℕ) (v w : Volume) (geometry : Option Geometry) (block b : ℕ) → geometry ≡ accepted (geometry_on l n w) → IsGroupRestBy geometry block b → IsBeside l n v w block b
rest_beside l n v w None block b is rest = absurd rest
rest_beside l n v w (Some g) block b is rest = group_beside l n v w g block b is rest

rest_apart : (l n : ℕ) (geometry : Option Geometry) (block b : ℕ) → IfSome geometry (IsGeometryOn l n) → IsRest (8192 / l) (superblock_blocks l n) block b → IsGroupRestBy geometry block b → ⊥
rest_apart l n None block b on super rest = rest
rest_apart l n (Some g) block b on super rest = super_not_group l n g block b on super rest

-- What is known of a write: the geometries of both volumes, and the table of the first.
pub record IsTold (l n : ℕ) (v w : Volume) (geometry next : Option Geometry) (before : ClaimTable) : Type 0 where
  pub first : geometry ≡ accepted (geometry_on l n v)
  pub second : next ≡ accepted (geometry_on l n w)
  pub were : IsTableOf l n v before

bound_off : {S : Type 0} (view : Ghosts S) (Known : Type 0) (l n : ℕ) (v w : Volume) (block : ℕ) (geometry : Option Geometry) (before : ClaimTable) (Claims : ClaimPlace → Type 0) (s x : S)
    → ((s t u : S) (x y : List ℕ) → view.fetched s x t → view.fetched t y u → view.fetched s (x ++ y) u) → ((s : S) → view.fetched s [] s)
    → FetchesKept view.fetched geometry block before.claimed Claims s x → (Known → IsTold l n v w geometry geometry before) → (Known → (place : ClaimPlace) → Claims place → IsClaimedIn l n w place)
    → FetchesReread view s x Known l n v w block
bound_off view Known l n v w block geometry before Claims s x both none one told claimed =
    reread_of view (λ b. ⊥) (IsGroupRestBy geometry block) Known l n v w block before.claimed Claims s s one.middle x both (fetches_none view.fetched (λ b. ⊥) s (none s)) one.levels one.group
    (λ b early rest. early) (λ known b one. absurd one) (λ known b rest. rest_beside l n v w geometry block b ((told known).second) rest)
    (λ known place begun. begun_kept l n v w before Claims block place ((told known).were) (claimed known place) begun) claimed (λ b one. absurd one) (rest_other geometry block)

-- just blocks of the superblock
pub bound_super : {S : Type 0} (view : Ghosts S) (Known : Type 0) (l n : ℕ) (v w : Volume) (block : ℕ) (s x : S)
    → ((s t u : S) (x y : List ℕ) → view.fetched s x t → view.fetched t y u → view.fetched s (x ++ y) u) → ((s : S) → view.fetched s [] s)
    → IsFrom (8192 / l) (div_ceil 1376 l) block → block < n → FetchesOnce view.fetched (IsRest (8192 / l) (superblock_blocks l n) block) s x → FetchesReread view s x Known l n v w block
bound_super view Known l n v w block s x both none from inside super =
    reread_of view (IsRest (8192 / l) (superblock_blocks l n) block) (λ b. ⊥) Known l n v w block (λ source. []) (λ place. ⊥) s x x x both super
    (places_none view.fetched (IsBegun (λ source. []) (λ place. ⊥) 0 block) x (none x)) (fetches_none view.fetched (λ b. ⊥) x (none x))
    (λ b one rest. rest) (λ known b one. super_beside l n v w block b from inside one) (λ known b rest. absurd rest)
    (λ known place begun. absurd begun.some) (λ known place claimed. absurd claimed) (λ b one. one.other) (λ b rest. absurd rest)

bound_kept : {S : Type 0} (view : Ghosts S) (Known : Type 0) (l n : ℕ) (v w : Volume) (block : ℕ) (geometry next : Option Geometry) (before : ClaimTable) (Claims : ClaimPlace → Type 0) (s t x : S)
    → ((s t u : S) (x y : List ℕ) → view.fetched s x t → view.fetched t y u → view.fetched s (x ++ y) u)
    → IsFrom (8192 / l) (div_ceil 1376 l) block → block < n → IfSome next (IsGeometryOn l n) → geometry ≡ next
    → FetchesOnce view.fetched (IsRest (8192 / l) (superblock_blocks l n) block) s t → FetchesKept view.fetched geometry block before.claimed Claims t x
    → (Known → IsTold l n v w geometry next before) → (Known → (place : ClaimPlace) → Claims place → IsClaimedIn l n w place) → FetchesReread view s x Known l n v w block
bound_kept view Known l n v w block geometry next before Claims s t x both from inside on same super one told claimed =
    reread_of view (IsRest (8192 / l) (superblock_blocks l n) block) (IsGroupRestBy geometry block) Known l n v w block before.claimed Claims s t one.middle x both super one.levels one.group
    (λ b one rest. rest_apart l n geometry block b (subst (λ o. IfSome o (IsGeometryOn l n)) (sym same) on) one rest)
    (λ known b one. super_beside l n v w block b from inside one)
    (λ known b rest. rest_beside l n v w geometry block b (same ∙ (told known).second) rest)
    (λ known place begun. begun_kept l n v w before Claims block place ((told known).were) (claimed known place) begun) claimed (λ b one. one.other) (rest_other geometry block)

changed_volumes : (l n : ℕ) (v w : Volume) (geometry next : Option Geometry) (before : ClaimTable) → (geometry ≡ next → ⊥) → IsTold l n v w geometry next before → geometry_on l n v ≢ geometry_on l n w
changed_volumes l n v w geometry next before changed told e = changed (told.first ∙ ap accepted e ∙ sym told.second)

bound_on : {S : Type 0} (view : Ghosts S) (Known : Type 0) (l n : ℕ) (v w : Volume) (block : ℕ) (geometry next : Option Geometry) (before : ClaimTable) (Claims : ClaimPlace → Type 0) (s t x : S)
    → ((s t u : S) (x y : List ℕ) → view.fetched s x t → view.fetched t y u → view.fetched s (x ++ y) u) → ((s : S) → view.fetched s [] s)
    → IsFrom (8192 / l) (div_ceil 1376 l) block → block < n → IfSome next (IsGeometryOn l n)
    → FetchesOnce view.fetched (IsRest (8192 / l) (superblock_blocks l n) block) s t → FetchesFollowing view.fetched geometry next block before.claimed Claims t x
    → (Known → IsTold l n v w geometry next before) → (Known → (place : ClaimPlace) → Claims place → IsClaimedIn l n w place) → FetchesReread view s x Known l n v w block
bound_on view Known l n v w block geometry next before Claims s t x both none from inside on super (kept same one) told claimed =
    bound_kept view Known l n v w block geometry next before Claims s t x both from inside on same super one told claimed
bound_on view Known l n v w block geometry next before Claims s t x both none from inside on super (dropped changed is one) told claimed =
    bound_super view Known l n v w block s x both none from inside (fetches_both view.fetched (IsRest (8192 / l) (superblock_blocks l n) block) (λ b. ⊥)
    (IsRest (8192 / l) (superblock_blocks l n) block) s t x both (λ b h. h) (λ b h. absurd h) (λ b one other. other) super
    (record { blocks = []; were = one; once = tt; each = λ b has. absurd (contains_none b has) }))
bound_on view Known l n v w block geometry next before Claims s t x both none from inside on super (fresh changed g is one) told claimed =
    let Super : ℕ → Type 0 = λ b. IsRest (8192 / l) (superblock_blocks l n) block b ⊎ IsAreaRest g g.size block b in
    let on_g = subst (λ o. IfSome o (IsGeometryOn l n)) is on in
    reread_of view Super (λ b. ⊥) Known l n v w block (λ source. []) Claims s one.middle x x both
    (fetches_both view.fetched (IsRest (8192 / l) (superblock_blocks l n) block) (IsAreaRest g g.size block) Super s t one.middle both (λ b h. inl h) (λ b h. inr h)
    (λ b early late. super_not_area l n g g.size block b on_g early late) super one.areas)
    one.levels (fetches_none view.fetched (λ b. ⊥) x (none x)) (λ b one rest. rest)
    (λ known b either. elim either [
      | inl early ↦ super_beside l n v w block b from inside early
      | inr late ↦ areas_beside l n v w g g.size block b (changed_volumes l n v w geometry next before changed (told known)) (sym is ∙ (told known).second) late
    ])
    (λ known b rest. absurd rest)
    (λ known place begun. begun_anew l n v w (λ source. []) Claims block place (changed_volumes l n v w geometry next before changed (told known)) (claimed known place) begun) claimed
    (λ b either. elim either [ inl early ↦ early.other | inr late ↦ late.other ]) (λ b rest. absurd rest)

-- A write of a block that is none of the superblock's.
pub bound_outside : {S : Type 0} (view : Ghosts S) → ((s t u : S) (x y : List ℕ) → view.fetched s x t → view.fetched t y u → view.fetched s (x ++ y) u) → ((s : S) → view.fetched s [] s)
    → (had : KeptInference) (v : Volume) (block : ℕ) (bytes : List ℕ) (old new : S) → (IsFrom (8192 / had.l) (div_ceil 1376 had.l) block → ⊥)
    → FetchesKept view.fetched had.geometry block ((table_of had.claims).claimed) (IsClaimedBehind view old new had had.geometry block bytes) old new
    → FetchesReread view old new (IsKnownWrite view old new had block bytes v) had.l had.n v (slice_set v block bytes) block
bound_outside view both none had v block bytes old new out one =
    let w = slice_set v block bytes in
    let Known = IsKnownWrite view old new had block bytes v in
    let same : Known → had.geometry ≡ accepted (geometry_on had.l had.n w) = λ h. h.was.geometry ∙ ap accepted (super_off had.l had.n v block bytes out) in
    bound_off view Known had.l had.n v w block had.geometry (table_of had.claims) (IsClaimedBehind view old new had had.geometry block bytes) old new both none one
    (λ h. record { first = h.was.geometry; second = same h; were = h.was.claims }) (λ h place claimed. claimed v (h, same h))

-- A write of a block of the superblock, whose other blocks were read first; then the inference followed it.
pub bound_write : {S : Type 0} (view : Ghosts S) → ((s t u : S) (x y : List ℕ) → view.fetched s x t → view.fetched t y u → view.fetched s (x ++ y) u) → ((s : S) → view.fetched s [] s)
    → (had : KeptInference) (v : Volume) (block : ℕ) (bytes : List ℕ) (found : Result Geometry BadSuper) (next : Option Geometry) (old middle new : S)
    → had.l ≡ view.size old → had.n ≡ view.count old → IsFrom (8192 / had.l) (div_ceil 1376 had.l) block → block < had.n
    → next ≡ accepted found → IfSome next (IsGeometryOn (view.size old) (view.count old))
    → OnVolumes view old middle block bytes (λ w. found ≡ geometry_on (view.size old) (view.count old) w) → Keeps view old middle → (view.tells new → view.tells middle)
    → FetchesOnce view.fetched (IsRest (8192 / had.l) (superblock_blocks had.l had.n) block) old middle
    → FetchesFollowing view.fetched had.geometry next block ((table_of had.claims).claimed) (IsClaimedBehind view middle new had next block bytes) middle new
    → FetchesReread view old new (IsKnownWrite view old new had block bytes v) had.l had.n v (slice_set v block bytes) block
bound_write view both none had v block bytes found next old middle new size count from inside by on read first told super one =
    let w = slice_set v block bytes in
    let Known = IsKnownWrite view old new had block bytes v in
    let behind : Known → IsWriteTo view middle new had next block bytes v = λ h. (
      record { tells = h.tells; inside = h.inside; stands = first.stands w h.stands; was = h.was },
      by ∙ ap accepted (read (told h.tells) w h.stands (this_block (view.size old) v block bytes h.inside))
          ∙ ap (λ (x : ℕ). accepted (geometry_on x (view.count old) w)) (sym size) ∙ ap (λ (x : ℕ). accepted (geometry_on had.l x w)) (sym count),
    ) in
    let on_kept : IfSome next (IsGeometryOn had.l had.n) =
    subst (λ (x : ℕ). IfSome next (IsGeometryOn had.l x)) (sym count) (subst (λ (x : ℕ). IfSome next (IsGeometryOn x (view.count old))) (sym size) on) in
    bound_on view Known had.l had.n v w block had.geometry next (table_of had.claims) (IsClaimedBehind view middle new had next block bytes) old middle new both none from inside on_kept super one
    (λ h. record { first = h.was.geometry; second = (behind h).1; were = h.was.claims }) (λ h place claimed. claimed v (behind h))

-- the other blocks of the superblock, by the size of the view's blocks
pub super_by : {S : Type 0} (view : Ghosts S) (l n block : ℕ) (old new : S) → l ≡ view.size old → n ≡ view.count old
    → FetchesOnce view.fetched (IsRest (8192 / view.size old) (superblock_blocks (view.size old) (view.count old)) block) old new
    → FetchesOnce view.fetched (IsRest (8192 / l) (superblock_blocks l n) block) old new
super_by view l n block old new size count super =
    subst (λ (x : ℕ). FetchesOnce view.fetched (IsRest (8192 / l) (superblock_blocks l x) block) old new) (sym count)
    (subst (λ (x : ℕ). FetchesOnce view.fetched (IsRest (8192 / x) (superblock_blocks x (view.count old)) block) old new) (sym size) super)
