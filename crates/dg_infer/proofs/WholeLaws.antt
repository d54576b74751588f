-- Where a volume is read whole, just metadata blocks are fetched.
use Rattle.std.proofs.Common.{◌≡◌, ℕ, ◌<◌, ◌∙◌, List, [], ◌++◌, Option, Some, None, Result, All, Contains, length, sym, ap, subst, arith}
use Rattle.std.proofs.lemmas.List.{get_or_past}
use Rattle.std.specs.Prelude.{replicate}
use Rattle.std.proofs.lemmas.List.Elements.{All-contains_itself, All-map, All-nil, All-weaker}
use Rattle.dg_io.specs.ViewWords.{Keeps, Reads}
use Rattle.dg_io.specs.declared.views.View.{Ghosts}
use Rattle.ufs_model.specs.Blocks.{Volume, block_at}
use Rattle.ufs_model.specs.Metadata.{IsMetadata, IsMetadataBy, by_geometry, of_indirect}
use Rattle.ufs_model.specs.declared.claims.ClaimSource.{ClaimSource}
use Rattle.ufs_model.specs.declared.geometries.Geometry.{Geometry}
use Rattle.ufs_pointer.specs.Fetches.{FetchesOnly}
use Rattle.ufs_pointer.specs.KindLaws.{only_along, only_both, only_of}
use Rattle.ufs_pointer.specs.ViewWords.{FetchesFor}
use Rattle.dg_infer.specs.Areas.{IsAreaRest}
use Rattle.dg_infer.specs.Fetched.{FetchesFresh, FetchesOnce, FetchesPlaces, IsBegun, fragments_of}
use Rattle.dg_infer.specs.Places.{IsClaimedOn}
use Rattle.dg_model.specs.Rereads.{ClaimPlace}
use Rattle.dg_claims.specs.Tables.{accepted}
use Rattle.dg_infer.proofs.VolumeLaws.{accepted_some}
use Rattle.dg_infer.proofs.WriteLaws.{super_needed}
use Rattle.dg_infer.specs.Writes.{FetchesWhole, FetchesWholeBy, StandsWhole}
use Rattle.dg_model.specs.Volumes.{geometry_on}
use Rattle.ufs_model.specs.Superblocks.{geometry_of}
use Rattle.ufs_model.specs.declared.geometries.BadSuper.{BadSuper}
use Rattle.dg_infer.proofs.SweepLaws.{area_is_metadata}

each_of : (P : ℕ → Type 0) (xs : List ℕ) → ((b : ℕ) → Contains xs b → P b) → All P xs
each_of P xs each = All-weaker (Contains xs) P each xs (All-contains_itself xs)

areas_only : {S : Type 0} {fetched : S → List ℕ → S → Type 0} (stands : Volume → Type 0) (tells : Type 0) (g : Geometry) (block : ℕ) (old new : S)
    → FetchesOnce fetched (IsAreaRest g g.size block) old new → FetchesOnly fetched stands tells (IsMetadataBy g) old new
areas_only stands tells g block old new one = record {
  blocks = one.blocks;
  were = one.were;
  only = λ told v holds. each_of (IsMetadataBy g v) one.blocks (λ b has. let area = one.each b has in area_is_metadata g v (area.area v));
}

levels_only : {S : Type 0} {fetched : S → List ℕ → S → Type 0} (stands : Volume → Type 0) (tells : Type 0) (g : Geometry) (block : ℕ) (before : ClaimSource → List ℕ) (Claims : ClaimPlace → Type 0) (old new : S)
    → ((place : ClaimPlace) → Claims place → tells → (v : Volume) → stands v → IsClaimedOn g v place)
    → FetchesPlaces fetched (IsBegun before Claims 0 block) old new → FetchesOnly fetched stands tells (IsMetadataBy g) old new
levels_only stands tells g block before Claims old new claimed one = record {
  blocks = fragments_of one.places;
  were = one.were;
  only = λ told v holds.
      All-map (IsMetadataBy g v) (λ place. place.fragment) one.places
      (All-weaker (Contains one.places) (λ place. IsMetadataBy g v place.fragment)
      (λ place in_list.
      let each = one.each place in_list in
      let some = claimed place each.some told v holds in
      of_indirect some.source some.claim (subst (λ (k : ℕ). 0 < k) (sym some.is) each.above))
      one.places (All-contains_itself one.places));
}

-- fetches, and then others
abbrev FetchesBoth : {S : Type 0} → Ghosts S → Type 0
FetchesBoth {S} view = (s t u : S) (x y : List ℕ) → view.fetched s x t → view.fetched t y u → view.fetched s (x ++ y) u

-- the blocks with inodes and the group blocks, and then what is claimed
pub fresh_only : {S : Type 0} (view : Ghosts S) → FetchesBoth view → (stands : Volume → Type 0) (tells : Type 0) (g : Geometry) (block : ℕ) (Claims : ClaimPlace → Type 0) (old new : S)
    → ((place : ClaimPlace) → Claims place → tells → (v : Volume) → stands v → IsClaimedOn g v place)
    → FetchesFresh view.fetched g block Claims old new → FetchesOnly view.fetched stands tells (IsMetadataBy g) old new
fresh_only view both stands tells g block Claims old new claimed fresh =
    only_both both (λ told. told) (λ told v holds. (holds, λ b is. is))
    (areas_only stands tells g block old fresh.middle fresh.areas) (levels_only stands tells g block (λ source. []) Claims fresh.middle new claimed fresh.levels)

-- the rest by a geometry that the volume is known to have
by_its : {S : Type 0} (view : Ghosts S) (old middle new : S) (o : Option Geometry)
    → ((v : Volume) → view.stands_for old v → view.stands_for middle v) → view.count middle ≡ view.count old
    → (view.tells new → (v : Volume) → view.stands_for old v → o ≡ accepted (geometry_on (view.size old) (view.count old) v))
    → FetchesWholeBy view middle new o
    → FetchesOnly view.fetched (StandsWhole view old) (view.tells new) (IsMetadata (view.size old) (view.count old)) middle new
by_its view old middle new None stands count is none = record { blocks = []; were = none; only = λ told v holds. All-nil (IsMetadata (view.size old) (view.count old) v) }
by_its view old middle new (Some g) stands count is rest =
    only_along (λ told v holds. (
      (stands v holds.0, holds.1 ∙ sym count),
      λ b has. by_geometry g (accepted_some _ g (is told v holds.0)) has,
    )) rest

-- the superblock
pub super_only : {S : Type 0} (view : Ghosts S) (old new : S) (found : Option (Result Geometry BadSuper))
    → FetchesFor view old new (geometry_of (view.size old) (view.count old)) found → FetchesWhole view old new
super_only view old new found super =
    only_along (λ tells v holds. (holds.0, λ b has. has))
    (only_of (IsMetadata (view.size old) (view.count old)) (λ v holds b has. super_needed (view.size old) (view.count old) v b has) super)

-- the superblock, in which this was found, and then the rest
pub whole_only : {S : Type 0} (view : Ghosts S) → FetchesBoth view → (old middle new : S) (found : Result Geometry BadSuper) (o : Option Geometry) (read : Option (Result Geometry BadSuper))
    → o ≡ accepted found → Keeps view old middle → Reads view old middle (geometry_of (view.size old) (view.count old)) (Some found) → (view.tells new → view.tells middle)
    → FetchesFor view old middle (geometry_of (view.size old) (view.count old)) read → FetchesWholeBy view middle new o → FetchesWhole view old new
whole_only view both old middle new found o read by first reads told super rest =
    only_both both told (λ tells v holds. (holds, λ b has. has)) (super_only view old middle read super)
    (by_its view old middle new o first.stands first.blocks (λ tells v holds. by ∙ ap accepted ((reads.rule (told tells) v holds).answer)) rest)

-- there are zeros past the end of a volume
pub past_end : (l n : ℕ) (v : Volume) → length v ≡ n → replicate l 0 ≡ block_at l v n
past_end l n v number = sym (get_or_past v n (replicate l 0) (omega (arith, number)))
