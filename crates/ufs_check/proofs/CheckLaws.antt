-- The check of a volume, by its superblock and by its geometry.
use Rattle.std.proofs.Common.{◌≡◌, ◌++◌, ℕ, ap, List, Option, Result, Ok, Err, refl, sym, subst, arith}
use Rattle.std.specs.Prelude.{Contains}
use Rattle.std.proofs.lemmas.List.{append-nil}
use Rattle.ufs_model.specs.Blocks.{Volume, bind}
use Rattle.ufs_model.specs.Claims.{IsClaim, source_fragments, source_fragments_in, volume_fragments}
use Rattle.ufs_model.specs.Claims.IsClaim.{by_pointer, by_slot}
use Rattle.ufs_model.specs.declared.claims.ClaimSource.{ClaimSource}
use Rattle.ufs_model.specs.declared.claims.ClaimSource.TheVariants.{Pointer, Slot}
use Rattle.dg_claims.specs.Tables.{ClaimTable, IsTableOf}
use Rattle.ufs_model.specs.Malformations.{IsBadBy, IsFirstMalformation, IsMalformed, IsSoundVolume}
use Rattle.ufs_model.specs.Metadata.{IsMetadataBy, IsStructure}
use Rattle.ufs_model.specs.Metadata.IsMetadata.{by_geometry, of_superblock}
use Rattle.ufs_model.specs.Metadata.IsStructure.{of_metadata}
use Rattle.ufs_model.specs.Superblocks.{geometry_of, superblock_of}
use Rattle.ufs_model.specs.declared.geometries.BadSuper.{BadSuper}
use Rattle.ufs_model.specs.declared.geometries.Geometry.{Geometry}
use Rattle.ufs_model.specs.declared.malformations.BadKind.{BadKind}
use Rattle.ufs_model.specs.declared.malformations.BadKind.TheVariants.{Super}
use Rattle.ufs_frames.specs.Frames.{HasWholeUppers}
use Rattle.ufs_pointer.specs.Fetches.{Fetches, FetchesOnly}
use Rattle.ufs_check.specs.Directories.{IsDirectoryRead}
use Rattle.ufs_check.specs.Fragments.{HasClaimsOf, IsClaimedBy}
use Rattle.ufs_check.specs.Verdicts.{IsOnView, IsTabled, Judges}
use Rattle.ufs_check.specs.declared.verdicts.Verdict.TheVariants.{Malformed, Sound}
use Rattle.ufs_check.proofs.PassLaws.{only_both, only_needs, only_told}

pub super_structure : (l n : ℕ) (v : Volume) (block : ℕ) → Contains ((geometry_of l n v).needs) block → IsStructure l n v block
unfolding geometry_of bind
super_structure l n v block needs = of_metadata (of_superblock (subst (λ (blocks : List ℕ). Contains blocks block) (append-nil ((superblock_of l n v).needs)) needs))

pub metadata_structure : (l n : ℕ) (g : Geometry) (v : Volume) (block : ℕ) → (geometry_of l n v).value ≡ Ok g → IsMetadataBy g v block → IsStructure l n v block
metadata_structure l n g v block has is = of_metadata (by_geometry g has is)

-- what is fetched for the metadata has the structure
pub metadata_only : {S : Type 0} {fetched : S → List ℕ → S → Type 0} {stands : Volume → Type 0} {tells : Type 0} {old new : S} (l n : ℕ) (g : Geometry) (table : ClaimTable)
    → FetchesOnly fetched (IsClaimedBy stands g table) tells (IsMetadataBy g) old new → FetchesOnly fetched (IsOnView stands l n g table) tells (IsStructure l n) old new
metadata_only l n g table one = only_told (IsMetadataBy g) (IsStructure l n) (λ told v on. ((on.0, on.1), λ block is. metadata_structure l n g v block (on.2) is)) one

-- so has what is fetched for the directories, where each fragment of an indirect block has its bytes
pub directories_only : {S : Type 0} {fetched : S → List ℕ → S → Type 0} {stands still : Volume → Type 0} {tells : Type 0} {old new : S} (l n : ℕ) (g : Geometry) (table : ClaimTable)
    → ((l n : ℕ) (g : Geometry) (v : Volume) (block : ℕ) → (geometry_of l n v).value ≡ Ok g → HasWholeUppers g v → IsDirectoryRead g v block → IsStructure l n v block)
    → ((v : Volume) → stands v → still v) → (tells → (v : Volume) → IsOnView stands l n g table v → HasWholeUppers g v)
    → FetchesOnly fetched still tells (IsDirectoryRead g) old new → FetchesOnly fetched (IsOnView stands l n g table) tells (IsStructure l n) old new
directories_only l n g table structure keeps whole one =
    only_told (IsDirectoryRead g) (IsStructure l n) (λ told v on. (keeps v (on.0), λ block read. structure l n g v block (on.2) (whole told v on) read)) one

-- the superblock is refused
refused_by : (l n : ℕ) (v : Volume) (bad : BadSuper) → (geometry_of l n v).value ≡ Err bad → IsFirstMalformation l n v (Super bad) 0
unfolding IsMalformed
refused_by l n v bad is = record {
  here = subst (λ r. IsBadBy v r (Super bad) 0) (sym is) (refl, refl);
  least = λ m lt h. absurd (omega arith);
  first = λ other m lt h. absurd (omega arith);
}

pub refused_first : (l n : ℕ) (v : Volume) (bad : BadSuper) (kind : BadKind) (m : ℕ) → (geometry_of l n v).value ≡ Err bad → Super bad ≡ kind → 0 ≡ m → IsFirstMalformation l n v kind m
refused_first l n v bad kind m is same number = subst (λ kind. IsFirstMalformation l n v kind m) same (subst (λ m. IsFirstMalformation l n v (Super bad) m) number (refused_by l n v bad is))

-- the superblock gives a geometry
pub sound_volume : (l n : ℕ) (g : Geometry) (v : Volume) → (geometry_of l n v).value ≡ Ok g → Judges g v Sound → IsSoundVolume l n v
unfolding IsMalformed
sound_volume l n g v is none = λ kind number h. none kind number (subst (λ r. IsBadBy v r kind number) is h)

pub first_volume : (l n : ℕ) (g : Geometry) (v : Volume) (kind : BadKind) (number : ℕ) → (geometry_of l n v).value ≡ Ok g → Judges g v (Malformed kind number) → IsFirstMalformation l n v kind number
unfolding IsMalformed
first_volume l n g v kind number is one = record {
  here = subst (λ r. IsBadBy v r kind number) (sym is) one.here;
  least = λ m lt h. one.least m lt (subst (λ r. IsBadBy v r kind m) is h);
  first = λ other m lt h. one.first other m lt (subst (λ r. IsBadBy v r other m) is h);
}

-- ---- the claims of the volume

claim_along : (t u : ClaimSource → List ℕ) → ((source : ClaimSource) → t source ≡ u source) → {f : ℕ} {source : ClaimSource} → IsClaim t f source → IsClaim u f source
claim_along t u same (by_slot {fragment = f} {inode = i} {slot = slot} has) = by_slot (subst (λ xs. Contains xs f) (same (Slot i slot)) has)
claim_along t u same (by_pointer {fragment = f} {upper = upper} {level = level} {at = at} above is low has) =
    by_pointer (claim_along t u same above) is low (subst (λ xs. Contains xs f) (same (Pointer upper level at)) has)

volume_source : (l n : ℕ) (g : Geometry) (v : Volume) → (geometry_of l n v).value ≡ Ok g → (source : ClaimSource) → volume_fragments l n v source ≡ source_fragments g v source
unfolding volume_fragments
volume_source l n g v is source = ap (λ r. source_fragments_in v r source) is

pub table_claims : (l n : ℕ) (g : Geometry) (v : Volume) (table : ClaimTable) → (geometry_of l n v).value ≡ Ok g → IsTableOf l n v table → HasClaimsOf g table v
table_claims l n g v table is has = λ f source. (
  λ listed. claim_along (volume_fragments l n v) (source_fragments g v) (volume_source l n g v is) ((has.claims f source).0 listed),
  λ claim. (has.claims f source).1 (claim_along (source_fragments g v) (volume_fragments l n v) (λ s. sym (volume_source l n g v is s)) claim),
)

-- ---- the superblock, and then the passes

-- a volume of which the superblock gave this geometry, on the view as it is then
pub on_view : {stands still : Volume → Type 0} {k m : ℕ} (l n : ℕ) (g : Geometry) (table : ClaimTable) (v : Volume) → k ≡ l → m ≡ n → ((v : Volume) → stands v → still v)
    → (geometry_of l n v).value ≡ Ok g → IsTabled stands l n table v → IsOnView still k m g table v
on_view l n g table v size count keeps is tabled = (keeps v (tabled.0), table_claims l n g v table is (tabled.1), rw (size, count) is)

-- what both fetch has the structure
pub volume_fetched : {S : Type 0} {fetched : S → List ℕ → S → Type 0} {stands still : Volume → Type 0} {tells told : Type 0} {r : Option (Result Geometry BadSuper)} {old middle new : S} {k m : ℕ} (l n : ℕ) (g : Geometry) (table : ClaimTable)
    → k ≡ l → m ≡ n → ((s t u : S) (x y : List ℕ) → fetched s x t → fetched t y u → fetched s (x ++ y) u) → ((v : Volume) → stands v → still v) → (told → tells)
    → (told → (v : Volume) → stands v → (geometry_of l n v).value ≡ Ok g) → Fetches fetched stands tells (geometry_of l n) r old middle
    → FetchesOnly fetched (IsOnView still k m g table) told (IsStructure k m) middle new → FetchesOnly fetched (IsTabled stands l n table) told (IsStructure l n) old new
volume_fetched {k = k} {m = m} l n g table size count both keeps tell geometry one two =
    only_both both (λ v tabled. tabled) tell
    (only_told (IsStructure l n) (IsStructure l n) (λ told v tabled. (tabled.0, λ block h. h)) (only_needs (IsStructure l n) (λ v block needs. super_structure l n v block needs) one))
    (only_told (IsStructure k m) (IsStructure l n) (λ told v tabled. (on_view l n g table v size count keeps (geometry told v (tabled.0)) tabled, λ block h. rw (size, count) at h)) two)
