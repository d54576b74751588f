-- Volumes that agree on metadata have the same claims, and those that agree on the structure the same malformations.
use Rattle.std.proofs.Common.{◌≡◌, ◌∙◌, ◌↔◌, ℕ, zero, suc, ◌/◌, ◌^◌, ◌<◌, ◌≤◌, inl, inr, length, Bool, true, false, List, [], Option, Some, None, Result, Ok, Err, refl, sym, ap, subst, arith}
use Rattle.std.specs.Prelude.{Contains, MatchOption, if◌then◌else◌, nat_le}
use Rattle.std.specs.Int.{div_ceil}
use Rattle.std.proofs.lemmas.Bool.Decides.{nat_tests}
use Rattle.std.proofs.lemmas.List.Elements.{Contains-append_cases}
use Rattle.ufs_model.specs.Blocks.{Consulted, Reading, Volume, bind, block_at, known}
use Rattle.ufs_model.specs.Claims.{IsClaim, VolumeClaims, source_fragments, source_fragments_in, volume_fragments}
use Rattle.ufs_model.specs.Inodes.{block_count, kind_of}
use Rattle.ufs_model.specs.Malformations.{IsBadBy, IsDirectory, IsFirstMalformation, IsMalformed, inode_at}
use Rattle.ufs_model.specs.Metadata.{IsMetadata, IsMetadataBy, IsStructure}
use Rattle.ufs_model.specs.Metadata.IsMetadata.{by_geometry, of_superblock}
use Rattle.ufs_model.specs.Metadata.IsMetadataBy.{of_group, of_indirect, of_inode}
use Rattle.ufs_model.specs.Metadata.IsStructure.{of_directory, of_metadata}
use Rattle.ufs_model.specs.Paths.{block_of, chunk_refusal, chunks_of, directory_refusal, entries_before, entries_of, is_directory, refused_first, unless_refused}
use Rattle.ufs_model.specs.Pointers.{file_block_of}
use Rattle.ufs_model.specs.Readings.{and_then, on_ok}
use Rattle.ufs_model.specs.Superblocks.{geometry_of, superblock_of}
use Rattle.ufs_model.specs.declared.claims.ClaimSource.{ClaimSource}
use Rattle.ufs_model.specs.declared.claims.ClaimSource.TheVariants.{Pointer, Slot}
use Rattle.ufs_model.specs.declared.geometries.BadSuper.{BadSuper}
use Rattle.ufs_model.specs.declared.geometries.Geometry.{Geometry}
use Rattle.ufs_model.specs.declared.inodes.Inode.{Inode}
use Rattle.ufs_model.specs.declared.inodes.Kind.TheVariants.{Directory}
use Rattle.ufs_model.specs.declared.malformations.BadKind.{BadKind}
use Rattle.ufs_model.specs.declared.reads.BadRead.TheVariants.{Filesize}
use Rattle.ufs_model.specs.declared.reads.PathRefusal.{PathRefusal}
use Rattle.ufs_model.specs.declared.reads.PathRefusal.TheVariants.{Bad, NotDirectory}
use Rattle.ufs_frames.specs.Frames.{AgreeOn, HasWholeIndirects, HasWholeUppers, HaveSameClaims, HaveSameStructure, IsFile, IsLocal, IsWhole}
use Rattle.ufs_frames.proofs.BlockLaws.{local_block, local_file_block}
use Rattle.ufs_frames.proofs.ClaimLaws.{ClaimAlike, alike, first_back, first_onto, other_way, owner_along, same_claims, same_group, same_inode, same_upper, shared_along}
use Rattle.ufs_frames.proofs.FragmentLaws.{in_none}
use Rattle.ufs_frames.proofs.LocalLaws.{bind_same, local_within}
use Rattle.ufs_frames.proofs.MalformationLaws.{AreAlike, is_directory as directory_onto, same_bad, turned}
use Rattle.ufs_frames.proofs.ReachLaws.{IsReachedFor, block_of_needs, file_block_needs}
use Rattle.ufs_frames.proofs.VolumeLaws.{geometry_is, local_geometry}

-- ---- readings one after another

-- the same first answer, and then the same from each
then_same : {A B R : Type 0} (d : Reading (Result A R)) (f : A → Reading (Result B R)) (v w : Volume) → d w ≡ d v → ((a : A) → f a w ≡ f a v) → and_then d f w ≡ and_then d f v
unfolding and_then
then_same {A} {B} {R} d f v w one each = bind_same d (λ answer. on_ok answer f) v w one (on ((d v).value))
  where
    on : (answer : Result A R) → on_ok answer f w ≡ on_ok answer f v
    on (Ok a) = each a
    on (Err refusal) = refl

-- ---- the superblock

local_superblock : (l n : ℕ) → IsLocal l (superblock_of l n)
unfolding superblock_of
local_superblock l n = local_within l n (8192 / l) (div_ceil 1376 l)

pub geometry_needs : (l n : ℕ) (v : Volume) (b : ℕ) → Contains ((geometry_of l n v).needs) b → Contains ((superblock_of l n v).needs) b
unfolding geometry_of bind
geometry_needs l n v b h = elim (Contains-append_cases ((superblock_of l n v).needs) [] b h) [
  | inl here ↦ here
  | inr none ↦ absurd (in_none b none)
]

-- ---- claims

-- claims by the geometry
by_found : (l n : ℕ) (v : Volume) (found : Result Geometry BadSuper) → (geometry_of l n v).value ≡ found → (source : ClaimSource) → volume_fragments l n v source ≡ source_fragments_in v found source
unfolding volume_fragments
by_found l n v found is source = ap (λ r. source_fragments_in v r source) is

pub volume_alike : (l n : ℕ) (v : Volume) (g : Geometry) → (geometry_of l n v).value ≡ Ok g → ClaimAlike (source_fragments g v) (volume_fragments l n v)
volume_alike l n v g is = record {
  slots = λ i slot. by_found l n v (Ok g) is (Slot i slot);
  pointers = λ upper level at source claim of_level above. by_found l n v (Ok g) is (Pointer upper level at);
}

pub claims_by : (l n : ℕ) (v : Volume) (g : Geometry) → (geometry_of l n v).value ≡ Ok g → (f : ℕ) (source : ClaimSource) → VolumeClaims l n v f source ↔ IsClaim (source_fragments g v) f source
claims_by l n v g is f source = same_claims (source_fragments g v) (volume_fragments l n v) (volume_alike l n v g is) f source

-- two volumes with one geometry
module _ (l n : ℕ) (v w : Volume) (agree : AgreeOn l (IsMetadata l n v) v w) where
  pub same_superblock : superblock_of l n w ≡ superblock_of l n v
  same_superblock = (local_superblock l n).same v w (λ b h. agree b (of_superblock h))

  pub same_geometry : geometry_of l n w ≡ geometry_of l n v
  same_geometry = (local_geometry l n).same v w (λ b h. agree b (of_superblock (geometry_needs l n v b h)))

  same_found : (geometry_of l n w).value ≡ (geometry_of l n v).value
  same_found = ap (λ (c : Consulted (Result Geometry BadSuper)). c.value) same_geometry

  pub metadata_agree : (g : Geometry) → (geometry_of l n v).value ≡ Ok g → AgreeOn g.fsize (IsMetadataBy g v) v w
  metadata_agree g is = subst (λ (k : ℕ). AgreeOn k (IsMetadataBy g v) v w) (sym ((geometry_is l n v g is).fsize)) (λ b h. agree b (by_geometry g is h))

  volume_same : (found : Result Geometry BadSuper) → (geometry_of l n v).value ≡ found → (f : ℕ) (source : ClaimSource) → VolumeClaims l n w f source ↔ VolumeClaims l n v f source
  volume_same (Ok g) is f source =
      let one = claims_by l n v g is f source in
      let other = claims_by l n w g (same_found ∙ is) f source in
      let both = same_claims (source_fragments g v) (source_fragments g w) (alike g v w (metadata_agree g is)) f source in
      (λ h. one.1 (both.0 (other.0 h)), λ h. other.1 (both.1 (one.0 h)))
  volume_same (Err bad) is f source = same_claims (volume_fragments l n v) (volume_fragments l n w) nothing f source
    where
      nothing : ClaimAlike (volume_fragments l n v) (volume_fragments l n w)
      nothing = record {
        slots = λ i slot. by_found l n w (Err bad) (same_found ∙ is) (Slot i slot) ∙ sym (by_found l n v (Err bad) is (Slot i slot));
        pointers = λ upper level at source claim of_level above. by_found l n w (Err bad) (same_found ∙ is) (Pointer upper level at) ∙ sym (by_found l n v (Err bad) is (Pointer upper level at));
      }

  pub same_volume_claims : (f : ℕ) (source : ClaimSource) → VolumeClaims l n w f source ↔ VolumeClaims l n v f source
  same_volume_claims = volume_same ((geometry_of l n v).value) refl

  -- ---- metadata

  by_onto : (g : Geometry) → (geometry_of l n v).value ≡ Ok g → (b : ℕ) → IsMetadataBy g v b → IsMetadataBy g w b
  by_onto g is b (of_group c low h) = of_group c low (subst (λ (bytes : Consulted (List ℕ)). Contains bytes.needs b) (sym (same_group g v w (metadata_agree g is) c low)) h)
  by_onto g is b (of_inode i low place) = of_inode i low place
  by_onto g is b (of_indirect source claim above) = of_indirect source ((same_claims (source_fragments g v) (source_fragments g w) (alike g v w (metadata_agree g is)) b source).1 claim) above

  by_back : (g : Geometry) → (geometry_of l n v).value ≡ Ok g → (b : ℕ) → IsMetadataBy g w b → IsMetadataBy g v b
  by_back g is b (of_group c low h) = of_group c low (subst (λ (bytes : Consulted (List ℕ)). Contains bytes.needs b) (same_group g v w (metadata_agree g is) c low) h)
  by_back g is b (of_inode i low place) = of_inode i low place
  by_back g is b (of_indirect source claim above) = of_indirect source ((same_claims (source_fragments g v) (source_fragments g w) (alike g v w (metadata_agree g is)) b source).0 claim) above

  metadata_onto : (b : ℕ) → IsMetadata l n v b → IsMetadata l n w b
  metadata_onto b (of_superblock h) = of_superblock (subst (λ (bytes : Consulted (List ℕ)). Contains bytes.needs b) (sym same_superblock) h)
  metadata_onto b (by_geometry g is h) = by_geometry g (same_found ∙ is) (by_onto g is b h)

  metadata_back : (b : ℕ) → IsMetadata l n w b → IsMetadata l n v b
  metadata_back b (of_superblock h) = of_superblock (subst (λ (bytes : Consulted (List ℕ)). Contains bytes.needs b) same_superblock h)
  metadata_back b (by_geometry g is h) = let here = sym same_found ∙ is in by_geometry g here (by_back g here b h)

  pub same_metadata : HaveSameClaims l n v w
  same_metadata = record {
    geometry = same_geometry;
    claims = same_volume_claims;
    owners = λ b i level. (
      owner_along (VolumeClaims l n w) (VolumeClaims l n v) (other_way same_volume_claims),
      owner_along (VolumeClaims l n v) (VolumeClaims l n w) same_volume_claims,
    );
    shared = λ b count. (
      shared_along (VolumeClaims l n w) (VolumeClaims l n v) (other_way same_volume_claims),
      shared_along (VolumeClaims l n v) (VolumeClaims l n w) same_volume_claims,
    );
    metadata = λ b. (metadata_back b, metadata_onto b);
  }

-- ---- directories

small_by : (directory large : Bool) (further : Option PathRefusal) → (if directory then refused_first (if large then Some (Bad Filesize) else None) further else Some NotDirectory) ≡ None → large ≡ false
small_by true true further is = let no : Some (Bad Filesize) ≡ None = is in cc
small_by true false further is = refl
small_by false large further is = let no : Some NotDirectory ≡ None = is in cc

pub small_directory : (inode : Inode) → directory_refusal inode ≡ None → inode.size < 2 ^ 32
unfolding directory_refusal
small_directory inode is =
    let small : nat_le (2 ^ 32) inode.size ≡ false = small_by (is_directory (kind_of inode.mode)) (nat_le (2 ^ 32) inode.size) (chunk_refusal inode) is in
    grind (arith, nat_tests)

unless_by : {A : Type 0} (refusal : Option PathRefusal) (d : Reading (Result A PathRefusal)) (v w : Volume) → (refusal ≡ None → d w ≡ d v) → unless_refused refusal d w ≡ unless_refused refusal d v
unless_by None d v w same = same refl
unless_by (Some refusal) d v w same = refl

pub whole_by : (l n : ℕ) (v : Volume) (g : Geometry) → (geometry_of l n v).value ≡ Ok g → HasWholeIndirects l n v → IsWhole g v
whole_by l n v g is whole =
    let on = geometry_is l n v g is in record {
      geometry = on.tests;
      uppers = λ f source claim above. subst (λ (k : ℕ). length (block_at k v f) ≡ k) (sym on.fsize) (whole f source ((claims_by l n v g is f source).1 claim) above);
    }

-- indirect blocks by the geometry are those of the volume
pub indirects_by : (l n : ℕ) (v : Volume) (g : Geometry) → (geometry_of l n v).value ≡ Ok g → HasWholeUppers g v → HasWholeIndirects l n v
indirects_by l n v g is uppers = λ b source claim above.
    subst (λ (k : ℕ). length (block_at k v b) ≡ k) ((geometry_is l n v g is).fsize) (uppers b source ((claims_by l n v g is b source).0 claim) above)

directory_found : (g : Geometry) (v : Volume) (i : ℕ) (inode : Inode) → inode_at g v i ≡ Some inode → kind_of inode.mode ≡ Directory → IsDirectory g v i (λ _. Unit {0})
directory_found g v i inode there is = subst (λ found. MatchOption found ⊥ (λ inode. (kind_of inode.mode ≡ Directory) × Unit {0})) (sym there) (is, tt)

-- the blocks that are needed to read a directory
of_file : (l n : ℕ) (v : Volume) (g : Geometry) → (geometry_of l n v).value ≡ Ok g → (i b : ℕ) → IsDirectory g v i (λ _. Unit {0}) → IsReachedFor g v i b → IsStructure l n v b
of_file l n v g is i b directory reached = of_directory g i reached.first reached.source is directory reached.claim reached.reaches

pub directory_needs : (l n : ℕ) (v : Volume) → HasWholeIndirects l n v → (g : Geometry) → (geometry_of l n v).value ≡ Ok g → (i : ℕ) (inode : Inode) → inode_at g v i ≡ Some inode
    → kind_of inode.mode ≡ Directory → inode.size < 2 ^ 32 → (k : ℕ) → k < block_count g inode → (b : ℕ) → Contains ((block_of g inode k v).needs) b → IsStructure l n v b
directory_needs l n v whole g is i inode there directory small k low b h =
    let file : IsFile g v i inode = record { there = there; pointers = rw directory refl } in
    of_file l n v g is i b (directory_found g v i inode there directory) (block_of_needs g v i k b inode (whole_by l n v g is whole) file small low h)

module _ (l n : ℕ) (v w : Volume) (whole : HasWholeIndirects l n v) (agree : AgreeOn l (IsStructure l n v) v w) where
  pub agree_metadata : AgreeOn l (IsMetadata l n v) v w
  agree_metadata b h = agree b (of_metadata h)

  agree_file : (g : Geometry) → (geometry_of l n v).value ≡ Ok g → (i b : ℕ) → IsDirectory g v i (λ _. Unit {0}) → IsReachedFor g v i b → block_at g.fsize w b ≡ block_at g.fsize v b
  agree_file g is i b directory h =
      subst (λ (k : ℕ). block_at k w b ≡ block_at k v b) (sym ((geometry_is l n v g is).fsize)) (agree b (of_file l n v g is i b directory h))

  -- what is read of one directory
  module _ (g : Geometry) (is : (geometry_of l n v).value ≡ Ok g) (i : ℕ) (inode : Inode) (there : inode_at g v i ≡ Some inode) (directory : kind_of inode.mode ≡ Directory) (small : inode.size < 2 ^ 32) where
    file : IsFile g v i inode
    file = record { there = there; pointers = rw directory refl }

    same_address : (k : ℕ) → k < block_count g inode → file_block_of g inode k w ≡ file_block_of g inode k v
    same_address k low = (local_file_block g inode k).same v w (λ b h.
        agree_file g is i b (directory_found g v i inode there directory) (file_block_needs g v i k b inode (whole_by l n v g is whole) file small low h))

    same_block : (k : ℕ) → k < block_count g inode → block_of g inode k w ≡ block_of g inode k v
    same_block k low = (local_block g inode k).same v w (λ b h.
        agree_file g is i b (directory_found g v i inode there directory) (block_of_needs g v i k b inode (whole_by l n v g is whole) file small low h))

    same_chunks : (k : ℕ) → k < block_count g inode → chunks_of g inode k w ≡ chunks_of g inode k v
    unfolding chunks_of
    same_chunks k low = then_same (block_of g inode k) _ v w (same_block k low) (λ block. then_same (known _) _ v w refl (λ bytes. refl))

    same_before : (k : ℕ) → k ≤ block_count g inode → entries_before g inode k w ≡ entries_before g inode k v
    unfolding entries_before
    same_before zero low = refl
    same_before (suc k) low = then_same (entries_before g inode k) _ v w (same_before k (omega arith)) (λ front.
        then_same (chunks_of g inode k) _ v w (same_chunks k (omega arith)) (λ chunks.
        then_same (known _) _ v w refl (λ entries. refl)))

  same_entries : (g : Geometry) → (geometry_of l n v).value ≡ Ok g → (i : ℕ) (inode : Inode) → inode_at g v i ≡ Some inode → kind_of inode.mode ≡ Directory → entries_of g inode w ≡ entries_of g inode v
  unfolding entries_of
  same_entries g is i inode there directory = unless_by (directory_refusal inode) (entries_before g inode (block_count g inode)) v w
      (λ accepted. same_before g is i inode there directory (small_directory inode accepted) (block_count g inode) (omega arith))

  alike_by : (g : Geometry) → (geometry_of l n v).value ≡ Ok g → AreAlike g v w
  alike_by g is =
      let metadata = metadata_agree l n v w agree_metadata g is in
      record {
        geometry = (geometry_is l n v g is).tests;
        inodes = same_inode g v w metadata;
        claims = same_claims (source_fragments g v) (source_fragments g w) (alike g v w metadata);
        uppers = same_upper g v w metadata;
        firsts = λ source i m. (first_back g v w metadata source i m, first_onto g v w metadata source i m);
        groups = same_group g v w metadata;
        addresses = λ i k inode there directory small low. same_address g is i inode there directory small k low;
        chunks = λ i k inode there directory small low. same_chunks g is i inode there directory small k low;
        entries = same_entries g is;
      }

  -- ---- malformations

  found_bad : (found : Result Geometry BadSuper) → (geometry_of l n v).value ≡ found → (kind : BadKind) (m : ℕ) → IsBadBy w found kind m ↔ IsBadBy v found kind m
  found_bad (Ok g) is kind m = (same_bad g w v (turned g v w (alike_by g is)) kind m, same_bad g v w (alike_by g is) kind m)
  found_bad (Err bad) is kind m = (λ h. h, λ h. h)

  pub same_malformations : (kind : BadKind) (m : ℕ) → IsMalformed l n w kind m ↔ IsMalformed l n v kind m
  unfolding IsMalformed
  same_malformations kind m =
      let both = found_bad ((geometry_of l n v).value) refl kind m in
      let found = ap (λ (c : Consulted (Result Geometry BadSuper)). c.value) (same_geometry l n v w agree_metadata) in
      (λ h. both.0 (subst (λ r. IsBadBy w r kind m) found h), λ h. subst (λ r. IsBadBy w r kind m) (sym found) (both.1 h))

  pub same_first : (kind : BadKind) (m : ℕ) → IsFirstMalformation l n w kind m ↔ IsFirstMalformation l n v kind m
  same_first kind m = (
    λ h. record {
      here = (same_malformations kind m).0 h.here;
      least = λ k low bad. h.least k low ((same_malformations kind k).1 bad);
      first = λ other k before bad. h.first other k before ((same_malformations other k).1 bad);
    },
    λ h. record {
      here = (same_malformations kind m).1 h.here;
      least = λ k low bad. h.least k low ((same_malformations kind k).0 bad);
      first = λ other k before bad. h.first other k before ((same_malformations other k).0 bad);
    },
  )

  -- ---- the structure

  structure_onto : (b : ℕ) → IsStructure l n v b → IsStructure l n w b
  structure_onto b (of_metadata h) = of_metadata (((same_metadata l n v w agree_metadata).metadata b).1 h)
  structure_onto b (of_directory g i first source is directory claim reaches) =
      let same = alike_by g is in
      let found = ap (λ (c : Consulted (Result Geometry BadSuper)). c.value) (same_geometry l n v w agree_metadata) in
      of_directory g i first source (found ∙ is) (directory_onto g v w same i directory) ((same.claims b source).1 claim) ((same.firsts source i first).1 reaches)

  structure_back : (b : ℕ) → IsStructure l n w b → IsStructure l n v b
  structure_back b (of_metadata h) = of_metadata (((same_metadata l n v w agree_metadata).metadata b).0 h)
  structure_back b (of_directory g i first source is directory claim reaches) =
      let found = ap (λ (c : Consulted (Result Geometry BadSuper)). c.value) (same_geometry l n v w agree_metadata) in
      let here = sym found ∙ is in
      let same = alike_by g here in
      of_directory g i first source here (directory_onto g w v (turned g v w same) i directory) ((same.claims b source).0 claim) ((same.firsts source i first).0 reaches)

  pub same_structure : HaveSameStructure l n v w
  same_structure = record {
    claims = same_metadata l n v w agree_metadata;
    malformations = same_malformations;
    first = same_first;
    structure = λ b. (structure_back b, structure_onto b);
  }
