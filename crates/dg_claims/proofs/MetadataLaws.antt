-- Which blocks are read for the claims of a volume, and what its claims are by its geometry.
use Rattle.std.proofs.Common.{◌≡◌, ◌∙◌, ℕ, ◌<◌, ◌≤◌, List, [], Bool, true, false, cond, inl, inr, Option, Some, None, Result, Ok, Err, refl, sym, ap, subst, arith, Contains}
use Rattle.std.proofs.lemmas.List.{append-nil}
use Rattle.ufs_model.specs.Blocks.{Volume, bind}
use Rattle.ufs_model.specs.Claims.{IsClaim, IsClaimedAt, by_pointer, by_slot, level_of, slot_fragments_in, source_fragments, source_fragments_in, volume_fragments}
use Rattle.ufs_model.specs.Inodes.{inode_of, is_inode_number}
use Rattle.ufs_model.specs.Superblocks.{geometry_of, superblock_of}
use Rattle.ufs_model.specs.declared.claims.ClaimSource.{ClaimSource}
use Rattle.ufs_model.specs.declared.claims.ClaimSource.TheVariants.{Slot, Pointer}
use Rattle.ufs_model.specs.declared.geometries.BadSuper.{BadSuper}
use Rattle.ufs_model.specs.declared.geometries.Geometry.{Geometry}
use Rattle.ufs_model.specs.declared.inodes.Inode.{Inode}
use Rattle.dg_claims.proofs.ListLaws.{below_cases, contains_none}
use Rattle.dg_claims.proofs.SourceLaws.{past_slots}
use Rattle.ufs_pointer.specs.Fetches.{IsNeeded}
use Rattle.ufs_model.specs.Metadata.{IsMetadata, IsMetadataBy, by_geometry, of_indirect, of_inode, of_superblock}
use Rattle.dg_claims.specs.Scans.{HasInode, IsIndirect, IsRightAbove}
use Rattle.dg_claims.specs.Tables.{ClaimTable, HasClaims, IsLeveled, IsTableOf, accepted}

-- ---- the superblock's blocks

pub super_needed : (l n : ℕ) (v : Volume) (b : ℕ) → IsNeeded (geometry_of l n) v b → IsMetadata l n v b
unfolding geometry_of bind
super_needed l n v b has = of_superblock (subst (λ (xs : List ℕ). Contains xs b) (append-nil ((superblock_of l n v).needs)) has)

-- ---- claims by the geometry

pub claim_along : (t u : ClaimSource → List ℕ) → ((source : ClaimSource) → t source ≡ u source) → {fragment : ℕ} {source : ClaimSource} → IsClaim t fragment source → IsClaim u fragment source
claim_along t u same (by_slot {fragment = fragment} {inode = inode} {slot = slot} has) = by_slot (subst (λ xs. Contains xs fragment) (same (Slot inode slot)) has)
claim_along t u same (by_pointer {fragment = fragment} {upper = upper} {level = level} {at = at} above is low has) =
    by_pointer (claim_along t u same above) is low (subst (λ xs. Contains xs fragment) (same (Pointer upper level at)) has)

fragments_there : (l n : ℕ) (v : Volume) (g : Geometry) → Ok g ≡ (geometry_of l n v).value → (source : ClaimSource) → source_fragments g v source ≡ volume_fragments l n v source
unfolding volume_fragments
fragments_there l n v g is source = ap (λ r. source_fragments_in v r source) is

nothing_there : (l n : ℕ) (v : Volume) (bad : BadSuper) → Err bad ≡ (geometry_of l n v).value → (source : ClaimSource) → volume_fragments l n v source ≡ []
unfolding volume_fragments
nothing_there l n v bad is source = ap (λ r. source_fragments_in v r source) (sym is)

no_claim_there : (t : ClaimSource → List ℕ) → ((source : ClaimSource) → t source ≡ []) → (fragment : ℕ) (source : ClaimSource) → IsClaim t fragment source → ⊥
no_claim_there t none fragment source (by_slot {inode = inode} {slot = slot} has) = contains_none fragment (subst (λ xs. Contains xs fragment) (none (Slot inode slot)) has)
no_claim_there t none fragment source (by_pointer {upper = upper} {level = level} {at = at} above is low has) = contains_none fragment (subst (λ xs. Contains xs fragment) (none (Pointer upper level at)) has)

pub table_refused : (l n : ℕ) (v : Volume) (table : ClaimTable) (bad : BadSuper) → Err bad ≡ (geometry_of l n v).value → table.geometry ≡ None → ((source : ClaimSource) → table.claimed source ≡ [])
    → IsTableOf l n v table
table_refused l n v table bad is geometry none = record {
  geometry = geometry ∙ ap accepted is;
  claims = λ fragment source. (
    λ has. absurd (contains_none fragment (subst (λ xs. Contains xs fragment) (none source) has)),
    λ claim. absurd (no_claim_there (volume_fragments l n v) (nothing_there l n v bad is) fragment source claim),
  );
}

pub table_accepted : (l n : ℕ) (v : Volume) (table : ClaimTable) (g : Geometry) → Ok g ≡ (geometry_of l n v).value → table.geometry ≡ Some g
    → HasClaims table (IsClaim (source_fragments g v)) → IsTableOf l n v table
table_accepted l n v table g is geometry claims = record {
  geometry = geometry ∙ ap accepted is;
  claims = λ fragment source. (
    λ has. claim_along (source_fragments g v) (volume_fragments l n v) (fragments_there l n v g is) ((claims fragment source).0 has),
    λ claim. (claims fragment source).1 (claim_along (volume_fragments l n v) (source_fragments g v) (λ s. sym (fragments_there l n v g is s)) claim),
  );
}

some_is : (h g : Geometry) → Some h ≡ Some g → h ≡ g
some_is h g e = cc

accepted_is : (r : Result Geometry BadSuper) (g : Geometry) → Some g ≡ accepted r → r ≡ Ok g
accepted_is (Ok h) g is = ap Ok (some_is h g (sym is))
accepted_is (Err bad) g is = absurd cc

pub table_geometry : (l n : ℕ) (v : Volume) (table : ClaimTable) (g : Geometry) → IsTableOf l n v table → table.geometry ≡ Some g → (geometry_of l n v).value ≡ Ok g
table_geometry l n v table g is has = accepted_is ((geometry_of l n v).value) g (sym has ∙ is.geometry)

pub table_claims : (l n : ℕ) (v : Volume) (table : ClaimTable) (g : Geometry) → IsTableOf l n v table → table.geometry ≡ Some g → HasClaims table (IsClaim (source_fragments g v))
table_claims l n v table g is has =
    let there = sym (table_geometry l n v table g is has) in λ fragment source. (
      λ claim. claim_along (volume_fragments l n v) (source_fragments g v) (λ s. sym (fragments_there l n v g there s)) ((is.claims fragment source).0 claim),
      λ claim. (is.claims fragment source).1 (claim_along (source_fragments g v) (volume_fragments l n v) (fragments_there l n v g there) claim),
    )

upper_claimed : (t : ClaimSource → List ℕ) (fragment upper level at : ℕ) → IsClaim t fragment (Pointer upper level at) → IsClaimedAt (IsClaim t) level upper
upper_claimed t fragment upper level at (by_pointer {source = source} above is low has) = record { source = source; claim = above; is = is }

pub table_leveled : (l n : ℕ) (v : Volume) (table : ClaimTable) → IsTableOf l n v table → IsLeveled table
table_leveled l n v table is fragment upper level at claim =
    let above = upper_claimed (volume_fragments l n v) fragment upper level at ((is.claims fragment (Pointer upper level at)).0 claim) in
    record { source = above.source; claim = (is.claims upper above.source).1 above.claim; is = above.is }

pub metadata_by : (l n : ℕ) (v : Volume) (g : Geometry) → Ok g ≡ (geometry_of l n v).value → (b : ℕ) → IsMetadataBy g v b → IsMetadata l n v b
metadata_by l n v g is b by = by_geometry g (sym is) by

pub inode_metadata : (g : Geometry) (v : Volume) (b : ℕ) → HasInode g v b → IsMetadataBy g v b
inode_metadata g v b has = of_inode has.0 (has.1) (has.2)

pub indirect_metadata : (g : Geometry) (v : Volume) (b : ℕ) → IsIndirect g v b → IsMetadataBy g v b
indirect_metadata g v b at = of_indirect at.0 (at.1) (at.2)

-- ---- before any pointer

stored_past : (g : Geometry) (slot : ℕ) (found : Option Inode) → 15 ≤ slot → slot_fragments_in g slot found ≡ []
stored_past g slot None le = refl
stored_past g slot (Some inode) le = past_slots g inode slot le

cond_none : {X : Type 0} (b : Bool) (xs : List X) → xs ≡ [] → cond b xs [] ≡ []
cond_none true xs e = e
cond_none false xs e = refl

past_slot : (g : Geometry) (v : Volume) (inode slot : ℕ) → 15 ≤ slot → source_fragments g v (Slot inode slot) ≡ []
unfolding source_fragments
past_slot g v inode slot le = cond_none (is_inode_number g inode) (slot_fragments_in g slot ((inode_of g inode v).value)) (stored_past g slot ((inode_of g inode v).value) le)

short_slot : (g : Geometry) (v : Volume) (fragment inode slot : ℕ) → Contains (source_fragments g v (Slot inode slot)) fragment → slot < 15
short_slot g v fragment inode slot has = elim (below_cases slot 15) [
  | inl lt ↦ lt
  | inr le ↦ absurd (contains_none fragment (subst (λ xs. Contains xs fragment) (past_slot g v inode slot le) has))
]

pub level_low : (g : Geometry) (v : Volume) {fragment : ℕ} {source : ClaimSource} → IsClaim (source_fragments g v) fragment source → level_of source ≤ 3
level_low g v (by_slot {fragment = fragment} {inode = inode} {slot = slot} has) = let lt = short_slot g v fragment inode slot has in omega arith
level_low g v (by_pointer {upper = upper} {level = level} {at = at} above is low has) = let le = level_low g v above in omega (arith, is, le)

pointer_low : (g : Geometry) (v : Volume) (fragment upper level at : ℕ) → IsClaim (source_fragments g v) fragment (Pointer upper level at) → level ≤ 3
pointer_low g v fragment upper level at (by_pointer above is low has) = let le = level_low g v above in omega (arith, is, le)

pub right_above_all : (g : Geometry) (v : Volume) (claimed : ClaimSource → List ℕ) → ((inode slot : ℕ) → claimed (Slot inode slot) ≡ source_fragments g v (Slot inode slot))
    → ((fragment level at : ℕ) → claimed (Pointer fragment level at) ≡ []) → IsRightAbove (source_fragments g v) claimed 3
right_above_all g v claimed slots none = record {
  slots = λ fragment inode slot. (
    λ has. subst (λ xs. Contains xs fragment) (slots inode slot) has,
    λ has. subst (λ xs. Contains xs fragment) (sym (slots inode slot)) has,
  );
  pointers = λ fragment upper level at high. (
    λ has. absurd (contains_none fragment (subst (λ xs. Contains xs fragment) (none upper level at) has)),
    λ claim. let low = pointer_low g v fragment upper level at claim in absurd (omega (arith, low, high)),
  );
}
