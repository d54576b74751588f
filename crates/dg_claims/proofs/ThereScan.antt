-- Which blocks weren't gone when a scan of a volume began.
use Rattle.std.proofs.Common.{◌≡◌, ◌∙◌, ◌⊎◌, ℕ, List, Ok, Err, inl, inr, sym, subst, arith, Contains}
use Rattle.std.proofs.lemmas.List.{append-nil}
use Rattle.ufs_model.specs.Blocks.{Volume, bind}
use Rattle.ufs_model.specs.Superblocks.{geometry_of, superblock_of}
use Rattle.ufs_model.specs.declared.geometries.BadSuper.{BadSuper}
use Rattle.ufs_model.specs.declared.geometries.Geometry.{Geometry}
use Rattle.ufs_pointer.specs.Fetches.{IsNeeded}
use Rattle.dg_claims.proofs.MetadataLaws.{level_low}
use Rattle.dg_claims.specs.Scans.{HasInode, IsAbove, IsClaimRead, IsClaimReadBy, IsIndirect}
use Rattle.dg_claims.specs.Scans.IsClaimRead.{by_geometry, of_superblock}
use Rattle.dg_claims.specs.Scans.IsClaimReadBy.{of_indirects, of_inodes}

-- ---- claims

-- no level is above the third
pub none_above : (g : Geometry) (v : Volume) (b : ℕ) → IsAbove g 3 v b → ⊥
none_above g v b above = let low = level_low g v (above.1) in let high = above.2 in omega arith

pub read_cases : (g : Geometry) (v : Volume) (b : ℕ) → IsClaimReadBy g v b → HasInode g v b ⊎ IsIndirect g v b
read_cases g v b (of_inodes has) = inl has
read_cases g v b (of_indirects above) = inr above

-- ---- the superblock

super_read : (l n : ℕ) (v : Volume) (b : ℕ) → Contains ((superblock_of l n v).needs) b → IsNeeded (geometry_of l n) v b
unfolding geometry_of bind
super_read l n v b has = subst (λ (xs : List ℕ). Contains xs b) (sym (append-nil ((superblock_of l n v).needs))) has

pub super_cases : (l n : ℕ) (v : Volume) (g : Geometry) (b : ℕ) → Ok g ≡ (geometry_of l n v).value → IsClaimRead l n v b → IsNeeded (geometry_of l n) v b ⊎ IsClaimReadBy g v b
super_cases l n v g b is (of_superblock has) = inl (super_read l n v b has)
super_cases l n v g b is (by_geometry h has by) = let same : h ≡ g = let both : Ok g ≡ Ok h = is ∙ has in cc in inr (subst (λ k. IsClaimReadBy k v b) same by)

pub super_only : (l n : ℕ) (v : Volume) (bad : BadSuper) (b : ℕ) → Err bad ≡ (geometry_of l n v).value → IsClaimRead l n v b → IsNeeded (geometry_of l n) v b
super_only l n v bad b is (of_superblock has) = super_read l n v b has
super_only l n v bad b is (by_geometry h has by) = absurd (let both : Err bad ≡ Ok h = is ∙ has in cc)
