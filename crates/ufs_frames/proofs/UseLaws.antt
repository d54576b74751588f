-- What is read by a path needs blocks of the file system itself, and claimed ones.
use Rattle.std.proofs.Common.{◌≡◌, ℕ, true, List, Ok, sym, subst}
use Rattle.ufs_model.specs.Blocks.{Volume}
use Rattle.ufs_model.specs.Claims.{IsClaim, source_fragments}
use Rattle.ufs_model.specs.Geometries.{IsGeometry}
use Rattle.ufs_model.specs.Listings.{listing_of}
use Rattle.ufs_model.specs.Metadata.{IsMetadataBy}
use Rattle.ufs_model.specs.Metadata.IsMetadataBy.{of_group, of_indirect, of_inode}
use Rattle.ufs_model.specs.Paths.{contents_of, look_from, named_inode}
use Rattle.ufs_model.specs.Readings.{and_then}
use Rattle.ufs_model.specs.Roles.{is_system, role}
use Rattle.ufs_model.specs.Trees.{tree_below}
use Rattle.ufs_model.specs.declared.claims.ClaimSource.{ClaimSource}
use Rattle.ufs_model.specs.declared.geometries.Geometry.{Geometry}
use Rattle.ufs_model.specs.declared.inodes.Inode.{Inode}
use Rattle.ufs_frames.specs.Frames.{IsWhole}
use Rattle.ufs_frames.proofs.NeedLaws.{Needs, needs_cat as cat_by_kind, needs_look as look_by_kind, needs_ls as ls_by_kind, needs_named as named_by_kind, needs_tree as tree_by_kind}
use Rattle.ufs_frames.proofs.ReachLaws.{IsReachedFor}
use Rattle.ufs_frames.proofs.RoleLaws.{group_system, inode_system}

-- a block of the file system itself, or a claimed one
pub data IsUsed (g : Geometry) (v : Volume) (b : ℕ) : Type 0 where
  by_system : is_system (role g b) ≡ true → IsUsed g v b
  by_claim : (source : ClaimSource) → IsClaim (source_fragments g v) b source → IsUsed g v b

pub metadata_used : (g : Geometry) (v : Volume) (b : ℕ) → IsGeometry g → IsMetadataBy g v b → IsUsed g v b
metadata_used g v b is (of_group c low h) = by_system (group_system g v c b is low h)
metadata_used g v b is (of_inode i low place) = by_system (subst (λ (f : ℕ). is_system (role g f) ≡ true) (sym place) (inode_system g i is low))
metadata_used g v b is (of_indirect source claim above) = by_claim source claim

-- ---- what is read by a path

module _ (g : Geometry) (v : Volume) (whole : IsWhole g v) where
  -- what is reached for an inode is claimed, whichever inode it is
  reached_used : (i b : ℕ) → Unit {0} → IsReachedFor g v i b → IsUsed g v b
  reached_used i b any reached = by_claim reached.source reached.claim

  pub needs_named : (i : ℕ) → Needs (IsUsed g v) v (named_inode g i)
  needs_named i = named_by_kind g v whole (IsUsed g v) (λ j. Unit {0}) (λ b h. by_system h) reached_used (λ j inode there is. tt) i

  pub needs_look : (names : List (List ℕ)) (i : ℕ) → Needs (IsUsed g v) v (look_from g names i)
  needs_look names i = look_by_kind g v whole (IsUsed g v) (λ j. Unit {0}) (λ b h. by_system h) reached_used (λ j inode there is. tt) names i

  pub needs_cat : (names : List (List ℕ)) (i : ℕ) → Needs (IsUsed g v) v (and_then (look_from g names i) (λ found. contents_of g found.1))
  needs_cat names i = cat_by_kind g v whole (IsUsed g v) (λ j. Unit {0}) (λ b h. by_system h) reached_used (λ j inode there is. tt) names i (λ found has regular. tt)

  pub needs_ls : (names : List (List ℕ)) (i : ℕ) → Needs (IsUsed g v) v (and_then (look_from g names i) (λ found. listing_of g found.1))
  needs_ls names i = ls_by_kind g v whole (IsUsed g v) (λ j. Unit {0}) (λ b h. by_system h) reached_used (λ j inode there is. tt) names i

  pub needs_tree : (levels depth i : ℕ) (inode : Inode) → (named_inode g i v).value ≡ Ok inode → Needs (IsUsed g v) v (tree_below g levels depth inode)
  needs_tree levels depth i inode has = tree_by_kind g v whole (IsUsed g v) (λ j. Unit {0}) (λ b h. by_system h) reached_used (λ j inode there is. tt) levels depth i inode has
