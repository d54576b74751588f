-- What a write of one block changes in a table of claims, level by level. In each table `claimed` tells what each source claims;
-- `targets` tells what a source claims where it is there, after the write.
use Rattle.std.specs.Prelude.{◌≡◌, ◌↔◌, ◌-◌, ◌≤◌, ◌<◌, ℕ, List, [], true}
use Rattle.std.specs.List.{Contains}
use Rattle.ufs_model.specs.Blocks.{Volume}
use Rattle.ufs_model.specs.Claims.{IsClaim, source_fragments}
use Rattle.ufs_model.specs.declared.geometries.Geometry.{Geometry}
use Rattle.ufs_model.specs.declared.claims.ClaimSource.{ClaimSource}
use Rattle.ufs_model.specs.declared.claims.ClaimSource.TheVariants.{Slot, Pointer}
use Rattle.dg_infer.specs.Claimed.{IsClaimedBy}
use Rattle.dg_infer.specs.Watches.{IsTouched, IsWatched}
use Rattle.dg_infer.specs.declared.watches.Touch.{Touch}

-- a table has just the claims
pub record AreClaims (targets claimed : ClaimSource → List ℕ) : Type 0 where
  pub each : (fragment : ℕ) (source : ClaimSource) → Contains (claimed source) fragment ↔ IsClaim targets fragment source

-- The claims of slots, and of pointers of fragments at levels above this one, are those after the write. Pointers at this level
-- and below claim what they did before it.
pub record IsRightDownTo (targets before now : ClaimSource → List ℕ) (most : ℕ) : Type 0 where
  pub slots : (fragment inode slot : ℕ) → Contains (now (Slot inode slot)) fragment ↔ Contains (targets (Slot inode slot)) fragment
  pub pointers : (fragment upper level at : ℕ) → most < level → Contains (now (Pointer upper level at)) fragment ↔ IsClaim targets fragment (Pointer upper level at)
  pub kept : (upper level at : ℕ) → level ≤ most → now (Pointer upper level at) ≡ before (Pointer upper level at)

-- All is ready for the levels: before the write `sources` was what each source claims where it is there; where a fragment had a claim,
-- and isn't the block that was written, its pointers are what they were; that block is touched at each level above 0; and the slots are
-- right.
pub record IsReady (targets sources before now : ClaimSource → List ℕ) (block : ℕ) (touches : List Touch) : Type 0 where
  pub were : AreClaims sources before
  pub same : (upper level at : ℕ) → IsClaimedBy before level upper → (upper ≡ block → ⊥) → sources (Pointer upper level at) ≡ targets (Pointer upper level at)
  pub touched : (level : ℕ) → 1 ≤ level → level ≤ 3 → IsTouched touches level block
  pub watched : IsWatched before now touches
  pub right : IsRightDownTo targets before now 3

-- What became of the pointers of a touched fragment at its level: they were made anew, where it has a claim there; they were taken
-- out, where it has none; or they stayed, where it has one just if it had one, and isn't the block that was written, if it has one.
pub data IsMoved (targets now next : ClaimSource → List ℕ) (block : ℕ) (touch : Touch) : Type 0 where
  anew : IsClaimedBy now touch.level touch.fragment → ((at : ℕ) → next (Pointer touch.fragment touch.level at) ≡ targets (Pointer touch.fragment touch.level at)) → IsMoved targets now next block touch
  ended : (IsClaimedBy now touch.level touch.fragment → ⊥) → ((at : ℕ) → next (Pointer touch.fragment touch.level at) ≡ []) → IsMoved targets now next block touch
  stayed : (touch.fragment ≡ block → IsClaimedBy now touch.level touch.fragment → ⊥) → (touch.was ≡ true) ↔ IsClaimedBy now touch.level touch.fragment
      → ((at : ℕ) → next (Pointer touch.fragment touch.level at) ≡ now (Pointer touch.fragment touch.level at)) → IsMoved targets now next block touch

-- the same on a volume, for some claims before the write
abbrev pub IsReadyOn : Geometry → Volume → (ClaimSource → List ℕ) → ℕ → List Touch → Type 0
IsReadyOn g v now block touches = (sources : ClaimSource → List ℕ) × (before : ClaimSource → List ℕ) × IsReady (source_fragments g v) sources before now block touches

-- each source but the pointers of touched fragments at a level claims what it claimed
abbrev pub KeepsOffLevel : (ClaimSource → List ℕ) → (ClaimSource → List ℕ) → ℕ → Type 0
KeepsOffLevel now next level = (source : ClaimSource) → ((upper at : ℕ) → source ≡ Pointer upper level at → ⊥) → next source ≡ now source

-- Where the claims before were right down to a level, they are right now down to the one below.
abbrev pub IsRightBelow : (ClaimSource → List ℕ) → (ClaimSource → List ℕ) → (ClaimSource → List ℕ) → ℕ → ℕ → List Touch → Type 0
IsRightBelow targets now next level block touches =
    (sources before : ClaimSource → List ℕ) → AreClaims sources before
    → ((upper at : ℕ) → IsClaimedBy before level upper → (upper ≡ block → ⊥) → sources (Pointer upper level at) ≡ targets (Pointer upper level at))
    → IsTouched touches level block → IsWatched before now touches
    → IsRightDownTo targets before now level → IsRightDownTo targets before next (level - 1)
