-- What a write gave reason to fetch.
use Rattle.std.specs.Prelude.{◌≡◌, ◌++◌, ℕ, List, [], Option, Some, None, length}
use Rattle.std.specs.List.{All, Contains}
use Rattle.dg_io.specs.declared.views.View.{Ghosts}
use Rattle.dg_model.specs.Rereads.{ClaimPlace, Rereads, count_read}
use Rattle.ufs_model.specs.Blocks.{Volume}
use Rattle.ufs_model.specs.declared.claims.ClaimSource.{ClaimSource}
use Rattle.ufs_model.specs.declared.geometries.Geometry.{Geometry}
use Rattle.dg_infer.specs.Areas.{IsGroupRest}
use Rattle.dg_infer.specs.Fetched.{FetchesFresh, FetchesOnce, FetchesPlaces, IsBegun, fragments_of}
use Rattle.dg_infer.specs.Places.{IsClaimedIn}

-- The blocks are the first of what stands beside, then the indirect blocks, and then the rest of what stands beside.
pub record IsAround (beside indirect blocks : List ℕ) : Type 0 where
  pub first : List ℕ
  pub last : List ℕ
  pub all_beside : beside ≡ first ++ last
  pub order : blocks ≡ first ++ (indirect ++ last)

-- Just what a write of the block gave reason to read was fetched after it, each once, and never the block itself: indirect blocks with a
-- claim after the write that is none of those before it, and what stands beside the block. The volume is known where its bytes are told.
pub record FetchesReread {S : Type 0} (view : Ghosts S) (start end : S) (Known : Type 0) (l n : ℕ) (old new : Volume) (b : ℕ) : Type 0 where
  pub reads : Rereads Known l n old new b
  pub claimed : Known → All (IsClaimedIn l n new) reads.indirect
  pub blocks : List ℕ
  pub were : view.fetched start blocks end
  pub are : IsAround reads.beside (fragments_of reads.indirect) blocks
  pub count : length blocks ≡ count_read reads
  pub never : Contains blocks b → ⊥

-- another block of the same group block; there is none without a geometry
abbrev pub IsGroupRestBy : Option Geometry → ℕ → ℕ → Type 0
IsGroupRestBy None block b = ⊥
IsGroupRestBy (Some g) block b = IsGroupRest g block b

-- Where the geometry stays, just fragments were fetched whose claims began, and then the rest of the group block that the block is part of.
pub record FetchesKept {S : Type 0} (fetched : S → List ℕ → S → Type 0) (geometry : Option Geometry) (block : ℕ) (before : ClaimSource → List ℕ) (Claims : ClaimPlace → Type 0) (old new : S) : Type 0 where
  pub middle : S
  pub levels : FetchesPlaces fetched (IsBegun before Claims 0 block) old middle
  pub group : FetchesOnce fetched (IsGroupRestBy geometry block) middle new

-- The same for a write that gave the volume a geometry, or left it without one: where it is another, the blocks with inodes and the group
-- blocks were fetched but for the block, and then all indirect blocks.
pub data FetchesFollowing {S : Type 0} (fetched : S → List ℕ → S → Type 0) (geometry next : Option Geometry) (block : ℕ) (before : ClaimSource → List ℕ) (Claims : ClaimPlace → Type 0) (old new : S) : Type 0 where
  kept : geometry ≡ next → FetchesKept fetched geometry block before Claims old new → FetchesFollowing fetched geometry next block before Claims old new
  dropped : (geometry ≡ next → ⊥) → next ≡ None → fetched old [] new → FetchesFollowing fetched geometry next block before Claims old new
  fresh : (geometry ≡ next → ⊥) → (g : Geometry) → next ≡ Some g → FetchesFresh fetched g block Claims old new
      → FetchesFollowing fetched geometry next block before Claims old new
