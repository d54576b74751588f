-- Which blocks a change of the claims fetched.
use Rattle.std.specs.Prelude.{◌≡◌, ◌≢◌, ◌<◌, ℕ, List, [], Bool, false, true, map}
use Rattle.dg_model.specs.Rereads.{ClaimPlace}
use Rattle.std.specs.List.{Contains}
use Rattle.ufs_model.specs.declared.claims.ClaimSource.{ClaimSource}
use Rattle.ufs_model.specs.declared.geometries.Geometry.{Geometry}
use Rattle.dg_infer.specs.Areas.{IsAreaRest}
use Rattle.dg_infer.specs.Claimed.{IsClaimedBy, IsOnce}
use Rattle.dg_infer.specs.Watches.{touch_at}
use Rattle.dg_infer.specs.declared.watches.Touch.{Touch}

-- Just these blocks were fetched, each once, and each is of a kind.
pub record FetchesOnce {S : Type 0} (fetched : S → List ℕ → S → Type 0) (kind : ℕ → Type 0) (old new : S) : Type 0 where
  pub blocks : List ℕ
  pub were : fetched old blocks new
  pub once : IsOnce blocks
  pub each : (b : ℕ) → Contains blocks b → kind b

-- Some fragment with a claim at a level is gone.
pub record LosesClaimed (claimed : ClaimSource → List ℕ) (level count : ℕ) (gone : ℕ → Bool) : Type 0 where
  pub fragment : ℕ
  pub within : fragment < count
  pub lost : gone fragment ≡ true
  pub claim : IsClaimedBy claimed level fragment

-- a fragment other than the block has a claim at the level, and had none, by one of the first touches
pub record Begins (touches : List Touch) (claimed : ClaimSource → List ℕ) (level block count fragment : ℕ) : Type 0 where
  pub index : ℕ
  pub inside : index < count
  pub at : (touch_at touches index).fragment ≡ fragment
  pub on : (touch_at touches index).level ≡ level
  pub none : (touch_at touches index).was ≡ false
  pub some : IsClaimedBy claimed level fragment
  pub other : fragment ≢ block

-- b is the fragment of a touch at a level, which has a claim there, and had none, and isn't the block
pub record IsNewAt (touch : Touch) (claimed : ClaimSource → List ℕ) (level block b : ℕ) : Type 0 where
  pub at : b ≡ touch.fragment
  pub on : touch.level ≡ level
  pub none : touch.was ≡ false
  pub some : IsClaimedBy claimed level touch.fragment
  pub other : touch.fragment ≢ block

-- A fragment other than the block has claims at a level above this one, in some sense, and had none there.
pub record IsBegun (before : ClaimSource → List ℕ) (Claims : ClaimPlace → Type 0) (most block : ℕ) (place : ClaimPlace) : Type 0 where
  pub above : most < place.level
  pub other : place.fragment ≢ block
  pub none : IsClaimedBy before place.level place.fragment → ⊥
  pub some : Claims place

-- the fragments of some places, in their order
abbrev pub fragments_of : List ClaimPlace → List ℕ
fragments_of places = map (λ place. place.fragment) places

-- Just the fragments of these places were fetched, each place once, and each is of a kind.
pub record FetchesPlaces {S : Type 0} (fetched : S → List ℕ → S → Type 0) (kind : ClaimPlace → Type 0) (old new : S) : Type 0 where
  pub places : List ClaimPlace
  pub were : fetched old (fragments_of places) new
  pub once : IsOnce places
  pub each : (place : ClaimPlace) → Contains places place → kind place

-- Where all claims are new, just other blocks with inodes and of group blocks were fetched, each once, and then fragments with claims
-- above level 0, once for each of their levels.
pub record FetchesFresh {S : Type 0} (fetched : S → List ℕ → S → Type 0) (g : Geometry) (block : ℕ) (Claims : ClaimPlace → Type 0) (old new : S) : Type 0 where
  pub middle : S
  pub areas : FetchesOnce fetched (IsAreaRest g g.size block) old middle
  pub levels : FetchesPlaces fetched (IsBegun (λ source. []) Claims 0 block) middle new
