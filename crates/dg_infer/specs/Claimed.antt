-- What a table claims, where `claimed` tells it of each source.
use Rattle.std.specs.Prelude.{◌≡◌, ◌*◌, ◌<◌, ◌≤◌, ℕ, List, [], ◌∷◌}
use Rattle.std.specs.List.{Contains}
use Rattle.ufs_model.specs.Claims.{IsClaimedAt}
use Rattle.ufs_model.specs.Inodes.{inode_block}
use Rattle.ufs_model.specs.declared.claims.ClaimSource.{ClaimSource}
use Rattle.ufs_model.specs.declared.geometries.Geometry.{Geometry}

-- a source claims a fragment
abbrev pub ClaimsBy : (ClaimSource → List ℕ) → ℕ → ClaimSource → Type 0
ClaimsBy claimed fragment source = Contains (claimed source) fragment

-- a fragment is claimed at this level
abbrev pub IsClaimedBy : (ClaimSource → List ℕ) → ℕ → ℕ → Type 0
IsClaimedBy claimed level fragment = IsClaimedAt (ClaimsBy claimed) level fragment

-- none stands in the list twice
abbrev pub IsOnce : {X : Type 0} → List X → Type 0
IsOnce [] = Unit {0}
IsOnce (x ∷ xs) = (Contains xs x → ⊥) × IsOnce xs

-- an inode from 2 to the last stands in a block
abbrev pub StandsIn : Geometry → ℕ → ℕ → Type 0
StandsIn g inode block = (2 ≤ inode) × (inode < g.ncg * g.ipg) × (inode_block g inode ≡ block)
