-- Which blocks a table knows: those that are claimed, and those of the file system itself.
use Rattle.std.specs.Prelude.{◌≡◌, ◌⊎◌, ℕ, Bool, true, false, List, Option, Some, None}
use Rattle.std.specs.List.{Contains}
use Rattle.ufs_model.specs.Roles.{is_system, role}
use Rattle.ufs_model.specs.declared.claims.ClaimSource.{ClaimSource}
use Rattle.ufs_model.specs.declared.roles.Role.{Role}
use Rattle.ufs_model.specs.declared.roles.Role.TheVariants.{Data, Outside, System}
use Rattle.dg_model.specs.declared.verdicts.Who.{Who}
use Rattle.dg_model.specs.declared.verdicts.Who.TheVariants.{Outside as OutsideWho, System as SystemWho}
use Rattle.ufs_model.specs.declared.geometries.Geometry.{Geometry}

-- some source claims the fragment
abbrev pub HasClaim : (ClaimSource → List ℕ) → ℕ → Type 0
HasClaim claimed fragment = (source : ClaimSource) × Contains (claimed source) fragment

-- a block is one of the file system itself; none is without a geometry
abbrev pub is_system_by : Option Geometry → ℕ → Bool
is_system_by None b = false
is_system_by (Some g) b = is_system (role g b)

-- a block is one of these, or claimed
abbrev pub IsKnownBy : Option Geometry → (ClaimSource → List ℕ) → ℕ → Type 0
IsKnownBy geometry claimed b = (is_system_by geometry b ≡ true) ⊎ HasClaim claimed b

-- the role of a block; it has none without a geometry
abbrev pub role_by : Option Geometry → ℕ → Option Role
role_by None b = None
role_by (Some g) b = Some (role g b)

-- a block is data of a group
abbrev pub IsDataBy : Option Geometry → ℕ → Type 0
IsDataBy geometry b = (c : ℕ) × (role_by geometry b ≡ Some (Data c))

-- what is told of a role before all else
abbrev pub verdict_of : Option Role → Option Who
verdict_of None = None
verdict_of (Some Outside) = Some OutsideWho
verdict_of (Some (System kind)) = Some (SystemWho kind)
verdict_of (Some (Data c)) = None

abbrev pub verdict_by : Option Geometry → ℕ → Option Who
verdict_by geometry b = verdict_of (role_by geometry b)
