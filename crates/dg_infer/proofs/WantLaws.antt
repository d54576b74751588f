-- What a block is to the plan by what is kept.
use Rattle.std.proofs.Common.{◌≡◌, ℕ, false, Option, Some, None, refl, ap}
use Rattle.ufs_model.specs.Owners.{IsOwner}
use Rattle.ufs_model.specs.Owners.IsOwner.{by_own_slot, by_upper}
use Rattle.ufs_model.specs.Roles.{is_system, role}
use Rattle.ufs_model.specs.declared.geometries.Geometry.{Geometry}
use Rattle.ufs_model.specs.declared.roles.Role.TheVariants.{Data}
use Rattle.dg_claims.specs.Tables.{ClaimTable, TableClaims}
use Rattle.dg_infer.specs.Known.{HasClaim, is_system_by, role_by}

-- data of a group is no block of the file system itself
pub data_not_system : (geometry : Option Geometry) (b c : ℕ) → role_by geometry b ≡ Some (Data c) → is_system_by geometry b ≡ false
data_not_system None b c is = refl
data_not_system (Some g) b c is = let same : role g b ≡ Data c = cc in ap is_system same

-- what has an owner is claimed
pub owner_claims : (table : ClaimTable) (b i level : ℕ) → IsOwner (TableClaims table) b i level → HasClaim table.claimed b
owner_claims table b i level (by_own_slot only is) = (_, only.claim)
owner_claims table b i level (by_upper only is above) = (_, only.claim)
