-- What is wrong with the fragments of a volume.
use Rattle.std.specs.Prelude.{◌≡◌, ◌<◌, ℕ, Contains}
use Rattle.ufs_model.specs.Blocks.{Volume}
use Rattle.ufs_model.specs.Claims.{level_of}
use Rattle.ufs_model.specs.Malformations.{Claims, IsBad}
use Rattle.ufs_model.specs.declared.claims.ClaimSource.{ClaimSource}
use Rattle.ufs_model.specs.declared.geometries.Geometry.{Geometry}
use Rattle.ufs_model.specs.declared.malformations.BadKind.TheVariants.{WildIn, AlignIn, Twice, PastIn, Free}
use Rattle.dg_claims.specs.Tables.{ClaimTable, HasClaims}
use Rattle.ufs_model.specs.Audits.{AreAll}
use Rattle.ufs_check.specs.Notes.{AreAllBelow}
use Rattle.ufs_check.specs.declared.verdicts.FragmentFaults.{FragmentFaults}

-- a table has the claims of a volume with this geometry
abbrev pub HasClaimsOf : Geometry → ClaimTable → Volume → Type 0
HasClaimsOf g table v = HasClaims table (Claims g v)

-- a volume of a view, of which the claims are those of a table
abbrev pub IsClaimedBy : (Volume → Type 0) → Geometry → ClaimTable → Volume → Type 0
IsClaimedBy stands g table v = stands v × HasClaimsOf g table v

-- by a table a fragment has a claim at a level above 0
abbrev pub IsUpperIn : ClaimTable → ℕ → Type 0
IsUpperIn table f = (source : ClaimSource) × (0 < level_of source) × Contains (table.claimed source) f

-- of each kind all fragments
pub record AreFragmentFaults (g : Geometry) (v : Volume) (faults : FragmentFaults) : Type 0 where
  pub wild_in : AreAll (IsBad g v WildIn) faults.wild_in.items
  pub align_in : AreAll (IsBad g v AlignIn) faults.align_in.items
  pub twice : AreAll (IsBad g v Twice) faults.twice.items
  pub past_in : AreAll (IsBad g v PastIn) faults.past_in.items
  pub free : AreAll (IsBad g v Free) faults.free.items

-- those below a bound, of the kinds that speak of pointers
pub record ArePointerFaultsBelow (g : Geometry) (v : Volume) (bound : ℕ) (faults : FragmentFaults) : Type 0 where
  pub wild_in : AreAllBelow (IsBad g v WildIn) bound faults.wild_in.items
  pub align_in : AreAllBelow (IsBad g v AlignIn) bound faults.align_in.items
  pub past_in : AreAllBelow (IsBad g v PastIn) bound faults.past_in.items

-- those below a bound, of the kinds that speak of all claims
pub record AreClaimFaultsBelow (g : Geometry) (v : Volume) (bound : ℕ) (faults : FragmentFaults) : Type 0 where
  pub twice : AreAllBelow (IsBad g v Twice) bound faults.twice.items
  pub free : AreAllBelow (IsBad g v Free) bound faults.free.items

-- the same of all kinds
pub record AreFragmentFaultsBelow (g : Geometry) (v : Volume) (bound : ℕ) (faults : FragmentFaults) : Type 0 where
  pub claimed : AreClaimFaultsBelow g v bound faults
  pub pointers : ArePointerFaultsBelow g v bound faults
