-- Where a group block is read.
use Rattle.std.proofs.Common.{◌≡◌, ℕ, ◌+◌, ◌<◌, ◌≤◌, List, refl, subst, arith}
use Rattle.std.specs.Prelude.{Contains}
use Rattle.ufs_model.specs.Blocks.{Reading, Volume, area_of}
use Rattle.ufs_model.specs.Geometries.{cgstart}
use Rattle.ufs_model.specs.GroupMaps.{group_bytes}
use Rattle.ufs_model.specs.Malformations.{IsBad}
use Rattle.ufs_model.specs.Metadata.{IsMetadataBy}
use Rattle.ufs_model.specs.declared.malformations.BadKind.TheVariants.{GroupMagic, GroupMap}
use Rattle.ufs_check.proofs.NoteLaws.{all_all}
use Rattle.ufs_check.specs.Groups.{AreGroupFaults, AreGroupFaultsBelow}
use Rattle.ufs_check.specs.declared.verdicts.GroupFaults.{GroupFaults}
use Rattle.ufs_model.specs.Metadata.IsMetadataBy.{of_group}
use Rattle.ufs_model.specs.declared.geometries.Geometry.{Geometry}

pub group_area : (g : Geometry) (c l a : ℕ) → g.fsize ≡ l → a ≡ cgstart g c + g.cblkno → area_of l a g.frag ≡ group_bytes g c
unfolding group_bytes
group_area g c l a size start = rw (← size, start) refl

-- the blocks of the area are metadata
pub group_need : (g : Geometry) (c l a : ℕ) → c < g.ncg → g.fsize ≡ l → a ≡ cgstart g c + g.cblkno → (v : Volume) (block : ℕ) → Contains ((area_of l a g.frag v).needs) block → IsMetadataBy g v block
group_need g c l a low size start v block needs = of_group c low (subst (λ (d : Reading (List ℕ)). Contains ((d v).needs) block) (group_area g c l a size start) needs)

-- no fault is past the last group
pub groups_all : (g : Geometry) (v : Volume) (bound : ℕ) (faults : GroupFaults) → g.ncg ≤ bound → AreGroupFaultsBelow g v bound faults → AreGroupFaults g v faults
groups_all g v bound faults end so_far = record {
  magic = all_all (IsBad g v GroupMagic) bound _ (λ c h. let lt = h.0 in omega arith) so_far.magic;
  map = all_all (IsBad g v GroupMap) bound _ (λ c h. let lt = h.0 in omega arith) so_far.map;
}
