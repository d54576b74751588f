-- The places of a group are inside the volume.
use Rattle.std.proofs.Common.{ℕ, ◌+◌, ◌-◌, ◌*◌, ◌<◌, ◌≤◌, arith}
use Rattle.ufs_model.specs.Geometries.{IsGeometry, cgstart, end_of}
use Rattle.ufs_model.specs.declared.geometries.Geometry.{Geometry}

times_below : (p c n s : ℕ) → c < n → (n - 1) * p < s → p * c < s
times_below p c n s low top = let h : p * c ≤ (n - 1) * p = grind arith in omega arith

pub base_inside : (g : Geometry) (c : ℕ) → IsGeometry g → c < g.ncg → g.fpg * c < g.size
base_inside g c is low = times_below g.fpg c g.ncg g.size low (is.groups.2)

pub own_blocks_inside : (g : Geometry) (c : ℕ) → IsGeometry g → c < g.ncg → cgstart g c + g.dblkno ≤ g.size
unfolding end_of
own_blocks_inside g c is low = let h = is.ends c low in omega arith
