-- The groups of a rack.
use Rattle.std.specs.Prelude.{◌≡◌, ℕ, Some}
use Rattle.dg_parity.specs.ParityRacks.{groups_in, width_in}
use Rattle.dg_parity.specs.declared.parity_racks.ParityRack.{ParityRack}

-- it has so many groups of n disks
pub record HasShape {R : Type 0} (count n : ℕ) (it : ParityRack R) : Type 0 where
  pub width : width_in it ≡ Some n
  pub groups : groups_in it ≡ count
