-- How many groups a rack has.
use Rattle.std.specs.Prelude.{◌≡◌, ◌⊎◌, None}
use Rattle.dg_parity.specs.ParityRacks.{groups_in, width_in}
use Rattle.dg_parity.specs.declared.parity_racks.ParityRack.{ParityRack}

-- it is plain, or has sixteen groups
pub record IsOfSixteen {R : Type 0} (it : ParityRack R) : Type 0 where
  pub groups : (width_in it ≡ None) ⊎ (groups_in it ≡ 16)
