use Rattle.dg_parity.specs.declared.parity_racks.ParityRack.TheVariants.{OfGroups}
use Rattle.dg_parity_tests.proofs.laws.opened_again.Goals as goal

pub returns : goal.returns
returns g c old new before s group held was noted alive range left opens leaves on tell served some =
    on (OfGroups old) s held (c.noted_is_back.ensures old new before s group held was noted alive range left opens leaves tell served) some
