use Rattle.std.proofs.Common.{refl}
use Rattle.dg_save.proofs.FormLemmas.{parts_of_form}
use Rattle.dg_save.proofs.BodyLemmas.{states_once}
use Rattle.dg_save.proofs.laws.bodies_are_unique.Goals as goal

pub returns : goal.returns
returns c format a b fa fb same e =
    states_once format b.table.shape a b fa.formats (parts_of_form format b.table.shape a same fa) (parts_of_form format b.table.shape b refl fb) e
