use Rattle.std.proofs.Common.{◌≡◌, ◌∙◌, sym, ap, true}
use Rattle.std.specs.Prelude.{Ok}
use Rattle.std.proofs.lemmas.Bool.{false≢true}
use Rattle.dg_model.specs.States.{has_lost}
use Rattle.dg_store.specs.Stores.{members_of, shape_of, table_of}
use Rattle.dg_volume.proofs.GoneLaws.{gone_lost}
use Rattle.dg_volume.proofs.plans.known_parents.Goals as goal

pub unreachable-requires : goal.unreachable-requires
unreachable-requires g c =
    let new = c.parents.new.view in
    let lost = c.in_ok-found.ensures.consults.cause (ap Ok c.in-None.is) in
    let some : has_lost (shape_of new) (members_of new) ≡ true = gone_lost (table_of new) (members_of new) lost.block c.in_ok-found.ensures.keeps.sound.table lost.lost in
    absurd (false≢true (sym c.in_default.ensures ∙ some))
