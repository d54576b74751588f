use Rattle.dg_kept.proofs.OpenedLaws.{as_saved, holds_saved, stays_settled}
use Rattle.dg_kept.proofs.openings.saved_arrays_are_opened.Goals as goal

pub returns : goal.returns
returns c = λ save images taken beside before state is found read opens quiet. (
  as_saved c.labels_are_unique.ensures c.bodies_are_unique.ensures save images taken beside before state is found read opens quiet,
  holds_saved c.labels_are_unique.ensures c.bodies_are_unique.ensures save images taken beside before state is found read opens quiet,
  stays_settled c.labels_are_unique.ensures c.bodies_are_unique.ensures save images taken beside before state is found read opens quiet,
)
