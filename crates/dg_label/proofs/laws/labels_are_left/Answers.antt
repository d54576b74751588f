use Rattle.dg_label.proofs.ReducedLaws.{labels_are_left, labels_stand_left}
use Rattle.dg_label.proofs.laws.labels_are_left.Goals as goal

pub returns-clause-labeled : goal.returns-clause-labeled
returns-clause-labeled g c = labels_are_left g.R.Rack _ _

pub returns-clause-stands : goal.returns-clause-stands
returns-clause-stands g c = labels_stand_left g.R.Rack _ _
