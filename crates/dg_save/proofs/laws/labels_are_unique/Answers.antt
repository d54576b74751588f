use Rattle.dg_save.proofs.LabelLemmas.{labels_once}
use Rattle.dg_save.proofs.laws.labels_are_unique.Goals as goal

pub returns : goal.returns
returns c = labels_once
