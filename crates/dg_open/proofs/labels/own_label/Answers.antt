use Rattle.dg_open.proofs.FoundLemmas.{no_label}
use Rattle.dg_open.proofs.labels.own_label.Goals as goal

pub returns-else-is_own_label : goal.returns-else-is_own_label
returns-else-is_own_label c = no_label c.labels_are_unique.ensures _ _ _ _ c.in-Some.ensures _ c.is_own_label.ensures c.if-is_own_label.false
