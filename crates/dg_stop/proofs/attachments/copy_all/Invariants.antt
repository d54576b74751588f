use Rattle.dg_stop.proofs.AttachLemmas.{CopiedBelow}
use Rattle.dg_stop.proofs.attachments.copy_all.Given as goal

abbrev pub invariant-loop-member : goal.invariant-loop-member
invariant-loop-member l = CopiedBelow l.member l.all l.copies.items
