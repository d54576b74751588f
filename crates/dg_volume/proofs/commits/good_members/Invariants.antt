use Rattle.dg_store.specs.Stores.{members_of}
use Rattle.dg_volume.proofs.CommitLaws.{AreGoodUpto}
use Rattle.dg_volume.proofs.commits.good_members.Given as goal

abbrev pub invariant-loop-member : goal.invariant-loop-member
invariant-loop-member g l = AreGoodUpto (members_of l.store) l.member l.marks
