use Rattle.dg_claims.specs.Kept.{table_of}
use Rattle.ufs_audit.specs.Holders.{AreMarks, HasMarkedHolder}
use Rattle.ufs_audit.proofs.holders.held_at.Given as goal

abbrev pub invariant-loop-f : goal.invariant-loop-f
invariant-loop-f l = AreMarks (HasMarkedHolder (table_of l.claims) l.directories l.above l.level) l.f l.marks.items
