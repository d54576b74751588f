use Rattle.std.proofs.Common.{ℕ}
use Rattle.dg_stop.proofs.AttachLemmas.{FlagsUpTo}
use Rattle.dg_stop.specs.DoubleOpenings.{is_prepared}
use Rattle.dg_stop.specs.Tables.{head_at}
use Rattle.dg_stop.proofs.attachments.prepared_of.Given as goal

abbrev pub invariant-loop-member : goal.invariant-loop-member
invariant-loop-member l = FlagsUpTo (λ (q : ℕ). is_prepared (head_at l.heads q)) l.member l.flags
