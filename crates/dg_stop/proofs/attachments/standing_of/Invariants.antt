use Rattle.std.proofs.Common.{ℕ}
use Rattle.std.specs.Prelude.{◌&&◌, not, is_some}
use Rattle.dg_stop.proofs.AttachLemmas.{FlagsUpTo}
use Rattle.dg_stop.specs.DoubleCommits.{fell_now}
use Rattle.dg_stop.specs.Tables.{head_at}
use Rattle.dg_stop.proofs.attachments.standing_of.Given as goal

abbrev pub invariant-loop-member : goal.invariant-loop-member
invariant-loop-member l = FlagsUpTo (λ (q : ℕ). is_some (head_at l.heads q) && not (fell_now l.served l.serves q)) l.member l.flags
