use Rattle.std.proofs.Common.{ℕ}
use Rattle.std.specs.Prelude.{◌||◌}
use Rattle.dg_stop.proofs.AttachLemmas.{FlagsUpTo}
use Rattle.dg_stop.specs.DoubleCommits.{fell_now}
use Rattle.dg_stop.specs.Phases.{flag_in}
use Rattle.dg_stop.proofs.attachments.fallen_of.Given as goal

abbrev pub invariant-loop-member : goal.invariant-loop-member
invariant-loop-member l = FlagsUpTo (λ (q : ℕ). flag_in l.failed q || fell_now l.served l.serves q) l.member l.flags
