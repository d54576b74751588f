use Rattle.std.proofs.Common.{ℕ, arith, refl}
use Rattle.std.specs.Prelude.{◌||◌}
use Rattle.dg_stop.proofs.AttachLemmas.{flag_low, up_to_low, up_to_next, up_to_none}
use Rattle.dg_stop.specs.DoubleCommits.{fell_now}
use Rattle.dg_stop.specs.Phases.{flag_in}
use Rattle.dg_stop.proofs.attachments.fallen_of.Goals as goal

pub loop-member-init : goal.loop-member-init
loop-member-init c = up_to_none (λ (q : ℕ). flag_in c.args.failed.now q || fell_now c.args.served.now c.args.serves.now q) _ refl

pub loop-member-preserved : goal.loop-member-preserved
loop-member-preserved c =
    up_to_next (λ (q : ℕ). flag_in c.args.failed.now q || fell_now c.args.served.now c.args.serves.now q) c.loop-member.member c.loop-member.flags c.is_fallen_at.result
    (omega (arith, c.loop-member-test.true)) c.is_fallen_at.ensures c.loop-member.invariant

pub returns-clause-fell : goal.returns-clause-fell
returns-clause-fell c =
    up_to_low (λ (q : ℕ). flag_in c.args.failed.now q || fell_now c.args.served.now c.args.serves.now q) c.loop-member.member c.loop-member.flags
    (omega (arith, c.loop-member-test.false, c.loop-member.auto.member-end)) c.loop-member.invariant

pub returns-clause-low : goal.returns-clause-low
returns-clause-low c = flag_low c.loop-member.flags c.loop-member.invariant.count
