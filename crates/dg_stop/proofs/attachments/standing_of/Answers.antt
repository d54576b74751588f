use Rattle.std.proofs.Common.{ℕ, arith, refl}
use Rattle.std.specs.Prelude.{◌&&◌, not, is_some}
use Rattle.dg_stop.proofs.AttachLemmas.{standing_high, up_to_all, up_to_next, up_to_none}
use Rattle.dg_stop.specs.DoubleCommits.{fell_now}
use Rattle.dg_stop.specs.Tables.{head_at}
use Rattle.dg_stop.proofs.attachments.standing_of.Goals as goal

pub loop-member-init : goal.loop-member-init
loop-member-init c = up_to_none (λ (q : ℕ). is_some (head_at c.args.heads.now q) && not (fell_now c.args.served.now c.args.serves.now q)) _ refl

pub loop-member-preserved : goal.loop-member-preserved
loop-member-preserved c =
    up_to_next (λ (q : ℕ). is_some (head_at c.args.heads.now q) && not (fell_now c.args.served.now c.args.serves.now q)) c.loop-member.member c.loop-member.flags c.stands_at.result
    (omega (arith, c.loop-member-test.true)) c.stands_at.ensures c.loop-member.invariant

pub returns : goal.returns
returns c =
    up_to_all (λ (q : ℕ). is_some (head_at c.args.heads.now q) && not (fell_now c.args.served.now c.args.serves.now q)) c.loop-member.member c.loop-member.flags
    (omega (arith, c.loop-member-test.false, c.loop-member.auto.member-end)) (standing_high c.args.heads.now c.args.served.now c.args.serves.now (omega (arith, c.told-heads))) c.loop-member.invariant
