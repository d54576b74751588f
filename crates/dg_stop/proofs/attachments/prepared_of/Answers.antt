use Rattle.std.proofs.Common.{ℕ, arith, refl, ap, ◌∙◌}
use Rattle.dg_stop.proofs.AttachLemmas.{prepared_high, up_to_all, up_to_next, up_to_none}
use Rattle.dg_stop.specs.DoubleOpenings.{is_prepared}
use Rattle.dg_stop.specs.Tables.{head_at}
use Rattle.dg_stop.proofs.attachments.prepared_of.Goals as goal

pub loop-member-init : goal.loop-member-init
loop-member-init c = up_to_none (λ (q : ℕ). is_prepared (head_at c.args.heads.now q)) _ refl

pub loop-member-preserved : goal.loop-member-preserved
loop-member-preserved c =
    up_to_next (λ (q : ℕ). is_prepared (head_at c.args.heads.now q)) c.loop-member.member c.loop-member.flags c.is_unfinished.result (omega (arith, c.loop-member-test.true))
    (c.is_unfinished.ensures ∙ ap is_prepared c.head_of.ensures) c.loop-member.invariant

pub returns : goal.returns
returns c =
    up_to_all (λ (q : ℕ). is_prepared (head_at c.args.heads.now q)) c.loop-member.member c.loop-member.flags (omega (arith, c.loop-member-test.false, c.loop-member.auto.member-end))
    (prepared_high c.args.heads.now (omega (arith, c.told-heads))) c.loop-member.invariant
