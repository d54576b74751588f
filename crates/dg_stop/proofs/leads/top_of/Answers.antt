use Rattle.std.proofs.Common.{◌≡◌, ℕ, arith, subst}
use Rattle.dg_stop.proofs.LeadLemmas.{top_start, top_turn}
use Rattle.dg_stop.specs.Leads.{IsBelow, IsTop}
use Rattle.dg_stop.proofs.leads.top_of.Goals as goal

pub loop-member-init : goal.loop-member-init
loop-member-init c = top_start c.args.found.now

pub loop-member-preserved : goal.loop-member-preserved
loop-member-preserved c =
    top_turn c.args.found.now c.loop-member.member c.headers_at-headers.result c.headers_at-headers.ensures c.loop-member.top c.raised-first.result c.raised-top.result c.raised-first.ensures c.raised-top.ensures c.loop-member.invariant

pub returns : goal.returns
returns c =
    let at : c.loop-member.member ≡ 32 = omega (arith, c.loop-member-test.false, c.loop-member.auto.member-end) in
    subst (λ (n : ℕ). IsTop (IsBelow c.args.found.now n) c.loop-member.top) at c.loop-member.invariant
