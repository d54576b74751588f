use Rattle.std.proofs.Common.{◌≡◌, ℕ, arith, subst}
use Rattle.dg_stop.proofs.LeadLemmas.{best_start, best_turn}
use Rattle.dg_stop.specs.Leads.{IsBelow, IsBestOf}
use Rattle.dg_stop.proofs.leads.lead_of.Goals as goal

pub loop-member-init : goal.loop-member-init
loop-member-init c = best_start c.args.found.now

pub loop-member-preserved : goal.loop-member-preserved
loop-member-preserved c =
    best_turn c.args.found.now c.loop-member.member c.headers_at-headers.result c.headers_at-headers.ensures c.loop-member.best c.later-first.result c.later-best.result c.later-first.ensures c.later-best.ensures c.loop-member.invariant

pub returns : goal.returns
returns c =
    let at : c.loop-member.member ≡ 32 = omega (arith, c.loop-member-test.false, c.loop-member.auto.member-end) in
    subst (λ (n : ℕ). IsBestOf (IsBelow c.args.found.now n) c.loop-member.best) at c.loop-member.invariant
