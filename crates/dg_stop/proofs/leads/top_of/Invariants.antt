use Rattle.dg_stop.specs.Leads.{IsBelow, IsTop}
use Rattle.dg_stop.proofs.leads.top_of.Given as goal

abbrev pub invariant-loop-member : goal.invariant-loop-member
invariant-loop-member l = IsTop (IsBelow l.found l.member) l.top
