use Rattle.dg_stop.specs.Leads.{IsBelow, IsBestOf}
use Rattle.dg_stop.proofs.leads.lead_of.Given as goal

abbrev pub invariant-loop-member : goal.invariant-loop-member
invariant-loop-member l = IsBestOf (IsBelow l.found l.member) l.best
