use Rattle.dg_stop.specs.FoundHeaders.{AreFound}
use Rattle.dg_stop.proofs.found_headers.find_all.Given as goal

abbrev pub invariant-loop-member : goal.invariant-loop-member
invariant-loop-member g l = AreFound g.R.Rack l.member l.found l.known l.failed l.initial.rack l.rack
