use Rattle.dg_stop.proofs.CallLemmas.{blank_held, blank_keeps}
use Rattle.dg_stop.proofs.doubles.DoubleRack.new.Goals as goal

pub invariant_of-result : goal.invariant_of-result
invariant_of-result g c = blank_held g.R.Rack c.args.members c.args.most c.args.room c.in_ok-memory.memory c.args.rack c.in_ok-memory.ensures c.requires.few

pub returns-clause-keeps : goal.returns-clause-keeps
returns-clause-keeps g c = λ steady. blank_keeps g.R.Rack c.args.members c.args.most c.args.room c.in_ok-memory.memory c.args.rack c.in_ok-memory.ensures steady
