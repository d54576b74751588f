use Rattle.dg_pair.proofs.AfterLemmas.{case_after}
use Rattle.dg_pair.proofs.MadeLemmas.{both_half}
use Rattle.dg_pair.proofs.FallLemmas.{keeps_after, falls_after, uncalled_after}
use Rattle.dg_pair.proofs.reads.read_both.Goals as goal

pub returns-in-Fell-clause-kept : goal.returns-in-Fell-clause-kept
returns-in-Fell-clause-kept g c = keeps_after c.args.a c.args.b c.in-Fell.a c.read_half.result.0 _ _ _ c.requires.well.sizes c.in-Fell.ensures.same c.read_half.ensures.kept

pub returns-in-Fell-clause-falls : goal.returns-in-Fell-clause-falls
returns-in-Fell-clause-falls g c = falls_after c.args.a c.args.b c.in-Fell.a c.read_half.result.0 _ _ _ c.in-Fell.ensures.leaves.cause.failed c.in-Fell.ensures.leaves.rise.faults c.read_half.ensures.leaves.rise.faults c.read_half.ensures.falls

pub returns-in-Fell-clause-uncalled : goal.returns-in-Fell-clause-uncalled
returns-in-Fell-clause-uncalled g c = λ q other. uncalled_after c.args.a c.args.b c.in-Fell.a q _ _ _ (c.in-Fell.ensures.leaves.other_faults q) (c.read_half.ensures.uncalled q) other

pub returns-in-Fell-clause-leaves : goal.returns-in-Fell-clause-leaves
returns-in-Fell-clause-leaves g c = case_after c.args.a c.args.b c.in-Fell.a c.requires.well c.in-Fell.ensures.is.number_is g.R.Rack _ c.read_half.result.0 _ _ _ c.in-Fell.ensures.leaves c.read_half.ensures.leaves c.read_half.ensures.falls

pub returns-in-Fell-clause-made : goal.returns-in-Fell-clause-made
returns-in-Fell-clause-made g c = both_half g.R.Rack g.met.R.Rack.made_both _ _ _ c.args.a c.args.b c.in-Fell.a c.in-Fell.ensures.made c.read_half.ensures.made
