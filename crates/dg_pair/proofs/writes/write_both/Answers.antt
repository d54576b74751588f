use Rattle.std.proofs.Common.{◌∙◌, length}
use Rattle.dg_pair.proofs.AfterLemmas.{case_after}
use Rattle.dg_pair.proofs.MadeLemmas.{both_half, both_then}
use Rattle.dg_pair.proofs.FallLemmas.{falls_after, kept_after, untaken_after, same_then, torn_after}
use Rattle.dg_pair.proofs.writes.write_both.Goals as goal

pub returns-in-Fell-clause-untaken : goal.returns-in-Fell-clause-untaken
returns-in-Fell-clause-untaken g c = λ q other. untaken_after c.args.a c.args.b c.in-Fell.a q c.args.slot _ (λ off not_a. same_then _ _ _ (c.in-Fell.ensures.leaves.others q not_a) (c.write_half.ensures.untaken q off)) other

pub returns-in-Fell-clause-falls : goal.returns-in-Fell-clause-falls
returns-in-Fell-clause-falls g c = falls_after c.args.a c.args.b c.in-Fell.a c.write_half.result.0 _ _ _ c.in-Fell.ensures.leaves.cause.failed c.in-Fell.ensures.leaves.rise.faults c.write_half.ensures.leaves.rise.faults c.write_half.ensures.falls

pub returns-in-Fell-clause-uncalled : goal.returns-in-Fell-clause-uncalled
returns-in-Fell-clause-uncalled g c = λ q other. untaken_after c.args.a c.args.b c.in-Fell.a q c.args.slot _ (λ off not_a. c.write_half.ensures.uncalled q off ∙ c.in-Fell.ensures.leaves.other_faults q not_a) other

pub returns-in-Fell-clause-torn : goal.returns-in-Fell-clause-torn
returns-in-Fell-clause-torn g c = torn_after c.args.a c.args.b c.args.slot (length c.args.buf.now) _ _ _ c.requires.well.sizes c.in-Fell.ensures.torn c.write_half.ensures.torn

pub returns-in-Fell-clause-kept : goal.returns-in-Fell-clause-kept
returns-in-Fell-clause-kept g c = kept_after c.args.a c.args.b c.in-Fell.a c.write_half.result.0 c.args.slot _ _ _ c.requires.well.sizes c.requires.well.numbers c.in-Fell.ensures.leaves.others c.write_half.ensures.kept

pub returns-in-Fell-clause-leaves : goal.returns-in-Fell-clause-leaves
returns-in-Fell-clause-leaves g c = case_after c.args.a c.args.b c.in-Fell.a c.requires.well c.in-Fell.ensures.is.number_is g.R.Rack _ c.write_half.result.0 _ _ _ c.in-Fell.ensures.leaves c.write_half.ensures.leaves c.write_half.ensures.falls

pub returns-in-Fell-clause-made : goal.returns-in-Fell-clause-made
returns-in-Fell-clause-made g c = both_half g.R.Rack g.met.R.Rack.made_both _ _ _ c.args.a c.args.b c.in-Fell.a c.in-Fell.ensures.made c.write_half.ensures.made

pub returns-in-Done-write-clause-made : goal.returns-in-Done-write-clause-made
returns-in-Done-write-clause-made g c = both_then g.R.Rack g.met.R.Rack.made_both _ _ _ c.args.a c.args.b c.write.ensures.made c.write-in-Done.ensures.made

pub returns-in-Fell-write-clause-made : goal.returns-in-Fell-write-clause-made
returns-in-Fell-write-clause-made g c = both_then g.R.Rack g.met.R.Rack.made_both _ _ _ c.args.a c.args.b c.write.ensures.made c.write-in-Done.ensures.made
