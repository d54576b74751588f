use Rattle.dg_pair.proofs.MadeLemmas.{fill_then}
use Rattle.dg_pair.proofs.writes.write_fill.Goals as goal

pub returns-in-Done-write-clause-made : goal.returns-in-Done-write-clause-made
returns-in-Done-write-clause-made g c = fill_then g.R.Rack g.met.R.Rack.made_both _ _ _ c.args.a c.args.b c.requires.well.0.numbers c.write.ensures.made c.write-in-Done.ensures.made

pub returns-in-Fell-write-clause-made : goal.returns-in-Fell-write-clause-made
returns-in-Fell-write-clause-made g c = fill_then g.R.Rack g.met.R.Rack.made_both _ _ _ c.args.a c.args.b c.requires.well.0.numbers c.write.ensures.made c.write-in-Done.ensures.made
