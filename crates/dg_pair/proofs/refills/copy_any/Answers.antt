use Rattle.dg_pair.specs.declared.boundaries.Boundary.TheVariants.{Fill}
use Rattle.dg_pair.specs.Boundaries.{IsWell}
use Rattle.dg_pair.proofs.MadeLemmas.{fill_then}
use Rattle.dg_pair.proofs.refills.copy_any.Goals as goal

pub returns-in-Done-write-clause-made : goal.returns-in-Done-write-clause-made
returns-in-Done-write-clause-made g c = rw c.in-Fill.is (
    let well : IsWell (Fill c.in-Fill.a c.in-Fill.b) = rw c.in-Fill.is at c.requires.well in
    fill_then g.R.Rack g.met.R.Rack.made_both _ _ _ c.in-Fill.a c.in-Fill.b well.0.numbers c.read.ensures.made c.write.ensures.made)

pub returns-in-Fell-write-clause-made : goal.returns-in-Fell-write-clause-made
returns-in-Fell-write-clause-made g c = rw c.in-Fill.is (
    let well : IsWell (Fill c.in-Fill.a c.in-Fill.b) = rw c.in-Fill.is at c.requires.well in
    fill_then g.R.Rack g.met.R.Rack.made_both _ _ _ c.in-Fill.a c.in-Fill.b well.0.numbers c.read.ensures.made c.write.ensures.made)
