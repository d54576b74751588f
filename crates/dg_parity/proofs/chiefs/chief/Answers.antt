use Rattle.std.proofs.Common.{refl}
use Rattle.dg_parity.specs.Openings.{fronts_in}
use Rattle.dg_parity.proofs.chiefs.chief.Goals as goal

pub loop-j-preserved : goal.loop-j-preserved
loop-j-preserved c = record { best = c.better-best.ensures (fronts_in c.args.fronts.now) c.loop-j.j refl c.loop-j.invariant.best }
