use Rattle.std.proofs.Common.{arith, length}
use Rattle.std.specs.Cmp.{booleans_Decides}
use Rattle.dg_io.specs.MakesLaws.{makes_both}
use Rattle.dg_stop.proofs.MadeLemmas.{made_one}
use Rattle.dg_stop.proofs.PartLemmas.{puts_direct, puts_whole}
use Rattle.dg_stop.proofs.PreparingTold.{OnOk-map}
use Rattle.dg_stop.specs.Serving.{IsOn}
use Rattle.dg_stop.proofs.PageCounts.{one_call, two_calls}
use Rattle.dg_stop.proofs.pages.write_part.Goals as goal
use Rattle.dg_stop.proofs.pages.write_part.Goals.{then-stands-second-via-then-stands-second, then-stands-second-via-else-stands-second+then-piece-eq-PAGE}

pub returns-in_err-read-clause-made : goal.returns-in_err-read-clause-made
returns-in_err-read-clause-made g c = made_one g.R.Rack c.args.number c.args.rack.now c.read.new.self c.in_err-read.ensures.made

pub returns-clause-made : goal.returns-clause-made
returns-clause-made g c = makes_both g.R.Rack (IsOn c.args.number) c.args.rack.now c.read.new.self c.put_part-2.new.rack
    (made_one g.R.Rack c.args.number c.args.rack.now c.read.new.self c.in_ok-read.ensures.made) c.put_part-2.ensures.made

pub returns-then-stands-second-clause-done : goal.returns-then-stands-second-clause-done
returns-then-stands-second-clause-done g c = OnOk-map c.put_part.result _ _ (λ put. elim c.then-stands-second.branch [
  | then-stands-second-via-then-stands-second w ↦ puts_direct c.args.table c.args.page c.args.k c.args.stands c.args.second c.args.piece.now
      (g.R.Rack.bytes c.args.rack.now c.args.number) (g.R.Rack.bytes c.put_part.new.rack c.args.number)
      ((booleans_Decides c.args.stands c.args.second).0 w.if-stands-second.true) c.requires.fits c.requires.long put
  | then-stands-second-via-else-stands-second+then-piece-eq-PAGE w ↦ puts_whole c.args.table c.args.page c.args.k c.args.stands c.args.second c.args.piece.now
      (g.R.Rack.bytes c.args.rack.now c.args.number) (g.R.Rack.bytes c.put_part.new.rack c.args.number)
      (omega (arith, w.if-piece-eq-PAGE.true)) c.requires.fits c.requires.long put
]) c.put_part.ensures.done

pub returns-then-stands-second-clause-calls : goal.returns-then-stands-second-clause-calls
returns-then-stands-second-clause-calls g c = omega (arith, c.put_part.ensures.calls, one_call c.args.stands c.args.second (length c.args.piece.now))

pub returns-in_err-read-clause-calls : goal.returns-in_err-read-clause-calls
returns-in_err-read-clause-calls g c = omega (arith, c.read.ensures.leaves.counted.most, one_call c.args.stands c.args.second (length c.args.piece.now))

pub returns-clause-calls : goal.returns-clause-calls
returns-clause-calls g c = omega (arith, c.read.ensures.leaves.counted.most, c.put_part-2.ensures.calls, two_calls c.args.stands c.args.second (length c.args.piece.now) c.if-stands-second.false c.if-piece-eq-PAGE.false)
