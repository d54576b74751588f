use Rattle.std.proofs.Common.{subst}
use Rattle.dg_drill.specs.Drills.{EndsDrill}
use Rattle.dg_run.specs.Calls.{drill_met, facts_of}
use Rattle.dg_run.specs.Ends.{EndsDrilled}
use Rattle.dg_run.specs.declared.top.Status.{Status}
use Rattle.dg_uses.proofs.DrilledLaws.{loses_its_homes}
use Rattle.dg_words.specs.declared.commands.Command.TheVariants.{Drill}
use Rattle.dg_uses.proofs.drilled.drill_and_lose.Goals as goal

pub returns-clause-complete : goal.returns-clause-complete
returns-clause-complete g c = λ seed files asks source sink. c.run.ensures.complete (Drill seed files) asks source sink

pub returns-clause-homes : goal.returns-clause-homes
returns-clause-homes g c = λ seed files asks told none done.
    let s = c.run in
    let met = facts_of g.S.Source g.K.Sink g.R.Rack c.args.source.now s.new.source c.args.sink.now s.new.sink c.args.rack.now s.new.rack in
    let tells = g.R.Rack.tells s.new.rack in
    let ended = subst (λ (e : Status). EndsDrilled (EndsDrill tells (drill_met met) seed files) met.taken met.given e) done (s.ensures.ends (Drill seed files) asks) in
    loses_its_homes c.drill_loses_its_homes.ensures.unavailable c.drills_give_their_files.ensures.settled c.drills_give_their_files.ensures.given
    tells (drill_met met) seed files asks.values.2 ended (λ q. g.met.R.Rack.tells_told s.new.rack q (told q)) none
