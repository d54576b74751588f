use Rattle.std.proofs.Common.{subst}
use Rattle.dg_run.specs.Calls.{facts_of}
use Rattle.dg_run.specs.Ends.{Ends}
use Rattle.dg_run.specs.declared.top.Status.{Status}
use Rattle.dg_uses.proofs.CutLines.{unread_then}
use Rattle.dg_words.specs.declared.commands.Command.TheVariants.{Replay}
use Rattle.dg_uses.proofs.answers.replay_a_cut_line.Goals as goal

pub returns : goal.returns
returns g c text none left some is =
    let met = facts_of g.S.Source g.K.Sink g.R.Rack c.args.source.now c.run.new.source c.args.sink.now c.run.new.sink c.args.rack.now c.run.new.rack in
    let ends = subst (λ (s : Status). Ends (g.R.Rack.steady c.args.rack.now) (g.R.Rack.tells c.run.new.rack) met Replay s) is (c.run.ensures.ends Replay c.requires) in
    unread_then met.left met.rest text none left some met.before (g.R.Rack.tells c.run.new.rack) met.taken met.given ends
