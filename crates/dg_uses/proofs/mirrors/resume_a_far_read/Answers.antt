use Rattle.dg_run.specs.Calls.{facts_of}
use Rattle.dg_uses.proofs.FarReads.{far_read}
use Rattle.dg_words.specs.declared.commands.Command.TheVariants.{Resume}
use Rattle.dg_uses.proofs.mirrors.resume_a_far_read.Goals as goal

pub returns : goal.returns
returns g c = λ b past low held told left some is.
    let s = c.run in
    let met = facts_of g.S.Source g.K.Sink g.R.Rack c.args.source.now s.new.source c.args.sink.now s.new.sink c.args.rack.now s.new.rack in
    far_read c.line_is_unique.ensures (g.R.Rack.tells s.new.rack) met b past low told left some (g.R.Rack.steady c.args.rack.now) held s.result (s.ensures.ends Resume c.requires) is
