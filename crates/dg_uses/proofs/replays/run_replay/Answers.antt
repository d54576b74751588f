use Rattle.dg_io.specs.Racks.{steady_in, told_in}
use Rattle.dg_run.specs.declared.top.Status.TheVariants.{BadLine, Done, ReadFault, WriteFault}
use Rattle.dg_uses.proofs.Ended.{ended, met}
use Rattle.dg_words.specs.declared.commands.Command.TheVariants.{Replay}
use Rattle.dg_uses.proofs.replays.run_replay.Goals as goal

pub returns-clause-done : goal.returns-clause-done
returns-clause-done c = λ is. ended (steady_in c.args.rack.now) (told_in c.run.new.rack) (met c.args.source.now c.run.new.source c.args.sink.now c.run.new.sink c.args.rack.now c.run.new.rack) c.run.result Done (c.run.ensures.ends Replay c.requires) is

pub returns-clause-bad_line : goal.returns-clause-bad_line
returns-clause-bad_line c = λ is. ended (steady_in c.args.rack.now) (told_in c.run.new.rack) (met c.args.source.now c.run.new.source c.args.sink.now c.run.new.sink c.args.rack.now c.run.new.rack) c.run.result BadLine (c.run.ensures.ends Replay c.requires) is

pub returns-clause-part : goal.returns-clause-part
returns-clause-part c = λ is. ended (steady_in c.args.rack.now) (told_in c.run.new.rack) (met c.args.source.now c.run.new.source c.args.sink.now c.run.new.sink c.args.rack.now c.run.new.rack) c.run.result WriteFault (c.run.ensures.ends Replay c.requires) is

pub returns-clause-broke : goal.returns-clause-broke
returns-clause-broke c = λ is. ended (steady_in c.args.rack.now) (told_in c.run.new.rack) (met c.args.source.now c.run.new.source c.args.sink.now c.run.new.sink c.args.rack.now c.run.new.rack) c.run.result ReadFault (c.run.ensures.ends Replay c.requires) is

pub returns-clause-lines : goal.returns-clause-lines
returns-clause-lines c = c.run.ensures.lines Replay c.requires
