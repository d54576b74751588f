use Rattle.dg_uses.proofs.Results.{done_no_read, done_no_write}
use Rattle.dg_words.specs.declared.commands.Command.TheVariants.{Replay}
use Rattle.dg_uses.proofs.answers.replay_lines.Goals as goal

pub returns-clause-kept : goal.returns-clause-kept
returns-clause-kept g c = λ done. (c.run.ensures.source_kept (done_no_read c.run.result done), c.run.ensures.sink_kept (done_no_write c.run.result done))

pub returns-clause-complete : goal.returns-clause-complete
returns-clause-complete g c = λ events input left some source sink. c.run.ensures.complete Replay c.requires source sink events input (left, some)
