use Rattle.std.proofs.Common.{◌∙◌, ap, refl}
use Rattle.dg_io.specs.Sources.{sure_calls}
use Rattle.dg_uses.proofs.BlankRows.{none_rose}
use Rattle.dg_words.specs.declared.commands.Command.TheVariants.{Status as StatusCommand}
use Rattle.dg_uses.proofs.words.ask_for_a_status.Goals as goal

pub returns-clause-calls : goal.returns-clause-calls
returns-clause-calls c = ap sure_calls (c.run-status.ensures.quiet StatusCommand c.in_ok-words.ensures refl) ∙ c.new-source.ensures.calls

pub returns-clause-read : goal.returns-clause-read
returns-clause-read c read = none_rose (c.run-status.ensures.read read)

pub returns-clause-write : goal.returns-clause-write
returns-clause-write c write = none_rose (c.run-status.ensures.write write)

pub returns-clause-usage : goal.returns-clause-usage
returns-clause-usage c usage = c.run-status.ensures.usage usage StatusCommand c.in_ok-words.ensures
