use Rattle.dg_words.proofs.OneCommand.{one_command}
use Rattle.dg_words.proofs.words.words_are_one_command.Goals as goal

pub returns : goal.returns
returns c = one_command c.paths_are_unique.ensures
