use Rattle.std.proofs.Common.{◌∙◌, ap}
use Rattle.dg_text.specs.Refusals.{words}
use Rattle.dg_text.proofs.Cuts.{Lacks-from_not}
use Rattle.dg_text.proofs.LineWords.{words_cut, words_whole}
use Rattle.dg_text.proofs.words.cut_word.Goals as goal

pub returns-in-Some-clause-words : goal.returns-in-Some-clause-words
returns-in-Some-clause-words c =
    ap words c.in-Some.ensures.found ∙ words_cut _ _ (Lacks-from_not 32 _ c.in-Some.ensures.first)

pub returns-in-None-clause-words : goal.returns-in-None-clause-words
returns-in-None-clause-words c = words_whole c.args.text.now (Lacks-from_not 32 c.args.text.now c.in-None.ensures.none)
