use Rattle.dg_text.proofs.words.+has_words.Given as goal

abbrev pub decreases-has_words : goal.decreases-has_words
decreases-has_words l = l.count
