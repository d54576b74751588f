use Rattle.dg_text.proofs.words.+begins_with_numbers.Given as goal

abbrev pub decreases-begins_with_numbers : goal.decreases-begins_with_numbers
decreases-begins_with_numbers l = l.count
