use Rattle.std.proofs.Common.{◌≡◌, ◌≤◌, ◌-◌, ◌++◌, ℕ, List, length, drop}
use Rattle.dg_text.specs.Lines.{path_word, AreBytes}
use Rattle.dg_text.proofs.PathWords.{IsFront}
use Rattle.dg_text.proofs.path_words.spelled_bytes.Given as goal

abbrev pub invariant-loop-at : goal.invariant-loop-at
invariant-loop-at l = record {
  within : l.at ≤ length l.word;
  front : l.word ≡ path_word l.bytes.items ++ drop l.at l.word;
  bytes : AreBytes l.bytes.items;
  exact : (path : List ℕ) → AreBytes path → l.word ≡ path_word path → IsFront l.word l.bytes.items l.at path;
}

abbrev pub decreases-loop-at : goal.decreases-loop-at
decreases-loop-at l = length l.word - l.at
