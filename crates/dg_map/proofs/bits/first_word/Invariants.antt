use Rattle.std.proofs.Common.{◌≡◌, ◌<◌, ℕ}
use Rattle.dg_map.specs.Bits.{word_at}
use Rattle.dg_map.proofs.bits.first_word.Given as goal

abbrev pub invariant-loop-place : goal.invariant-loop-place
invariant-loop-place l = (w : ℕ) → w < l.place → word_at l.words w ≡ 0
