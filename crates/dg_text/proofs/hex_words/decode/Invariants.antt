use Rattle.std.proofs.Common.{◌≡◌, ◌≤◌, ◌<◌, ◌*◌, ◌++◌, ℕ, List, take, drop}
use Rattle.hex.specs.Hex.{encode_lower}
use Rattle.dg_text.specs.Lines.{AreBytes}
use Rattle.dg_text.proofs.hex_words.decode.Given as goal

abbrev pub invariant-loop-i : goal.invariant-loop-i
invariant-loop-i l = record {
  front : l.values < 16 → l.word ≡ encode_lower (take l.i l.bytes) ++ drop (2 * l.i) l.word;
  bytes : l.values < 16 → AreBytes (take l.i l.bytes);
  none : 16 ≤ l.values → (spelled : List ℕ) → AreBytes spelled → l.word ≡ encode_lower spelled → ⊥;
}
