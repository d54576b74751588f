use Rattle.std.proofs.Common.{◌≡◌, ◌≤◌, ◌+◌, ◌*◌, ◌++◌, take}
use Rattle.dg_text.specs.Lines.{path_word}
use Rattle.dg_text.proofs.listings.put_name.Given as goal

abbrev pub invariant-loop-byte : goal.invariant-loop-byte
invariant-loop-byte l = record {
  within : l.end ≤ l.at + 4 * l.byte-index;
  text : take l.end l.line ≡ take l.at l.initial.line ++ path_word (take l.byte-index l.name);
}
