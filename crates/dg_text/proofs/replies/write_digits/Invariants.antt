use Rattle.std.proofs.Common.{◌≡◌, ◌≤◌, ◌+◌, ◌-◌, ◌++◌, length, take, drop}
use Rattle.std.specs.Prelude.{codes}
use Rattle.hex.specs.Hex.{encode_lower}
use Rattle.dg_text.specs.LineCalls.{bytes_calls}
use Rattle.dg_text.proofs.Pieces.{Goes}
use Rattle.dg_text.proofs.replies.write_digits.Given as goal

abbrev pub invariant-loop-at : goal.invariant-loop-at
invariant-loop-at g l = record {
  within : l.at ≤ length l.bytes;
  room : l.end + 8193 ≤ length l.line;
  goes : Goes g.K.Sink encode_lower 4096 (take l.fn.front l.initial.line ++ (encode_lower l.bytes ++ codes "\n")) (bytes_calls l.bytes) l.fn.sink
      (take l.end l.line) (drop l.at l.bytes) l.sink;
  kept : g.K.Sink.faults l.sink ≡ g.K.Sink.faults l.fn.sink;
}

abbrev pub decreases-loop-at : goal.decreases-loop-at
decreases-loop-at g l = length l.bytes - l.at
