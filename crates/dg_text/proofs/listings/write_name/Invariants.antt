use Rattle.std.proofs.Common.{◌≡◌, ◌≤◌, ◌+◌, ◌-◌, ◌*◌, ◌++◌, length, take, drop}
use Rattle.std.specs.Prelude.{codes}
use Rattle.dg_text.specs.LineCalls.{pieces}
use Rattle.dg_text.specs.Lines.{path_word}
use Rattle.dg_text.proofs.Pieces.{Goes}
use Rattle.dg_text.proofs.listings.write_name.Given as goal

abbrev pub invariant-loop-at : goal.invariant-loop-at
invariant-loop-at g l = record {
  within : l.at ≤ length l.name;
  room : l.end + 4 * l.most + 1 ≤ length l.line;
  goes : Goes g.K.Sink path_word l.most (take l.fn.front l.initial.line ++ (path_word l.name ++ codes "\n")) (pieces l.most (length l.name)) l.fn.sink
      (take l.end l.line) (drop l.at l.name) l.sink;
  kept : g.K.Sink.faults l.sink ≡ g.K.Sink.faults l.fn.sink;
}

abbrev pub decreases-loop-at : goal.decreases-loop-at
decreases-loop-at g l = length l.name - l.at
