use Rattle.std.proofs.Common.{◌≡◌, ◌++◌, take}
use Rattle.std.specs.Prelude.{codes}
use Rattle.std.specs.List.{flat_map}
use Rattle.dg_text.specs.Lines.{spelled_byte}
use Rattle.dg_text.proofs.written.push_path.Given as goal

abbrev pub invariant-loop-byte : goal.invariant-loop-byte
invariant-loop-byte l = l.line.items ≡ l.fn.line.items ++ (codes " " ++ flat_map spelled_byte (take l.byte-index l.path))
