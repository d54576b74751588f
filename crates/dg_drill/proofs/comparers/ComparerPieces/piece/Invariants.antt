use Rattle.std.proofs.Common.{◌≡◌, drop}
use Rattle.dg_drill.specs.Comparisons.{next_bytes}
use Rattle.dg_drill.proofs.comparers.ComparerPieces.piece.Given as goal

abbrev pub invariant-loop-byte : goal.invariant-loop-byte
invariant-loop-byte l = next_bytes l.self (drop l.byte-index l.bytes) ≡ next_bytes l.fn.self l.bytes
