use Rattle.std.proofs.Common.{ℕ, List, take, drop, sym}
use Rattle.std.specs.Prelude.{Result, Ok, Err, OnErr}
use Rattle.std.proofs.lemmas.List.{take-append-drop}
use Rattle.dg_io.specs.Sinks.{taken_in}
use Rattle.dg_io.specs.SinkPieces.{TakenPart}
use Rattle.dg_io.specs.Told.{TookPart}
use Rattle.dg_io.specs.declared.sinks.MemSink.{MemSink}
use Rattle.dg_io.proofs.sinks.MemSinkPieces.piece.Goals as goal

-- a part that was taken is a front
front : {T E : Type 0} (r : Result T E) (a b : MemSink) (x : List ℕ) → OnErr r (TookPart x (taken_in a) (taken_in b)) → OnErr r (TakenPart a x b)
front (Ok done) a b x h = h
front (Err failed) a b x h = record { front = take h.0 x; rest = drop h.0 x; whole = sym (take-append-drop h.0 x); took = h.1 }

pub returns-clause-err : goal.returns-clause-err
returns-clause-err c = front c.write_all.result c.args.self.now c.write_all.new.sink c.args.bytes.now c.write_all.ensures.err
