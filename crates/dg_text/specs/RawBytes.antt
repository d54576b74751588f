-- What a receiver wrote that puts bytes out as they are.
use Rattle.std.specs.Prelude.{◌≡◌, ℕ, List, length}
use Rattle.dg_io.specs.SinkCalls.{LeavesSink}
use Rattle.dg_io.specs.SinkLines.{LeavesLines}
use Rattle.dg_io.specs.Told.{Told, Took, TookPart}
use Rattle.dg_io.specs.declared.outside.Sink.{Ghosts}
use Rattle.dg_text.specs.declared.raw.Raw.{Raw}

-- the sink that it was lent, as it is now
abbrev pub sink_of : {K : Type 0} → Raw K → K
sink_of receiver = receiver.sink.now

-- which sink that is
abbrev pub loan_of : {K : Type 0} → Raw K → ℕ
loan_of receiver = receiver.sink.ghost_name

-- it was handed bytes, and wrote them. No call wrote none of them
pub record TookRaw {K : Type 0} (sink : Ghosts K) (old : Raw K) (bytes : List ℕ) (new : Raw K) : Type 0 where
  pub same : new.sink.ghost_name ≡ old.sink.ghost_name
  pub told : Told (Took bytes) (sink.taken old.sink.now) (sink.taken new.sink.now)
  pub calls : LeavesSink sink.whole sink.calls (length bytes) (length bytes) old.sink.now new.sink.now
  pub few_lines : LeavesLines 1 sink.whole sink.calls sink.taken old.sink.now new.sink.now

-- it was handed bytes, and wrote a part of them
pub record TookRawPart {K : Type 0} (sink : Ghosts K) (old : Raw K) (bytes : List ℕ) (new : Raw K) : Type 0 where
  pub same : new.sink.ghost_name ≡ old.sink.ghost_name
  pub told : Told (TookPart bytes) (sink.taken old.sink.now) (sink.taken new.sink.now)
  pub calls : LeavesSink sink.whole sink.calls (length bytes) (length bytes) old.sink.now new.sink.now
