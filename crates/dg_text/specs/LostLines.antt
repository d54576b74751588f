-- What a receiver wrote that puts files which lost blocks into lines.
use Rattle.std.specs.Prelude.{◌≡◌, ℕ, List, length}
use Rattle.std.specs.List.{sum_by}
use Rattle.dg_io.specs.SinkCalls.{LeavesSink}
use Rattle.dg_io.specs.SinkLines.{LeavesLines}
use Rattle.dg_io.specs.Told.{Told, Took, TookPart}
use Rattle.dg_io.specs.declared.outside.Sink.{Ghosts}
use Rattle.dg_model.specs.Paths.{PathOf}
use Rattle.dg_text.specs.LineCalls.{path_calls}
use Rattle.dg_text.specs.Replies.{lost_text}
use Rattle.dg_text.specs.declared.lost_lines.LostLines.{LostLines}

-- the sink that it was lent, as it is now
abbrev pub lost_sink_of : {K : Type 0} → LostLines K → K
lost_sink_of receiver = receiver.sink.now

-- which sink that is
abbrev pub lost_loan_of : {K : Type 0} → LostLines K → ℕ
lost_loan_of receiver = receiver.sink.ghost_name

-- it was handed files, and wrote their lines, each by one call, unless its path is longer than that of an event
pub record TookLost {K : Type 0} (sink : Ghosts K) (old : LostLines K) (files : List PathOf) (new : LostLines K) : Type 0 where
  pub same : new.sink.ghost_name ≡ old.sink.ghost_name
  pub told : Told (Took (lost_text files)) (sink.taken old.sink.now) (sink.taken new.sink.now)
  pub calls : LeavesSink sink.whole sink.calls (sum_by path_calls files) (length (lost_text files)) old.sink.now new.sink.now
  pub few_lines : LeavesLines 255 sink.whole sink.calls sink.taken old.sink.now new.sink.now

-- it was handed files, and wrote a part of their lines
pub record TookLostPart {K : Type 0} (sink : Ghosts K) (old : LostLines K) (files : List PathOf) (new : LostLines K) : Type 0 where
  pub same : new.sink.ghost_name ≡ old.sink.ghost_name
  pub told : Told (TookPart (lost_text files)) (sink.taken old.sink.now) (sink.taken new.sink.now)
  pub calls : LeavesSink sink.whole sink.calls (sum_by path_calls files) (length (lost_text files)) old.sink.now new.sink.now
