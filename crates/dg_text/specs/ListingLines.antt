-- What a receiver wrote that puts the entries of a listing into lines.
use Rattle.std.specs.Prelude.{◌≡◌, ℕ, List, length}
use Rattle.dg_io.specs.SinkCalls.{LeavesSink}
use Rattle.dg_io.specs.SinkLines.{LeavesLines}
use Rattle.dg_io.specs.Told.{Told, Took, TookPart}
use Rattle.dg_io.specs.declared.outside.Sink.{Ghosts}
use Rattle.dg_text.specs.Listings.{lines_in}
use Rattle.dg_text.specs.declared.listings.Form.{Form}
use Rattle.dg_text.specs.declared.listing_lines.Lines.{Lines}
use Rattle.ufs_model.specs.Listings.{Listed}

-- the form of its lines
abbrev pub form_of : {K : Type 0} → Lines K → Form
form_of receiver = receiver.form

-- the sink that it was lent, as it is now
abbrev pub sink_of : {K : Type 0} → Lines K → K
sink_of receiver = receiver.sink.now

-- which sink that is
abbrev pub loan_of : {K : Type 0} → Lines K → ℕ
loan_of receiver = receiver.sink.ghost_name

-- it was handed entries, and wrote their lines, each by one call
pub record TookEntries {K : Type 0} (sink : Ghosts K) (old : Lines K) (entries : List Listed) (new : Lines K) : Type 0 where
  pub form : new.form ≡ old.form
  pub same : new.sink.ghost_name ≡ old.sink.ghost_name
  pub told : Told (Took (lines_in old.form entries)) (sink.taken old.sink.now) (sink.taken new.sink.now)
  pub calls : LeavesSink sink.whole sink.calls (length entries) (length (lines_in old.form entries)) old.sink.now new.sink.now
  pub few_lines : LeavesLines 255 sink.whole sink.calls sink.taken old.sink.now new.sink.now

-- it was handed entries, and wrote a part of their lines
pub record TookEntriesPart {K : Type 0} (sink : Ghosts K) (old : Lines K) (entries : List Listed) (new : Lines K) : Type 0 where
  pub form : new.form ≡ old.form
  pub same : new.sink.ghost_name ≡ old.sink.ghost_name
  pub told : Told (TookPart (lines_in old.form entries)) (sink.taken old.sink.now) (sink.taken new.sink.now)
  pub calls : LeavesSink sink.whole sink.calls (length entries) (length (lines_in old.form entries)) old.sink.now new.sink.now
