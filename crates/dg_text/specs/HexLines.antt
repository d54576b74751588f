-- What a receiver wrote that puts the bytes of a file into lines of one length, and the bytes that wait in it.
use Rattle.std.specs.Prelude.{◌≡◌, ◌<◌, ◌+◌, ℕ, List, [], ◌∷◌, ◌++◌, length, take, codes, All}
use Rattle.std.specs.List.{concat}
use Rattle.std.specs.Fmt.{decimal}
use Rattle.dg_io.specs.SinkCalls.{LeavesSink}
use Rattle.dg_io.specs.SinkLines.{LeavesLines}
use Rattle.dg_io.specs.Told.{Told, Took, TookPart}
use Rattle.dg_io.specs.declared.outside.Sink.{Ghosts}
use Rattle.dg_model.specs.Lists.{AreLines}
use Rattle.dg_text.specs.Replies.{file_text}
use Rattle.dg_text.specs.declared.hex_lines.HexLines.{HexLines}

-- the bytes of the line that isn't full yet
abbrev pub waiting : {K : Type 0} → HexLines K → List ℕ
waiting receiver = take receiver.used receiver.line

-- the bytes of a line
abbrev pub length_of : {K : Type 0} → HexLines K → ℕ
length_of receiver = receiver.l

-- the sink that it was lent, as it is now
abbrev pub sink_of : {K : Type 0} → HexLines K → K
sink_of receiver = receiver.sink.now

-- which sink that is
abbrev pub loan_of : {K : Type 0} → HexLines K → ℕ
loan_of receiver = receiver.sink.ghost_name

-- bytes in lines of this length, and a tail
pub record InLines (l : ℕ) (bytes tail : List ℕ) (lines : List (List ℕ)) : Type 0 where
  pub full : All (λ line. length line ≡ l) lines
  pub whole : bytes ≡ concat lines ++ tail

-- it was handed bytes, wrote the lines that became full, each by one call, and keeps the rest
pub record TookBytes {K : Type 0} (sink : Ghosts K) (old : HexLines K) (bytes : List ℕ) (new : HexLines K) : Type 0 where
  pub lines : List (List ℕ)
  pub l : new.l ≡ old.l
  pub same : new.sink.ghost_name ≡ old.sink.ghost_name
  pub split : InLines old.l (waiting old ++ bytes) (waiting new) lines
  pub short : length (waiting new) < new.l
  pub told : Told (Took (file_text lines)) (sink.taken old.sink.now) (sink.taken new.sink.now)
  pub calls : LeavesSink sink.whole sink.calls (length lines) (length (file_text lines)) old.sink.now new.sink.now
  pub few_lines : LeavesLines 255 sink.whole sink.calls sink.taken old.sink.now new.sink.now

-- it was handed bytes, and wrote a part of the lines that became full
pub record TookBytesPart {K : Type 0} (sink : Ghosts K) (old : HexLines K) (bytes : List ℕ) (new : HexLines K) : Type 0 where
  pub lines : List (List ℕ)
  pub tail : List ℕ
  pub l : new.l ≡ old.l
  pub same : new.sink.ghost_name ≡ old.sink.ghost_name
  pub split : InLines old.l (waiting old ++ bytes) tail lines
  pub told : Told (TookPart (file_text lines)) (sink.taken old.sink.now) (sink.taken new.sink.now)
  pub calls : LeavesSink sink.whole sink.calls (length lines) (length (file_text lines)) old.sink.now new.sink.now

-- these bytes were written as the lines of a file, and then a last line, each by one call
pub record WroteFile {K : Type 0} (sink : Ghosts K) (start : HexLines K) (bytes last : List ℕ) (new : HexLines K) : Type 0 where
  pub lines : List (List ℕ)
  pub are : AreLines start.l lines
  pub whole : concat lines ≡ bytes
  pub told : Told (Took (file_text lines ++ last)) (sink.taken start.sink.now) (sink.taken new.sink.now)
  pub calls : LeavesSink sink.whole sink.calls (length lines + 1) (length (file_text lines ++ last)) start.sink.now new.sink.now
  pub few_lines : LeavesLines 255 sink.whole sink.calls sink.taken start.sink.now new.sink.now

-- a part of them was written
pub record WroteFilePart {K : Type 0} (sink : Ghosts K) (start : HexLines K) (bytes last : List ℕ) (new : HexLines K) : Type 0 where
  pub lines : List (List ℕ)
  pub are : AreLines start.l lines
  pub whole : concat lines ≡ bytes
  pub told : Told (TookPart (file_text lines ++ last)) (sink.taken start.sink.now) (sink.taken new.sink.now)
  pub calls : LeavesSink sink.whole sink.calls (length lines + 1) (length (file_text lines ++ last)) start.sink.now new.sink.now

-- the line of the bytes that wait, if there are any
abbrev pub rest_lines : List ℕ → List (List ℕ)
rest_lines [] = []
rest_lines (x ∷ rest) = (x ∷ rest) ∷ []

-- the line that ends a file of n bytes
abbrev pub last_line : List ℕ → ℕ → List ℕ
last_line word n = word ++ (decimal n ++ codes "\n")

-- a file is written whole: all that was handed over since nothing waited, and the line that ends it
abbrev pub Ends : {K : Type 0} → Ghosts K → List ℕ → HexLines K → HexLines K → Type 0
Ends {K} sink last old new = (start : HexLines K) (bytes : List ℕ) → waiting start ≡ [] → TookBytes sink start bytes old → WroteFile sink start bytes last new

-- a part of it is written
abbrev pub EndsPart : {K : Type 0} → Ghosts K → List ℕ → HexLines K → HexLines K → Type 0
EndsPart {K} sink last old new = (start : HexLines K) (bytes : List ℕ) → waiting start ≡ [] → TookBytes sink start bytes old → WroteFilePart sink start bytes last new
