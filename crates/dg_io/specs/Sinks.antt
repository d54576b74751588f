-- What the sinks in memory hold.
use Rattle.std.specs.Prelude.{◌+◌, ◌<◌, ℕ, List, length, Option, Some, None, if◌then◌else◌}
use Rattle.std.specs.List.{Contains}
use Rattle.dg_io.specs.declared.sinks.MemSink.{MemSink}
use Rattle.dg_io.specs.declared.sinks.SureSink.{SureSink}

-- the bytes taken
abbrev pub taken_in : MemSink → List ℕ
taken_in sink = sink.bytes.items

abbrev pub sink_faults : MemSink → ℕ
sink_faults sink = sink.faults

-- how many calls were made
abbrev pub sink_calls : MemSink → ℕ
sink_calls sink = sink.calls

-- how many bytes it has room for, and the numbers of the calls that fail, from 0
abbrev pub room_in : MemSink → ℕ
room_in sink = sink.room

abbrev pub sink_fails : MemSink → List ℕ
sink_fails sink = sink.fails.items

-- the next call is one of those that fail
abbrev pub IsListed : MemSink → Type 0
IsListed sink = Contains (sink_fails sink) (sink_calls sink)

-- so many bytes more are past its room
abbrev pub IsPast : MemSink → ℕ → Type 0
IsPast sink n = room_in sink < length (taken_in sink) + n

abbrev pub sure_calls : SureSink → ℕ
sure_calls sink = sink.calls

-- the bytes taken, until there was no room
abbrev pub sure_taken : SureSink → Option (List ℕ)
sure_taken sink = if sink.told then Some sink.bytes.items else None

-- how many bytes it has room for
abbrev pub sure_room : SureSink → ℕ
sure_room sink = sink.room
