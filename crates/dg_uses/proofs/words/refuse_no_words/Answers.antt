use Rattle.std.proofs.Common.{◌∙◌, ap}
use Rattle.std.specs.Prelude.{Some, map, string_bytes}
use Rattle.dg_io.specs.Racks.{counts_in, member_in}
use Rattle.dg_io.specs.Sinks.{sure_taken}
use Rattle.dg_io.specs.Sources.{sure_left}
use Rattle.dg_io.specs.declared.racks.MemRack.{MemRack}
use Rattle.dg_io.specs.declared.sinks.SureSink.{SureSink}
use Rattle.dg_io.specs.declared.sources.SureSource.{SureSource}
use Rattle.dg_run.specs.Calls.{Facts}
use Rattle.dg_uses.proofs.BlankRows.{none_rose}
use Rattle.dg_uses.proofs.FewCalls.{one_call}
use Rattle.dg_uses.proofs.WordRows.{is_usage, none_asked, none_taken, usage_printed}
use Rattle.dg_uses.proofs.words.refuse_no_words.Goals as goal

-- what the call met
abbrev met : SureSource → SureSource → SureSink → SureSink → MemRack → MemRack → Facts
met source source_now sink sink_now rack rack_now = record {
  before = counts_in rack;
  now = counts_in rack_now;
  images = member_in rack;
  bytes = member_in rack_now;
  left = Some (sure_left source);
  rest = Some (sure_left source_now);
  taken = sure_taken sink;
  given = sure_taken sink_now;
}

pub returns-clause-answer : goal.returns-clause-answer
returns-clause-answer c =
    let s = c.run-status in
    let words = map string_bytes c.new-words.result.items in
    let empty = ap (map string_bytes) c.new-words.ensures.items in
    let none = none_asked words empty in
    is_usage (met c.new-source.result s.new.source c.in_ok-sink.sink s.new.sink c.in_ok-rack.rack s.new.rack) s.result (s.ensures.other none).0
    (λ write. none_rose (s.ensures.write write)) (λ memory. none_taken words empty (s.ensures.plain memory none))

pub returns-clause-printed : goal.returns-clause-printed
returns-clause-printed c text is =
    let s = c.run-status in
    let none = none_asked (map string_bytes c.new-words.result.items) (ap (map string_bytes) c.new-words.ensures.items) in
    usage_printed (met c.new-source.result s.new.source c.in_ok-sink.sink s.new.sink c.in_ok-rack.rack s.new.rack) s.result text (s.ensures.other none).0
    (returns-clause-answer c) c.in_ok-sink.ensures.taken is

pub returns-clause-once : goal.returns-clause-once
returns-clause-once c text is =
    let s = c.run-status in
    let none = none_asked (map string_bytes c.new-words.result.items) (ap (map string_bytes) c.new-words.ensures.items) in
    one_call c.in_ok-sink.sink s.new.sink text c.in_ok-sink.ensures.taken c.in_ok-sink.ensures.calls
    (s.ensures.usage_lines none (λ write. none_rose (s.ensures.write write))) is (returns-clause-printed c text is)

pub returns-clause-calls : goal.returns-clause-calls
returns-clause-calls c =
    let none = none_asked (map string_bytes c.new-words.result.items) (ap (map string_bytes) c.new-words.ensures.items) in
    ap (λ (r : MemRack). (counts_in r).calls) (c.run-status.ensures.other none).2 ∙ c.in_ok-rack.ensures.calls
