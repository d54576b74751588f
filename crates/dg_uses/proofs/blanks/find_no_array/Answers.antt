use Rattle.std.proofs.Common.{[], refl}
use Rattle.std.specs.Prelude.{None}
use Rattle.dg_io.specs.Racks.{counts_in, member_in, told_in}
use Rattle.dg_io.specs.Sinks.{sure_taken}
use Rattle.dg_io.specs.declared.racks.MemRack.{MemRack}
use Rattle.dg_io.specs.declared.sinks.SureSink.{SureSink}
use Rattle.dg_saved.specs.Calls.{Facts}
use Rattle.dg_uses.proofs.BlankRows.{blank_answer, no_state_printed, none_rose}
use Rattle.dg_words.specs.declared.commands.Command.TheVariants.{Status as StatusCommand}
use Rattle.dg_uses.proofs.blanks.find_no_array.Goals as goal

-- what the call met
abbrev met : SureSink → SureSink → MemRack → MemRack → Facts
met sink sink_now rack rack_now = record {
  before = counts_in rack;
  now = counts_in rack_now;
  images = member_in rack;
  bytes = member_in rack_now;
  extra = [];
  room = None;
  taken = sure_taken sink;
  given = sure_taken sink_now;
}

pub returns-clause-answer : goal.returns-clause-answer
returns-clause-answer c =
    let s = c.run-status in
    blank_answer (told_in s.new.rack) (met c.in_ok-sink.sink s.new.sink c.in_ok-rack.rack s.new.rack) (sure_taken c.in_ok-sink.sink) (sure_taken s.new.sink) s.result
    (record { empty = c.in_ok-rack.ensures.empty; told = λ q. refl }) (s.ensures.ends StatusCommand c.in_ok-words.ensures)
    (s.ensures.complete StatusCommand c.in_ok-words.ensures none_rose none_rose)

pub returns-clause-printed : goal.returns-clause-printed
returns-clause-printed c none text is =
    let s = c.run-status in
    no_state_printed (told_in s.new.rack) (met c.in_ok-sink.sink s.new.sink c.in_ok-rack.rack s.new.rack) s.result text
    (record { empty = c.in_ok-rack.ensures.empty; told = λ q. refl }) c.in_ok-sink.ensures.taken none (s.ensures.ends StatusCommand c.in_ok-words.ensures) is
