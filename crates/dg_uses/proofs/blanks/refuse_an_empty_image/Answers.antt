use Rattle.std.proofs.Common.{◌∙◌, ap, refl, []}
use Rattle.std.specs.Prelude.{Some, Err}
use Rattle.dg_io.specs.Racks.{counts_in}
use Rattle.dg_io.specs.Sinks.{sure_taken}
use Rattle.dg_io.specs.Sources.{sure_left}
use Rattle.dg_io.specs.declared.racks.MemRack.{MemRack}
use Rattle.dg_run.specs.Ends.{asked_by}
use Rattle.dg_trace.specs.declared.asked.TraceRefusal.TheVariants.{Length}
use Rattle.dg_uses.proofs.BlankRows.{no_bytes, none_rose, refusal_printed}
use Rattle.dg_words.specs.declared.commands.Command.TheVariants.{Trace}
use Rattle.dg_words.specs.declared.commands.Order.TheVariants.{Up}
use Rattle.dg_uses.proofs.blanks.refuse_an_empty_image.Goals as goal

pub returns-clause-answer : goal.returns-clause-answer
returns-clause-answer c =
    c.run-status.ensures.complete (Trace Up 4 64 2) c.in_ok-words.ensures none_rose none_rose [] (Err Length) (ap Some (c.new-source.ensures.left ∙ c.new.ensures.items), refl)
    (no_bytes (asked_by Up 4 64 2))

pub returns-clause-printed : goal.returns-clause-printed
returns-clause-printed c refused text is =
    refusal_printed (asked_by Up 4 64 2) (Some (sure_left c.new-source.result)) (sure_left c.run-status.new.source) (sure_taken c.in_ok-sink.sink)
    (sure_taken c.run-status.new.sink) c.run-status.result text (ap Some (c.new-source.ensures.left ∙ c.new.ensures.items)) c.in_ok-sink.ensures.taken refused
    (c.run-status.ensures.ends (Trace Up 4 64 2) c.in_ok-words.ensures) is

pub returns-clause-calls : goal.returns-clause-calls
returns-clause-calls c =
    ap (λ (r : MemRack). (counts_in r).calls) (c.run-status.ensures.idle (Trace Up 4 64 2) c.in_ok-words.ensures refl) ∙ c.in_ok-rack.ensures.calls
