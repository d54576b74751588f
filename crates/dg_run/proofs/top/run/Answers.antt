use Rattle.std.proofs.Common.{◌≡◌, ◌∙◌, ap, false, refl, subst, sym}
use Rattle.std.specs.Prelude.{Err}
use Rattle.dg_io.specs.SinkLines.{LeavesLines, lines_none}
use Rattle.dg_run.proofs.Completing.{completes}
use Rattle.dg_run.proofs.Ended.{asked_is, ends_usage, wanted_first, words_refused}
use Rattle.dg_run.specs.Calls.{facts_of}
use Rattle.dg_run.specs.Ends.{Ends, line_bytes, reads_input, uses_array}
use Rattle.dg_run.specs.declared.top.Status.TheVariants.{NoMemory}
use Rattle.dg_words.specs.declared.commands.Command.{Command}
use Rattle.dg_run.proofs.top.run.Goals as goal

pub returns-in-Ok-clause-ends : goal.returns-in-Ok-clause-ends
returns-in-Ok-clause-ends g c command words =
    let s = c.serve_command in
    let same = asked_is _ c.command.result c.command.ensures.exact c.in-Ok.asked command c.in-Ok.is words in
    subst (λ (d : Command). Ends (g.R.Rack.steady c.args.rack.now) (g.R.Rack.tells s.new.rack) (facts_of g.S.Source g.K.Sink g.R.Rack c.args.source.now s.new.source c.args.sink.now s.new.sink c.args.rack.now s.new.rack) d s.result) (sym same) s.ensures.ends

pub returns-in-Ok-clause-usage : goal.returns-in-Ok-clause-usage
returns-in-Ok-clause-usage g c = λ is command words. c.serve_command.ensures.usage is

pub returns-in-Ok-clause-other : goal.returns-in-Ok-clause-other
returns-in-Ok-clause-other g c = λ none. absurd (none c.in-Ok.asked c.in-Ok.ensures.ok)

pub returns-in-Ok-clause-plain : goal.returns-in-Ok-clause-plain
returns-in-Ok-clause-plain g c = λ is none. absurd (none c.in-Ok.asked c.in-Ok.ensures.ok)

pub returns-in-Ok-clause-quiet : goal.returns-in-Ok-clause-quiet
returns-in-Ok-clause-quiet g c command words none =
    let same = asked_is _ c.command.result c.command.ensures.exact c.in-Ok.asked command c.in-Ok.is words in
    c.serve_command.ensures.quiet (subst (λ (d : Command). reads_input d ≡ false) same none)

pub returns-in-Ok-clause-idle : goal.returns-in-Ok-clause-idle
returns-in-Ok-clause-idle g c command words none =
    let same = asked_is _ c.command.result c.command.ensures.exact c.in-Ok.asked command c.in-Ok.is words in
    c.serve_command.ensures.idle (subst (λ (d : Command). uses_array d ≡ false) same none)

pub returns-in-Ok-clause-complete : goal.returns-in-Ok-clause-complete
returns-in-Ok-clause-complete g c command words source sink =
    let s = c.serve_command in
    let met = facts_of g.S.Source g.K.Sink g.R.Rack c.args.source.now s.new.source c.args.sink.now s.new.sink c.args.rack.now s.new.rack in
    let same = asked_is _ c.command.result c.command.ensures.exact c.in-Ok.asked command c.in-Ok.is words in
    let tells = g.R.Rack.tells s.new.rack in
    completes c.image_has_one_answer.ensures (g.R.Rack.steady c.args.rack.now) tells met command s.result (subst (λ (d : Command). Ends (g.R.Rack.steady c.args.rack.now) tells met d s.result) (sym same) s.ensures.ends)
    ((λ is. source (s.ensures.read is)), (λ is. sink (s.ensures.write is)))

pub returns-in-Err-Usage-clause-ends : goal.returns-in-Err-Usage-clause-ends
returns-in-Err-Usage-clause-ends g c command words = absurd (words_refused _ c.command.result c.command.ensures.exact command (c.in-Err-Usage.is ∙ ap Err c.in-Err-Usage.field-0-is) words)

pub returns-in-Err-Usage-clause-usage : goal.returns-in-Err-Usage-clause-usage
returns-in-Err-Usage-clause-usage g c = λ is command words. absurd (words_refused _ c.command.result c.command.ensures.exact command (c.in-Err-Usage.is ∙ ap Err c.in-Err-Usage.field-0-is) words)

pub returns-in-Err-Usage-clause-other : goal.returns-in-Err-Usage-clause-other
returns-in-Err-Usage-clause-other g c = λ all.
    let e = c.refuse_words.ensures in
    (ends_usage (facts_of g.S.Source g.K.Sink g.R.Rack c.args.source.now c.args.source.now c.args.sink.now c.refuse_words.new.sink c.args.rack.now c.args.rack.now) c.refuse_words.result e.is e.usage e.part, refl, refl)

pub returns-in-Err-Usage-clause-quiet : goal.returns-in-Err-Usage-clause-quiet
returns-in-Err-Usage-clause-quiet g c command words none = absurd (words_refused _ c.command.result c.command.ensures.exact command (c.in-Err-Usage.is ∙ ap Err c.in-Err-Usage.field-0-is) words)

pub returns-in-Err-Usage-clause-idle : goal.returns-in-Err-Usage-clause-idle
returns-in-Err-Usage-clause-idle g c command words none = absurd (words_refused _ c.command.result c.command.ensures.exact command (c.in-Err-Usage.is ∙ ap Err c.in-Err-Usage.field-0-is) words)

pub returns-in-Err-Usage-clause-complete : goal.returns-in-Err-Usage-clause-complete
returns-in-Err-Usage-clause-complete g c command words source sink = absurd (words_refused _ c.command.result c.command.ensures.exact command (c.in-Err-Usage.is ∙ ap Err c.in-Err-Usage.field-0-is) words)

pub returns-in-Err-NoMemory-clause-ends : goal.returns-in-Err-NoMemory-clause-ends
returns-in-Err-NoMemory-clause-ends g c command words = wanted_first _ _ (facts_of g.S.Source g.K.Sink g.R.Rack c.args.source.now c.args.source.now c.args.sink.now c.args.sink.now c.args.rack.now c.args.rack.now) command refl refl

pub returns-in-Err-NoMemory-clause-plain : goal.returns-in-Err-NoMemory-clause-plain
returns-in-Err-NoMemory-clause-plain g c = λ is none. c.command.ensures.memory (c.in-Err-NoMemory.is ∙ ap Err c.in-Err-NoMemory.field-0-is)

pub returns-in-Err-NoMemory-clause-complete : goal.returns-in-Err-NoMemory-clause-complete
returns-in-Err-NoMemory-clause-complete g c command words source sink =
    let met = facts_of g.S.Source g.K.Sink g.R.Rack c.args.source.now c.args.source.now c.args.sink.now c.args.sink.now c.args.rack.now c.args.rack.now in
    let tells = g.R.Rack.tells c.args.rack.now in
    completes c.image_has_one_answer.ensures (g.R.Rack.steady c.args.rack.now) tells met command NoMemory (wanted_first (g.R.Rack.steady c.args.rack.now) tells met command refl refl) ((λ is. absurd (cc is)), (λ is. absurd (cc is)))

pub returns-in-Ok-clause-lines : goal.returns-in-Ok-clause-lines
returns-in-Ok-clause-lines g c command words none =
    let same = asked_is _ c.command.result c.command.ensures.exact c.in-Ok.asked command c.in-Ok.is words in
    subst (λ (d : Command). LeavesLines (line_bytes d) g.K.Sink.whole g.K.Sink.calls g.K.Sink.taken c.args.sink.now c.serve_command.new.sink) (sym same) (c.serve_command.ensures.lines none)

pub returns-in-Ok-clause-usage_lines : goal.returns-in-Ok-clause-usage_lines
returns-in-Ok-clause-usage_lines g c = λ none kept. absurd (none c.in-Ok.asked c.in-Ok.ensures.ok)

pub returns-in-Err-Usage-clause-lines : goal.returns-in-Err-Usage-clause-lines
returns-in-Err-Usage-clause-lines g c command words none = absurd (words_refused _ c.command.result c.command.ensures.exact command (c.in-Err-Usage.is ∙ ap Err c.in-Err-Usage.field-0-is) words)

pub returns-in-Err-NoMemory-clause-lines : goal.returns-in-Err-NoMemory-clause-lines
returns-in-Err-NoMemory-clause-lines g c command words none = lines_none (line_bytes command) g.K.Sink.whole g.K.Sink.calls g.K.Sink.taken c.args.sink.now
