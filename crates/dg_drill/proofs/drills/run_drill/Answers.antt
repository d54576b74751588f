use Rattle.std.proofs.Common.{◌≡◌, ◌∙◌, List, ℕ, rules, subst, sym}
use Rattle.dg_drill.proofs.DrillLaws.{ends_drill}
use Rattle.dg_drill.specs.Calls.{facts_of}
use Rattle.dg_drill.proofs.ReportCalls.{report_feed}
use Rattle.dg_drill.specs.Drills.{written_count}
use Rattle.dg_drill.specs.Reports.{report_text}
use Rattle.dg_io.specs.SinkLines.{MayWrite}
use Rattle.dg_text.specs.LineWeights.{may_line}
use Rattle.dg_io.specs.Told.{Told, Took, TookPart}
use Rattle.dg_drill.proofs.drills.run_drill.Goals as goal

pub returns-clause-ends : goal.returns-clause-ends
returns-clause-ends g c =
    let same : c.deref.result.now ≡ c.in_ok-rack.field-0.text.items = search rules in
    let before = g.K.Sink.taken c.args.sink.now in
    let now = g.K.Sink.taken c.tell-end.new.sink in
    ends_drill (g.R.Rack.tells c.in_ok-rack.field-0.rack) (facts_of g.K.Sink g.R.Rack c.args.sink.now c.tell-end.new.sink c.args.rack c.in_ok-rack.field-0.rack) c.args.seed c.args.files c.tell-end.result
    c.in_ok-rack.field-0.text.items (c.in_ok-rack.ensures.drilled before now)
    (λ other. subst (λ (l : List ℕ). Told (Took l) (g.K.Sink.taken c.args.sink.now) (g.K.Sink.taken c.tell-end.new.sink)) same (c.tell-end.ensures.told other))
    (λ fault. subst (λ (l : List ℕ). Told (TookPart l) (g.K.Sink.taken c.args.sink.now) (g.K.Sink.taken c.tell-end.new.sink)) same (c.tell-end.ensures.part fault))

pub returns-clause-lines : goal.returns-clause-lines
returns-clause-lines g c = λ other.
    let same : c.deref.result.now ≡ c.in_ok-rack.field-0.text.items = search rules in
    let drilled = c.in_ok-rack.ensures.drilled (g.K.Sink.taken c.args.sink.now) (g.K.Sink.taken c.tell-end.new.sink) in
    let written = written_count drilled.written.table in
    let text : List ℕ = report_text c.args.seed c.args.files written drilled.settled drilled.cats in
    let is : c.deref.result.now ≡ text = same ∙ drilled.text_is in
    let may : MayWrite 255 1 text = may_line 255 text (report_feed c.args.seed c.args.files written drilled.settled drilled.cats) in
    c.tell-end.ensures.lines (subst (λ (shown : List ℕ). MayWrite 255 1 shown) (sym is) may) other
