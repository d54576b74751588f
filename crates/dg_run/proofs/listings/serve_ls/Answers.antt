use Rattle.std.proofs.Common.{refl, rules}
use Rattle.dg_model.specs.declared.events.Event.TheVariants.{Ls}
use Rattle.dg_run.proofs.ArraySteps.{steps_of}
use Rattle.dg_run.proofs.ListedReplies.{Lent, ended, ended_lines, ended_part, front_part}
use Rattle.dg_run.proofs.NodeLines.{entries_at, lines_lent}
use Rattle.dg_run.proofs.Sending.{Sent, sent}
use Rattle.dg_saved.specs.PathReplies.{has_reply, ls_nothing}
use Rattle.dg_text.specs.ListingLines.{TookEntries, TookEntriesPart}
use Rattle.dg_text.specs.declared.listing_lines.Lines.{Lines}
use Rattle.dg_text.specs.declared.listings.Form.TheVariants.{Directory}
use Rattle.dg_volume.specs.Volumes.{StepsTo, any_phase}
use Rattle.dg_run.proofs.listings.serve_ls.Goals as goal
use Rattle.dg_run.proofs.listings.serve_ls.Goals.{After-ls, After-send_nothing}

-- what the sink took that was lent for the lines
lines : (g : _) (c : After-ls g) → Lent (entries_at c.args.path.now) g.K.Sink g.R.Rack c.args.sink.now (λ (s : Lines g.row.K.Denot). s.sink.now) (TookEntries g.K.Sink) (TookEntriesPart g.K.Sink) c.new-entries.result c.ls.new.out c.args.array.now
    (record c.args.array.now { volume = c.ls.new.self })
lines g c = lines_lent g.K.Sink (entries_at c.args.path.now) Directory (λ entries. refl) g.R.Rack c.args.sink.now c.new-entries.result c.ls.new.out c.args.array.now (record c.args.array.now { volume = c.ls.new.self }) c.new-entries.ensures.form c.new-entries.ensures.sink refl

pub returns-in-Ok-clause-answered : goal.returns-in-Ok-clause-answered
returns-in-Ok-clause-answered g c =
    ended (lines g (goal.at.returns-in-Ok-clause-answered g c).After-ls) (entries_at c.args.path.now).whole c.in-Given.n (rw c.as_slice.ensures at c.in-Given.ensures.steps) c.in-Ok.ensures.ok (search rules)

pub returns-in-Ok-cut-clause-answered : goal.returns-in-Ok-cut-clause-answered
returns-in-Ok-cut-clause-answered g c =
    ended (lines g (goal.at.returns-in-Ok-cut-clause-answered g c).After-ls) (entries_at c.args.path.now).cut c.in-Cut.n (rw c.as_slice.ensures at c.in-Cut.ensures.steps) c.in-Ok-cut.ensures.ok (search rules)

pub returns-in-Err-clause-part : goal.returns-in-Err-clause-part
returns-in-Err-clause-part g c is =
    ended_part (lines g (goal.at.returns-in-Err-clause-part g c).After-ls) (entries_at c.args.path.now).whole c.in-Given.n (rw c.as_slice.ensures at c.in-Given.ensures.steps) c.in-Err.ensures.err (search rules)

pub returns-in-Err-cut-clause-part : goal.returns-in-Err-cut-clause-part
returns-in-Err-cut-clause-part g c is =
    ended_part (lines g (goal.at.returns-in-Err-cut-clause-part g c).After-ls) (entries_at c.args.path.now).cut c.in-Cut.n (rw c.as_slice.ensures at c.in-Cut.ensures.steps) c.in-Err-cut.ensures.err (search rules)

pub returns-in-SinkFault-clause-part : goal.returns-in-SinkFault-clause-part
returns-in-SinkFault-clause-part g c is =
    let rule = rw c.as_slice.ensures at c.in-SinkFault.ensures.steps in
    front_part (lines g (goal.at.returns-in-SinkFault-clause-part g c).After-ls) rule.0 rule.1 rule.3 (search rules)

-- the reply that gave nothing
nothing : (g : _) (c : After-send_nothing g) → Sent g.K.Sink g.R.Rack (Ls c.args.path.now) c.args.sink.now c.send_nothing.new.sink c.args.array.now (record c.args.array.now { volume = c.ls.new.self }) c.send_nothing.result
nothing g c =
    let b = record c.args.array.now { volume = c.ls.new.self } in
    let has = has_reply c.ls.result c.in_default.not-Given c.in_default.not-Cut c.in_default.not-SinkFault in
    let rule = ls_nothing (TookEntries g.K.Sink) (TookEntriesPart g.K.Sink) (λ (s : Lines g.row.K.Denot). g.K.Sink.faults s.sink.now) c.new-entries.result c.ls.new.out
    (λ reply. StepsTo any_phase any_phase g.R.Rack c.args.array.now.volume (Ls c.as_slice.result.now) reply c.ls.new.self) c.ls.result has c.ls.ensures.steps in
    let s = c.send_nothing in
    sent g.K.Sink g.R.Rack (Ls c.args.path.now) has.reply c.args.array.now b s.result (steps_of g.R.Rack c.args.array.now b (Ls c.args.path.now) has.reply tt refl (rw c.as_slice.ensures at rule.1))
    (s.ensures.ok has.reply has.is) (s.ensures.part has.reply has.is) s.ensures.err s.ensures.lines (search (rules, rule.0))

pub returns-in_default-clause-answered : goal.returns-in_default-clause-answered
returns-in_default-clause-answered g c = (nothing g c).answered

pub returns-in_default-clause-part : goal.returns-in_default-clause-part
returns-in_default-clause-part g c = (nothing g c).part

pub returns-in_default-clause-lines : goal.returns-in_default-clause-lines
returns-in_default-clause-lines g c = (nothing g c).lines

pub returns-in-Ok-clause-lines : goal.returns-in-Ok-clause-lines
returns-in-Ok-clause-lines g c none =
    let rule = rw c.as_slice.ensures at c.in-Given.ensures.steps in
    ended_lines (lines g (goal.at.returns-in-Ok-clause-lines g c).After-ls) rule.0 rule.2 c.in-Ok.ensures.lines (search rules)

pub returns-in-Ok-cut-clause-lines : goal.returns-in-Ok-cut-clause-lines
returns-in-Ok-cut-clause-lines g c none =
    let rule = rw c.as_slice.ensures at c.in-Cut.ensures.steps in
    ended_lines (lines g (goal.at.returns-in-Ok-cut-clause-lines g c).After-ls) rule.0 rule.2 c.in-Ok-cut.ensures.lines (search rules)
