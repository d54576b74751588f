use Rattle.std.proofs.Common.{refl, rules}
use Rattle.dg_model.specs.declared.events.Event.TheVariants.{Tree}
use Rattle.dg_model.specs.declared.replies.Reply.TheVariants.{NotSettled}
use Rattle.dg_run.proofs.ArraySteps.{steps_of}
use Rattle.dg_run.proofs.ListedReplies.{Lent, ended, ended_lines, ended_part, front_part, wanted, wanted_lines}
use Rattle.dg_run.proofs.NodeLines.{lines_lent, nodes}
use Rattle.dg_run.proofs.PathReplies.{loose_tree, tree_nothing}
use Rattle.dg_run.proofs.Sending.{Sent, sent}
use Rattle.dg_saved.specs.PathReplies.{has_reply}
use Rattle.dg_text.specs.ListingLines.{TookEntries, TookEntriesPart}
use Rattle.dg_text.specs.declared.listing_lines.Lines.{Lines}
use Rattle.dg_text.specs.declared.listings.Form.TheVariants.{Volume}
use Rattle.dg_volume.specs.Volumes.{StepsTo, any_phase}
use Rattle.dg_run.proofs.trees.serve_tree.Goals as goal
use Rattle.dg_run.proofs.trees.serve_tree.Goals.{After-send, After-send_nothing, After-tree}

-- what the sink took that was lent for the lines
lines : (g : _) (c : After-tree g) → Lent nodes g.K.Sink g.R.Rack c.args.sink.now (λ (s : Lines g.row.K.Denot). s.sink.now) (TookEntries g.K.Sink) (TookEntriesPart g.K.Sink) c.new-entries.result c.tree.new.out c.args.array.now
    (record c.args.array.now { volume = c.tree.new.self })
lines g c = lines_lent g.K.Sink nodes Volume (λ entries. refl) g.R.Rack c.args.sink.now c.new-entries.result c.tree.new.out c.args.array.now (record c.args.array.now { volume = c.tree.new.self }) c.new-entries.ensures.form c.new-entries.ensures.sink refl

pub returns-in-Ok-end-clause-answered : goal.returns-in-Ok-end-clause-answered
returns-in-Ok-end-clause-answered g c =
    ended (lines g (goal.at.returns-in-Ok-end-clause-answered g c).After-tree) nodes.whole c.in-Given.n (rw c.in-Given.is at rw c.in-Is.is at c.in-Ok.ensures.steps) c.in-Ok-end.ensures.ok (search rules)

pub returns-in-Ok-cut-clause-answered : goal.returns-in-Ok-cut-clause-answered
returns-in-Ok-cut-clause-answered g c =
    ended (lines g (goal.at.returns-in-Ok-cut-clause-answered g c).After-tree) nodes.cut c.in-Cut.n (rw c.in-Cut.is at rw c.in-Is.is at c.in-Ok.ensures.steps) c.in-Ok-cut.ensures.ok (search rules)

pub returns-in-Err-clause-part : goal.returns-in-Err-clause-part
returns-in-Err-clause-part g c is =
    ended_part (lines g (goal.at.returns-in-Err-clause-part g c).After-tree) nodes.whole c.in-Given.n (rw c.in-Given.is at rw c.in-Is.is at c.in-Ok.ensures.steps) c.in-Err.ensures.err (search rules)

pub returns-in-Err-cut-clause-part : goal.returns-in-Err-cut-clause-part
returns-in-Err-cut-clause-part g c is =
    ended_part (lines g (goal.at.returns-in-Err-cut-clause-part g c).After-tree) nodes.cut c.in-Cut.n (rw c.in-Cut.is at rw c.in-Is.is at c.in-Ok.ensures.steps) c.in-Err-cut.ensures.err (search rules)

pub returns-in-SinkFault-clause-part : goal.returns-in-SinkFault-clause-part
returns-in-SinkFault-clause-part g c is =
    let rule = rw c.in-SinkFault.is at rw c.in-Is.is at c.in-Ok.ensures.steps in
    front_part (lines g (goal.at.returns-in-SinkFault-clause-part g c).After-tree) rule.0 rule.1 rule.3 (search rules)

pub returns-in_default-clause-wanting : goal.returns-in_default-clause-wanting
returns-in_default-clause-wanting g c is =
    wanted (lines g (goal.at.returns-in_default-clause-wanting g c).After-tree) (λ items rest. (items, rest, refl, refl)) c.in_default.ensures.part (search rules)

-- the volume isn't settled
loose : (g : _) (c : After-send g) → Sent g.K.Sink g.R.Rack Tree c.args.sink.now c.send.new.sink c.args.array.now (record c.args.array.now { volume = c.tree.new.self }) c.send.result
loose g c =
    let b = record c.args.array.now { volume = c.tree.new.self } in
    let rule = loose_tree (TookEntries g.K.Sink) (TookEntriesPart g.K.Sink) (λ (s : Lines g.row.K.Denot). g.K.Sink.faults s.sink.now) c.new-entries.result c.tree.new.out
    (λ reply. StepsTo any_phase any_phase g.R.Rack c.args.array.now.volume Tree reply c.tree.new.self) c.in-Ok.told c.in_default-told.not-Is c.in-Ok.ensures.steps in
    let s = c.send in
    sent g.K.Sink g.R.Rack Tree NotSettled c.args.array.now b s.result (steps_of g.R.Rack c.args.array.now b Tree NotSettled tt refl rule.1)
    s.ensures.ok s.ensures.part s.ensures.err s.ensures.lines (search (rules, rule.0))

pub returns-in_default-told-clause-answered : goal.returns-in_default-told-clause-answered
returns-in_default-told-clause-answered g c = (loose g c).answered

pub returns-in_default-told-clause-part : goal.returns-in_default-told-clause-part
returns-in_default-told-clause-part g c = (loose g c).part

pub returns-in_default-told-clause-lines : goal.returns-in_default-told-clause-lines
returns-in_default-told-clause-lines g c = (loose g c).lines

-- the reply that gave nothing
nothing : (g : _) (c : After-send_nothing g) → Sent g.K.Sink g.R.Rack Tree c.args.sink.now c.send_nothing.new.sink c.args.array.now (record c.args.array.now { volume = c.tree.new.self }) c.send_nothing.result
nothing g c =
    let b = record c.args.array.now { volume = c.tree.new.self } in
    let has = has_reply c.in-Is.answer c.in_default-answer.not-Given c.in_default-answer.not-Cut c.in_default-answer.not-SinkFault in
    let rule = tree_nothing (TookEntries g.K.Sink) (TookEntriesPart g.K.Sink) (λ (s : Lines g.row.K.Denot). g.K.Sink.faults s.sink.now) c.new-entries.result c.tree.new.out
    (λ reply. StepsTo any_phase any_phase g.R.Rack c.args.array.now.volume Tree reply c.tree.new.self) c.in-Is.answer has (rw c.in-Is.is at c.in-Ok.ensures.steps) in
    let s = c.send_nothing in
    sent g.K.Sink g.R.Rack Tree has.reply c.args.array.now b s.result (steps_of g.R.Rack c.args.array.now b Tree has.reply tt refl rule.1)
    (s.ensures.ok has.reply has.is) (s.ensures.part has.reply has.is) s.ensures.err s.ensures.lines (search (rules, rule.0))

pub returns-in_default-answer-clause-answered : goal.returns-in_default-answer-clause-answered
returns-in_default-answer-clause-answered g c = (nothing g c).answered

pub returns-in_default-answer-clause-part : goal.returns-in_default-answer-clause-part
returns-in_default-answer-clause-part g c = (nothing g c).part

pub returns-in_default-answer-clause-lines : goal.returns-in_default-answer-clause-lines
returns-in_default-answer-clause-lines g c = (nothing g c).lines

pub returns-in-Ok-end-clause-lines : goal.returns-in-Ok-end-clause-lines
returns-in-Ok-end-clause-lines g c none =
    let rule = rw c.in-Given.is at rw c.in-Is.is at c.in-Ok.ensures.steps in
    ended_lines (lines g (goal.at.returns-in-Ok-end-clause-lines g c).After-tree) rule.0 rule.2 c.in-Ok-end.ensures.lines (search rules)

pub returns-in-Ok-cut-clause-lines : goal.returns-in-Ok-cut-clause-lines
returns-in-Ok-cut-clause-lines g c none =
    let rule = rw c.in-Cut.is at rw c.in-Is.is at c.in-Ok.ensures.steps in
    ended_lines (lines g (goal.at.returns-in-Ok-cut-clause-lines g c).After-tree) rule.0 rule.2 c.in-Ok-cut.ensures.lines (search rules)

pub returns-in_default-clause-lines : goal.returns-in_default-clause-lines
returns-in_default-clause-lines g c none = wanted_lines (lines g (goal.at.returns-in_default-clause-lines g c).After-tree) c.in_default.ensures.part (search rules)
