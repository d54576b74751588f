use Rattle.std.proofs.Common.{◌∙◌, List, ℕ, ap, subst, sym}
use Rattle.std.specs.Prelude.{Bool}
use Rattle.dg_drill.proofs.ReadLaws.{gives_file, holds_file, read_by, some_bytes}
use Rattle.dg_drill.specs.Chains.{HasRead}
use Rattle.dg_drill.specs.Comparisons.{Compared, ComparedPart}
use Rattle.dg_drill.specs.Drills.{read_event}
use Rattle.ufs_drill.specs.Items.{bytes_of}
use Rattle.dg_drill.specs.Outcomes.{outcome_by}
use Rattle.dg_drill.specs.declared.comparers.Comparer.{Comparer}
use Rattle.dg_drill.specs.declared.reads.Outcome.{Outcome}
use Rattle.dg_model.specs.declared.events.Event.TheVariants.{Cat}
use Rattle.dg_volume.specs.Replies.{AnswersCat}
use Rattle.dg_volume.specs.Volumes.{StepsBy, StepsTo, any_phase, given_of, phase_of, shape_of, touched_by}
use Rattle.dg_drill.proofs.reads.read_file.Goals as goal

pub cat-answer-requires-clause-path : goal.cat-answer-requires-clause-path
cat-answer-requires-clause-path g c = c.file_path.ensures.path

pub returns-clause-read : goal.returns-clause-read
returns-clause-read g c =
    let old = c.args.volume.now in
    let new = c.cat-answer.new.self in
    let touch = touched_by (phase_of any_phase old) (given_of new) in
    let rule = subst (λ (p : List ℕ). AnswersCat Compared ComparedPart (λ (t : Comparer). 0) c.new-comparer.result c.cat-answer.new.out (shape_of old).l
    (λ reply. StepsBy any_phase any_phase g.R.Rack touch old (Cat p) reply new) (λ reply. StepsTo any_phase any_phase g.R.Rack old (Cat p) reply new) c.cat-answer.result)
    c.file_path.ensures.is c.cat-answer.ensures.steps in
    let begun = subst (λ (s : Comparer). AnswersCat Compared ComparedPart (λ (t : Comparer). 0) s c.cat-answer.new.out (shape_of old).l
    (gives_file g.R.Rack old new touch c.args.k c.args.size) (holds_file g.R.Rack old new touch c.args.k c.args.size) c.cat-answer.result) c.new-comparer.ensures rule in
    let read = read_by g.R.Rack old new touch c.args.k c.args.size c.cat-answer.result c.cat-answer.new.out (shape_of old).l
    (some_bytes (shape_of old) c.requires.well.array.table.shape) begun in
    subst (λ (o : Outcome). HasRead g.R.Rack old (read_event c.args.k) (bytes_of c.args.k c.args.size) o new)
    (sym (c.outcome_of.ensures ∙ ap (λ (b : Bool). outcome_by c.cat-answer.result b) c.is_whole.ensures)) read
