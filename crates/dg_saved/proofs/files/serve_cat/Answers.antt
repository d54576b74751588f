use Rattle.std.proofs.Common.{◌≡◌, rules, subst}
use Rattle.dg_io.specs.SinkLines.{LeavesLines}
use Rattle.dg_io.specs.Told.{Told, Took, TookPart}
use Rattle.dg_model.specs.Causes.{Rose}
use Rattle.dg_model.specs.declared.events.Event.TheVariants.{Cat}
use Rattle.dg_saved.specs.Serves.{EndsNothing}
use Rattle.dg_saved.specs.PathReplies.{cat_nothing, has_reply}
use Rattle.dg_saved.proofs.Served.{file_cut, file_given, file_part, file_refused, some_bytes}
use Rattle.dg_text.specs.RawBytes.{TookRaw, TookRawPart}
use Rattle.dg_text.specs.Replies.{reply_line}
use Rattle.dg_text.specs.declared.raw.Raw.{Raw}
use Rattle.dg_volume.specs.Volumes.{StepsBy, StepsTo, any_phase, given_of, phase_of, shape_of, touched_by}
use Rattle.dg_saved.proofs.files.serve_cat.Goals as goal

pub returns-in-Given-clause-ends : goal.returns-in-Given-clause-ends
returns-in-Given-clause-ends g c =
    let old = c.args.volume.now in
    let rule = c.in-Given.ensures.steps in
    let told = subst (λ k. Told (Took rule.0) (g.K.Sink.taken k) (g.K.Sink.taken c.cat.new.out.sink.now)) c.new-bytes.ensures.sink rule.2.told in
    file_given g.R.Rack old c.cat.new.self (touched_by (phase_of any_phase old) (given_of c.cat.new.self)) (shape_of old).l c.args.path.now rule.0 _ _
    (some_bytes (shape_of old) c.requires.well.array.table.shape) rule.3
    (subst (λ k. Told (Took rule.0) (g.K.Sink.taken c.args.sink.now) (g.K.Sink.taken k)) (search rules) told)

pub returns-in-Cut-clause-ends : goal.returns-in-Cut-clause-ends
returns-in-Cut-clause-ends g c =
    let old = c.args.volume.now in
    let rule = c.in-Cut.ensures.steps in
    let told = subst (λ k. Told (Took rule.0) (g.K.Sink.taken k) (g.K.Sink.taken c.cat.new.out.sink.now)) c.new-bytes.ensures.sink rule.2.told in
    file_cut g.R.Rack old c.cat.new.self (shape_of old).l c.args.path.now rule.0 _ _ (some_bytes (shape_of old) c.requires.well.array.table.shape) rule.3
    (subst (λ k. Told (Took rule.0) (g.K.Sink.taken c.args.sink.now) (g.K.Sink.taken k)) (search rules) told)

pub returns-in-SinkFault-clause-ends : goal.returns-in-SinkFault-clause-ends
returns-in-SinkFault-clause-ends g c =
    let old = c.args.volume.now in
    let rule = c.in-SinkFault.ensures.steps in
    let told = subst (λ k. Told (TookPart rule.0) (g.K.Sink.taken k) (g.K.Sink.taken c.cat.new.out.sink.now)) c.new-bytes.ensures.sink rule.1.told in
    file_part g.R.Rack old c.cat.new.self (touched_by (phase_of any_phase old) (given_of c.cat.new.self)) (shape_of old).l c.args.path.now rule.0 _ _
    (some_bytes (shape_of old) c.requires.well.array.table.shape) rule.3
    (subst (λ k. Told (TookPart rule.0) (g.K.Sink.taken c.args.sink.now) (g.K.Sink.taken k)) (search rules) told)

pub returns-in_default : goal.returns-in_default
returns-in_default g c =
    let old = c.args.volume.now in
    let has = has_reply c.cat.result c.in_default.not-Given c.in_default.not-Cut c.in_default.not-SinkFault in
    let rule = cat_nothing (TookRaw g.K.Sink) (TookRawPart g.K.Sink) (λ (s : Raw g.row.K.Denot). g.K.Sink.faults s.sink.now) c.new-bytes.result c.cat.new.out
    (shape_of old).l (λ reply. StepsBy any_phase any_phase g.R.Rack (touched_by (phase_of any_phase old) (given_of c.cat.new.self)) old (Cat c.args.path.now) reply c.cat.new.self)
    (λ reply. StepsTo any_phase any_phase g.R.Rack old (Cat c.args.path.now) reply c.cat.new.self) c.cat.result has c.cat.ensures.steps in
    record {
      leaves = search rules;
      ends = file_refused g.R.Rack old c.cat.new.self c.args.path.now has.reply _ _ c.tell_nothing.result has.plain rule.1
          (subst (λ k. EndsNothing (reply_line has.reply) (g.K.Sink.taken k) (g.K.Sink.taken c.tell_nothing.new.sink) c.tell_nothing.result) (search (rules, rule.0)) (c.tell_nothing.ensures.ends has.reply has.is));
      write = λ is. subst (λ k. Rose (g.K.Sink.faults k) (g.K.Sink.faults c.tell_nothing.new.sink)) (search (rules, rule.0)) (c.tell_nothing.ensures.write is);
      kept = λ other. subst (λ k. g.K.Sink.faults c.tell_nothing.new.sink ≡ g.K.Sink.faults k) (search (rules, rule.0)) (c.tell_nothing.ensures.kept other);
      lines = λ other. subst (λ k. LeavesLines 1 g.K.Sink.whole g.K.Sink.calls g.K.Sink.taken k c.tell_nothing.new.sink) (search (rules, rule.0)) (c.tell_nothing.ensures.lines 1 other);
    }

pub returns-in-Given-clause-lines : goal.returns-in-Given-clause-lines
returns-in-Given-clause-lines g c = λ other.
    let rule = c.in-Given.ensures.steps in
    let lines = subst (λ k. LeavesLines 1 g.K.Sink.whole g.K.Sink.calls g.K.Sink.taken k c.cat.new.out.sink.now) c.new-bytes.ensures.sink rule.2.few_lines in
    subst (λ k. LeavesLines 1 g.K.Sink.whole g.K.Sink.calls g.K.Sink.taken c.args.sink.now k) (search rules) lines

pub returns-in-Cut-clause-lines : goal.returns-in-Cut-clause-lines
returns-in-Cut-clause-lines g c = λ other.
    let rule = c.in-Cut.ensures.steps in
    let lines = subst (λ k. LeavesLines 1 g.K.Sink.whole g.K.Sink.calls g.K.Sink.taken k c.cat.new.out.sink.now) c.new-bytes.ensures.sink rule.2.few_lines in
    subst (λ k. LeavesLines 1 g.K.Sink.whole g.K.Sink.calls g.K.Sink.taken c.args.sink.now k) (search rules) lines
