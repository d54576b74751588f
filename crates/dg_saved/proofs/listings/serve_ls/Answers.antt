use Rattle.std.proofs.Common.{◌≡◌, rules, subst}
use Rattle.dg_io.specs.SinkLines.{LeavesLines, lines_both}
use Rattle.dg_io.specs.Told.{Told, Took, TookPart}
use Rattle.dg_model.specs.Causes.{Rose}
use Rattle.dg_model.specs.declared.events.Event.TheVariants.{Ls}
use Rattle.dg_saved.specs.Serves.{EndsNothing}
use Rattle.dg_saved.specs.PathReplies.{has_reply, ls_nothing}
use Rattle.dg_saved.proofs.Served.{listing_cut, listing_end_part, listing_given, listing_part, listing_refused}
use Rattle.dg_saved.specs.Texts.{ls_text}
use Rattle.dg_text.specs.ListingLines.{TookEntries, TookEntriesPart}
use Rattle.dg_text.specs.Listings.{lines_in}
use Rattle.dg_text.specs.Replies.{entries_text, reply_line}
use Rattle.dg_text.specs.declared.listing_lines.Lines.{Lines}
use Rattle.dg_text.specs.declared.listings.Form.{Form}
use Rattle.dg_volume.specs.Volumes.{StepsTo, any_phase}
use Rattle.dg_saved.proofs.listings.serve_ls.Goals as goal

pub returns-in-Ok-clause-ends : goal.returns-in-Ok-clause-ends
returns-in-Ok-clause-ends g c =
    let rule = c.in-Given.ensures.steps in
    let written = subst (λ (f : Form). Told (Took (lines_in f rule.0)) (g.K.Sink.taken c.new-entries.result.sink.now) (g.K.Sink.taken c.ls.new.out.sink.now)) c.new-entries.ensures.form rule.2.told in
    let taken = subst (λ k. Told (Took (entries_text rule.0)) (g.K.Sink.taken k) (g.K.Sink.taken c.ls.new.out.sink.now)) c.new-entries.ensures.sink written in
    let whole = listing_given g.R.Rack c.args.volume.now c.ls.new.self c.args.path.now rule.0 c.in-Given.n _ _ _ rule.1 rule.3 taken c.in-Ok.ensures.ok in
    record {
      reply = whole.reply;
      steps = whole.steps;
      kind_is = whole.kind_is;
      output = subst (λ k. Told (Took (ls_text whole.reply)) (g.K.Sink.taken c.args.sink.now) (g.K.Sink.taken k)) (search rules) whole.output;
    }

pub returns-in-Err-clause-ends : goal.returns-in-Err-clause-ends
returns-in-Err-clause-ends g c =
    let rule = c.in-Given.ensures.steps in
    let written = subst (λ (f : Form). Told (Took (lines_in f rule.0)) (g.K.Sink.taken c.new-entries.result.sink.now) (g.K.Sink.taken c.ls.new.out.sink.now)) c.new-entries.ensures.form rule.2.told in
    let taken = subst (λ k. Told (Took (entries_text rule.0)) (g.K.Sink.taken k) (g.K.Sink.taken c.ls.new.out.sink.now)) c.new-entries.ensures.sink written in
    let part = listing_end_part g.R.Rack c.args.volume.now c.ls.new.self c.args.path.now rule.0 c.in-Given.n _ _ _ rule.1 rule.3 taken c.in-Err.ensures.err in
    record {
      reply = part.reply;
      steps = part.steps;
      output = subst (λ k. Told (TookPart (ls_text part.reply)) (g.K.Sink.taken c.args.sink.now) (g.K.Sink.taken k)) (search rules) part.output;
    }

pub returns-in-Cut-clause-ends : goal.returns-in-Cut-clause-ends
returns-in-Cut-clause-ends g c =
    let rule = c.in-Cut.ensures.steps in
    let written = subst (λ (f : Form). Told (Took (lines_in f rule.0)) (g.K.Sink.taken c.new-entries.result.sink.now) (g.K.Sink.taken c.ls.new.out.sink.now)) c.new-entries.ensures.form rule.2.told in
    let taken = subst (λ k. Told (Took (entries_text rule.0)) (g.K.Sink.taken k) (g.K.Sink.taken c.ls.new.out.sink.now)) c.new-entries.ensures.sink written in
    listing_cut g.R.Rack c.args.volume.now c.ls.new.self c.args.path.now rule.0 _ _ rule.3
    (subst (λ k. Told (Took (entries_text rule.0)) (g.K.Sink.taken c.args.sink.now) (g.K.Sink.taken k)) (search rules) taken)

pub returns-in-SinkFault-clause-ends : goal.returns-in-SinkFault-clause-ends
returns-in-SinkFault-clause-ends g c =
    let rule = c.in-SinkFault.ensures.steps in
    let written = subst (λ (f : Form). Told (TookPart (lines_in f rule.0)) (g.K.Sink.taken c.new-entries.result.sink.now) (g.K.Sink.taken c.ls.new.out.sink.now)) c.new-entries.ensures.form rule.1.told in
    let taken = subst (λ k. Told (TookPart (entries_text rule.0)) (g.K.Sink.taken k) (g.K.Sink.taken c.ls.new.out.sink.now)) c.new-entries.ensures.sink written in
    listing_part g.R.Rack c.args.volume.now c.ls.new.self c.args.path.now rule.0 _ _ rule.3
    (subst (λ k. Told (TookPart (entries_text rule.0)) (g.K.Sink.taken c.args.sink.now) (g.K.Sink.taken k)) (search rules) taken)

pub returns-in_default : goal.returns-in_default
returns-in_default g c =
    let old = c.args.volume.now in
    let has = has_reply c.ls.result c.in_default.not-Given c.in_default.not-Cut c.in_default.not-SinkFault in
    let rule = ls_nothing (TookEntries g.K.Sink) (TookEntriesPart g.K.Sink) (λ (s : Lines g.row.K.Denot). g.K.Sink.faults s.sink.now) c.new-entries.result c.ls.new.out
    (λ reply. StepsTo any_phase any_phase g.R.Rack old (Ls c.args.path.now) reply c.ls.new.self) c.ls.result has c.ls.ensures.steps in
    record {
      leaves = search rules;
      ends = listing_refused g.R.Rack old c.ls.new.self c.args.path.now has.reply _ _ c.tell_nothing.result has.plain rule.1
          (subst (λ k. EndsNothing (reply_line has.reply) (g.K.Sink.taken k) (g.K.Sink.taken c.tell_nothing.new.sink) c.tell_nothing.result) (search (rules, rule.0)) (c.tell_nothing.ensures.ends has.reply has.is));
      write = λ is. subst (λ k. Rose (g.K.Sink.faults k) (g.K.Sink.faults c.tell_nothing.new.sink)) (search (rules, rule.0)) (c.tell_nothing.ensures.write is);
      kept = λ other. subst (λ k. g.K.Sink.faults c.tell_nothing.new.sink ≡ g.K.Sink.faults k) (search (rules, rule.0)) (c.tell_nothing.ensures.kept other);
      lines = λ other. subst (λ k. LeavesLines 255 g.K.Sink.whole g.K.Sink.calls g.K.Sink.taken k c.tell_nothing.new.sink) (search (rules, rule.0)) (c.tell_nothing.ensures.lines 255 other);
    }

pub returns-in-Ok-clause-lines : goal.returns-in-Ok-clause-lines
returns-in-Ok-clause-lines g c = λ other.
    let rule = c.in-Given.ensures.steps in
    let entries = subst (λ k. LeavesLines 255 g.K.Sink.whole g.K.Sink.calls g.K.Sink.taken k c.ls.new.out.sink.now) c.new-entries.ensures.sink rule.2.few_lines in
    subst (λ k. LeavesLines 255 g.K.Sink.whole g.K.Sink.calls g.K.Sink.taken c.args.sink.now k) (search rules) (lines_both 255 g.K.Sink.whole g.K.Sink.calls g.K.Sink.taken _ _ _ entries c.in-Ok.ensures.lines)

pub returns-in-Cut-clause-lines : goal.returns-in-Cut-clause-lines
returns-in-Cut-clause-lines g c = λ other.
    let rule = c.in-Cut.ensures.steps in
    let lines = subst (λ k. LeavesLines 255 g.K.Sink.whole g.K.Sink.calls g.K.Sink.taken k c.ls.new.out.sink.now) c.new-entries.ensures.sink rule.2.few_lines in
    subst (λ k. LeavesLines 255 g.K.Sink.whole g.K.Sink.calls g.K.Sink.taken c.args.sink.now k) (search rules) lines
