use Rattle.std.proofs.Common.{◌∙◌, ap, subst, sym}
use Rattle.dg_model.specs.declared.events.Event.TheVariants.{Cat}
use Rattle.dg_io.specs.Makes.{Makes}
use Rattle.dg_io.specs.Told.{StillTold}
use Rattle.dg_open.specs.Reopenings.{IsCallOfOpening}
use Rattle.dg_saved.proofs.Opened.{calls_made, ends_event}
use Rattle.dg_saved.proofs.Unopened.{event_unopened}
use Rattle.dg_saved.specs.Calls.{facts_of}
use Rattle.dg_saved.specs.Ends.{EventOnce}
use Rattle.dg_saved.specs.Texts.{cat_text, gives_file}
use Rattle.dg_saved.specs.Unopened.{unopened_by}
use Rattle.dg_volume.specs.Besides.{AnswersOpenKept}
use Rattle.dg_saved.proofs.files.cat_saved.Goals as goal

pub tell_unopened-requires : goal.tell_unopened-requires
tell_unopened-requires g c = unopened_by _ c.in_default.not-Opened

pub returns-in_default-clause-ends : goal.returns-in_default-clause-ends
returns-in_default-clause-ends g c =
    event_unopened g.R.Rack c.args.rack c.tell_unopened.result.rack (facts_of g.K.Sink g.R.Rack g.R.Checkpoint.room_of c.args.extra.now c.args.sink.now c.tell_unopened.new.sink c.args.rack c.tell_unopened.result.rack) (Cat c.args.path.now) cat_text gives_file c.tell_unopened.result.end
    (c.tell_unopened.ensures.ends c.args.rack c.args.extra.now c.in_ok-unopened.ensures)

pub returns-in_default-clause-leaves : goal.returns-in_default-clause-leaves
returns-in_default-clause-leaves g c = c.tell_unopened.ensures.leaves 1 c.args.rack c.args.extra.now c.in_ok-unopened.ensures

pub returns-in-Opened-clause-ends : goal.returns-in-Opened-clause-ends
returns-in-Opened-clause-ends g c =
    let answers = subst (λ a. AnswersOpenKept g.R.Rack g.R.Checkpoint.room_of c.args.rack c.args.extra.now a) c.in-Opened.is c.in_ok-unopened.ensures in
    let ends = ends_event g.R.Rack g.R.Checkpoint.room_of c.args.extra.now c.args.rack c.in-Opened.volume c.serve_cat-end.new.volume c.in-Opened.field-1 _ _ answers c.serve_cat-end.ensures.leaves
    (Cat c.args.path.now) cat_text gives_file c.serve_cat-end.result c.serve_cat-end.ensures.ends in
    subst (λ r. EventOnce g.R.Rack c.args.rack r (facts_of g.K.Sink g.R.Rack g.R.Checkpoint.room_of c.args.extra.now c.args.sink.now c.serve_cat-end.new.sink c.args.rack r) (Cat c.args.path.now) cat_text gives_file
    c.serve_cat-end.result) (sym c.into_rack.ensures) ends

pub returns-in-Opened-clause-leaves : goal.returns-in-Opened-clause-leaves
returns-in-Opened-clause-leaves g c =
    let answers = subst (λ a. AnswersOpenKept g.R.Rack g.R.Checkpoint.room_of c.args.rack c.args.extra.now a) c.in-Opened.is c.in_ok-unopened.ensures in
    record {
      name = ap g.R.Rack.name c.into_rack.ensures ∙ (c.serve_cat-end.ensures.leaves.same_rack ∙ answers.answers.opened.stays.same_rack);
      made = subst (λ r. Makes g.R.Rack IsCallOfOpening c.args.rack r) (sym c.into_rack.ensures)
          (calls_made g.R.Rack answers.answers.beside c.args.rack c.in-Opened.volume c.serve_cat-end.new.volume c.in-Opened.field-1 answers.answers.opened c.serve_cat-end.ensures.leaves);
      tells = subst (λ r. StillTold (g.R.Rack.bytes c.args.rack) (g.R.Rack.bytes r)) (sym c.into_rack.ensures)
          (λ q told. answers.answers.opened.stays.tells q (c.serve_cat-end.ensures.leaves.tells q told));
      write = c.serve_cat-end.ensures.write;
      kept = c.serve_cat-end.ensures.kept;
      lines = c.serve_cat-end.ensures.lines;
    }
