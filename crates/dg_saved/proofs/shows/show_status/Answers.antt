use Rattle.std.proofs.Common.{◌≡◌, ◌∙◌, ℕ, List, ap, subst, sym}
use Rattle.dg_io.specs.Makes.{Makes}
use Rattle.dg_io.specs.SinkLines.{MayWrite}
use Rattle.dg_io.specs.Told.{StillTold}
use Rattle.dg_open.specs.Reopenings.{IsCallOfOpening}
use Rattle.dg_saved.proofs.Opened.{has_shown, shown_ends}
use Rattle.dg_saved.proofs.Unopened.{status_unopened}
use Rattle.dg_saved.specs.Calls.{facts_of}
use Rattle.dg_saved.specs.Ends.{StatusOnce}
use Rattle.dg_volume.specs.Besides.{AnswersOpenKept}
use Rattle.dg_volume.specs.Volumes.{any_phase, live_of, members_of, phase_of, rack_of, table_of}
use Rattle.dg_saved.proofs.Calls.{array_feed}
use Rattle.dg_saved.specs.Texts.{array_text}
use Rattle.dg_saved.specs.Unopened.{unopened_by}
use Rattle.dg_text.specs.LineWeights.{may_line}
use Rattle.dg_saved.proofs.shows.show_status.Goals as goal

pub tell_unopened-requires : goal.tell_unopened-requires
tell_unopened-requires g c = unopened_by _ c.in_default.not-Opened

pub returns-in_default-clause-ends : goal.returns-in_default-clause-ends
returns-in_default-clause-ends g c =
    status_unopened g.R.Rack c.args.rack c.tell_unopened.result.rack (facts_of g.K.Sink g.R.Rack g.R.Checkpoint.room_of c.args.extra.now c.args.sink.now c.tell_unopened.new.sink c.args.rack c.tell_unopened.result.rack) c.tell_unopened.result.end
    (c.tell_unopened.ensures.ends c.args.rack c.args.extra.now c.in_ok-unopened.ensures)

pub returns-in_default-clause-leaves : goal.returns-in_default-clause-leaves
returns-in_default-clause-leaves g c = c.tell_unopened.ensures.leaves 255 c.args.rack c.args.extra.now c.in_ok-unopened.ensures

pub returns-in_ok-text-in-Opened-clause-ends : goal.returns-in_ok-text-in-Opened-clause-ends
returns-in_ok-text-in-Opened-clause-ends g c =
    let volume = c.in-Opened.volume in
    let answers = subst (λ a. AnswersOpenKept g.R.Rack g.R.Checkpoint.room_of c.args.rack c.args.extra.now a) c.in-Opened.is c.in_ok-unopened.ensures in
    let text = c.deref.result.now in
    let shown = has_shown g.R.Rack g.R.Checkpoint.room_of c.args.extra.now c.args.rack volume c.in-Opened.field-1 (g.K.Sink.taken c.args.sink.now) (g.K.Sink.taken c.tell-end.new.sink) answers text
    (c.deref.ensures.value ∙ c.in_ok-text-in-Opened.ensures) in
    let ends = shown_ends g.R.Rack c.args.rack (rack_of volume) (facts_of g.K.Sink g.R.Rack g.R.Checkpoint.room_of c.args.extra.now c.args.sink.now c.tell-end.new.sink c.args.rack (rack_of volume)) c.tell-end.result text c.tell-end.ensures.is c.tell-end.ensures.told
    c.tell-end.ensures.part shown answers.answers.opened.stood in
    subst (λ r. StatusOnce g.R.Rack c.args.rack r (facts_of g.K.Sink g.R.Rack g.R.Checkpoint.room_of c.args.extra.now c.args.sink.now c.tell-end.new.sink c.args.rack r) c.tell-end.result) (sym c.into_rack.ensures) ends

pub returns-in_ok-text-in-Opened-clause-leaves : goal.returns-in_ok-text-in-Opened-clause-leaves
returns-in_ok-text-in-Opened-clause-leaves g c =
    let answers = subst (λ a. AnswersOpenKept g.R.Rack g.R.Checkpoint.room_of c.args.rack c.args.extra.now a) c.in-Opened.is c.in_ok-unopened.ensures in
    let volume = c.in-Opened.volume in
    let text : List ℕ = array_text (table_of volume) (live_of volume) (members_of volume) (phase_of any_phase volume) in
    let is : c.deref.result.now ≡ text = c.deref.ensures.value ∙ c.in_ok-text-in-Opened.ensures in
    let may : MayWrite 255 1 text = may_line 255 text (array_feed (table_of volume) (live_of volume) (members_of volume) (phase_of any_phase volume)) in
    record {
      name = ap g.R.Rack.name c.into_rack.ensures ∙ answers.answers.opened.stays.same_rack;
      made = subst (λ r. Makes g.R.Rack IsCallOfOpening c.args.rack r) (sym c.into_rack.ensures) answers.answers.opened.made;
      tells = subst (λ r. StillTold (g.R.Rack.bytes c.args.rack) (g.R.Rack.bytes r)) (sym c.into_rack.ensures) answers.answers.opened.stays.tells;
      write = c.tell-end.ensures.write;
      kept = c.tell-end.ensures.kept;
      lines = c.tell-end.ensures.lines 255 (subst (λ (shown : List ℕ). MayWrite 255 1 shown) (sym is) may);
    }
