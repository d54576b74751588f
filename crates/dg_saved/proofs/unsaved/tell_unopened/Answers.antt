use Rattle.std.proofs.Common.{subst}
use Rattle.dg_saved.proofs.Calls.{nostate_feed, unclean_feed}
use Rattle.dg_saved.proofs.Unopened.{no_state_ends, unclean_ends}
use Rattle.dg_saved.specs.Calls.{facts_of}
use Rattle.dg_saved.specs.OpeningLaws.{found_no_state, found_unclean, made_no_state, made_unclean, same_no_state, same_unclean, tells_no_state, tells_unclean}
use Rattle.dg_saved.specs.Texts.{nostate_text, unclean_text}
use Rattle.dg_text.specs.LineWeights.{may_line}
use Rattle.dg_volume.specs.Besides.{AnswersOpenKept}
use Rattle.dg_saved.proofs.unsaved.tell_unopened.Goals as goal

pub returns-in-NoState-clause-ends : goal.returns-in-NoState-clause-ends
returns-in-NoState-clause-ends g c = λ before extra answers.
    let finds = subst (λ a. AnswersOpenKept g.R.Rack g.R.Checkpoint.room_of before extra a) c.in-NoState.is answers in
    no_state_ends (facts_of g.K.Sink g.R.Rack g.R.Checkpoint.room_of extra c.args.sink.now c.tell.new.sink before c.in-NoState.rack) c.tell.result c.tell.ensures.is c.tell.ensures.told c.tell.ensures.part
    (found_no_state g.R.Rack g.R.Checkpoint.room_of extra before c.in-NoState.rack _ _ finds)

pub returns-in-NoState-clause-leaves : goal.returns-in-NoState-clause-leaves
returns-in-NoState-clause-leaves g c = λ w before extra answers.
    let finds = subst (λ a. AnswersOpenKept g.R.Rack g.R.Checkpoint.room_of before extra a) c.in-NoState.is answers in
    record {
      name = same_no_state g.R.Rack g.R.Checkpoint.room_of extra before c.in-NoState.rack finds;
      made = made_no_state g.R.Rack g.R.Checkpoint.room_of extra before c.in-NoState.rack finds;
      tells = tells_no_state g.R.Rack g.R.Checkpoint.room_of extra before c.in-NoState.rack finds;
      write = c.tell.ensures.write;
      kept = c.tell.ensures.kept;
      lines = c.tell.ensures.lines w (may_line w nostate_text nostate_feed);
    }

pub returns-in-Unclean-clause-ends : goal.returns-in-Unclean-clause-ends
returns-in-Unclean-clause-ends g c = λ before extra answers.
    let finds = subst (λ a. AnswersOpenKept g.R.Rack g.R.Checkpoint.room_of before extra a) c.in-Unclean.is answers in
    unclean_ends (facts_of g.K.Sink g.R.Rack g.R.Checkpoint.room_of extra c.args.sink.now c.tell-in-Unclean.new.sink before c.in-Unclean.rack) c.tell-in-Unclean.result c.tell-in-Unclean.ensures.is
    c.tell-in-Unclean.ensures.told c.tell-in-Unclean.ensures.part (found_unclean g.R.Rack g.R.Checkpoint.room_of extra before c.in-Unclean.rack _ _ finds)

pub returns-in-Unclean-clause-leaves : goal.returns-in-Unclean-clause-leaves
returns-in-Unclean-clause-leaves g c = λ w before extra answers.
    let finds = subst (λ a. AnswersOpenKept g.R.Rack g.R.Checkpoint.room_of before extra a) c.in-Unclean.is answers in
    record {
      name = same_unclean g.R.Rack g.R.Checkpoint.room_of extra before c.in-Unclean.rack finds;
      made = made_unclean g.R.Rack g.R.Checkpoint.room_of extra before c.in-Unclean.rack finds;
      tells = tells_unclean g.R.Rack g.R.Checkpoint.room_of extra before c.in-Unclean.rack finds;
      write = c.tell-in-Unclean.ensures.write;
      kept = c.tell-in-Unclean.ensures.kept;
      lines = c.tell-in-Unclean.ensures.lines w (may_line w unclean_text unclean_feed);
    }
