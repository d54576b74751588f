use Rattle.std.proofs.Common.{◌≡◌, ℕ, true, refl, subst}
use Rattle.dg_model.specs.Lives.{member_at}
use Rattle.dg_regroup.specs.LiveRacks.{is_there}
use Rattle.dg_regroup.specs.Marks.{AreMarksBelow, IsAnswerHere}
use Rattle.dg_regroup.proofs.LiveCalls.{here_is}
use Rattle.dg_regroup.proofs.LiveCommits.{commit_through}
use Rattle.dg_regroup.proofs.live_racks.LiveRackCheckpoint.commit.Goals as goal

pub commit-answer-requires-clause-stand : goal.commit-answer-requires-clause-stand
commit-answer-requires-clause-stand g c = λ p is.
    let live = c.args.self.now.live.items in
    let marks : AreMarksBelow live c.args.keep c.marks_below-below.result = rw c.deref.ensures.value at c.marks_below-below.ensures in
    let found = marks.only p is in
    let stand = here_is (is_there live found.place) (g.R.Rack.stands c.args.self.now.rack (member_at live found.place)) (c.requires.stand found.place found.marked) in
    subst (λ (n : ℕ). g.R.Rack.stands c.args.self.now.rack n ≡ true) found.is stand

pub returns : goal.returns
returns g c =
    let live = c.args.self.now.live.items in
    let marks : AreMarksBelow live c.args.keep c.marks_below-below.result = rw c.deref.ensures.value at c.marks_below-below.ensures in
    let answer : IsAnswerHere live c.commit-answer.result c.answer_here.result = rw c.deref-2.ensures.value at c.answer_here.ensures in
    record {
      leaves = commit_through g.R.Rack g.R.Checkpoint.room_of c.args.keep c.marks_below-below.result c.args.extra.now c.args.self.now _
          (record { live = refl; absent = refl; calls = refl; writes = refl }) marks c.requires.stand c.commit-answer.result c.answer_here.result answer c.commit-answer.ensures.leaves;
      commits = record { below = c.commit-answer.ensures.commits; live = refl; absent = refl; calls = refl; writes = refl };
    }
