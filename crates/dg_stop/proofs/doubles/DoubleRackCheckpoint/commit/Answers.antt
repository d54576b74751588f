use Rattle.std.proofs.Common.{◌≡◌, ◌≤◌, true, sym, ◌∙◌, subst, arith}
use Rattle.std.specs.Prelude.{IfSome, length}
use Rattle.dg_io.specs.Commits.{LeavesCommit}
use Rattle.dg_io.specs.declared.checkpoints.CommitAnswer.{CommitAnswer}
use Rattle.dg_stop.proofs.CommitDouble.{commit_answer, commits_behind}
use Rattle.dg_stop.specs.DoubleCommits.{CommitsBehind, answer_in, double_rack, double_room}
use Rattle.dg_stop.specs.DoubleLaws.{both_of}
use Rattle.dg_stop.specs.Doubles.{Double, double_stands, stands_in}
use Rattle.dg_stop.proofs.DoubleCounts.{commit_called}
use Rattle.dg_stop.specs.Behind.{MostCalls}
use Rattle.dg_stop.specs.StopCalls.{double_commits}
use Rattle.dg_stop.proofs.doubles.DoubleRackCheckpoint.commit.Goals as goal

pub commit_members-made-requires-clause-held : goal.commit_members-made-requires-clause-held
commit_members-made-requires-clause-held g c = c.self.invariant

pub commit_members-made-requires-clause-stand : goal.commit_members-made-requires-clause-stand
commit_members-made-requires-clause-stand g c = λ q on.
    (both_of (stands_in c.self.inside.memory q) (g.R.Rack.stands c.self.inside.rack q)
    (subst (λ (s : Double g.row.R.Denot). double_stands g.R.Rack s q ≡ true) (sym c.self.view_is) (c.requires.stand q (sym (c.flags_of-served.ensures q) ∙ on)))).0

pub commit_members-made-requires-clause-fits : goal.commit_members-made-requires-clause-fits
commit_members-made-requires-clause-fits g c =
    subst (λ (s : Double g.row.R.Denot). IfSome (double_room s) (λ room. length c.args.extra.now ≤ room)) (sym c.self.view_is) c.requires.fits

pub invariant_of-self : goal.invariant_of-self
invariant_of-self g c = c.commit_members-made.ensures.leaves.held

pub returns-clause-leaves : goal.returns-clause-leaves
returns-clause-leaves g c =
    let old : Double g.row.R.Denot = record { rack = c.self.inside.rack; memory = c.self.inside.memory; tally = c.self.inside.tally } in
    let new : Double g.row.R.Denot = record { rack = c.commit_members-made.new.rack; memory = c.commit_members-made.new.memory; tally = c.note_fallen.new.self } in
    subst (λ (a : CommitAnswer). LeavesCommit (double_rack g.R.Rack) double_room c.args.keep c.args.extra.now a c.args.self.now new) (sym c.answer_of.ensures)
    (subst (λ (s : Double g.row.R.Denot). LeavesCommit (double_rack g.R.Rack) double_room c.args.keep c.args.extra.now (answer_in c.commit_members-made.result c.marks_of_fallen.result) s new) c.self.view_is
    (commit_answer g.R.Rack c.args.keep c.args.extra.now c.flags_of-served.result c.commit_members-made.new.serving c.commit_members-made.new.tried old new c.flags_of-served.ensures
    c.commit_members-made.ensures.tried c.commit_members-made.ensures.leaves c.note_fallen.ensures c.commit_members-made.result c.marks_of_fallen.result c.marks_of_fallen.ensures
    c.commit_members-made.ensures.answer c.commit_members-made.ensures.kept))

pub returns-clause-commits : goal.returns-clause-commits
returns-clause-commits g c =
    let old : Double g.row.R.Denot = record { rack = c.self.inside.rack; memory = c.self.inside.memory; tally = c.self.inside.tally } in
    let new : Double g.row.R.Denot = record { rack = c.commit_members-made.new.rack; memory = c.commit_members-made.new.memory; tally = c.note_fallen.new.self } in
    subst (λ (s : Double g.row.R.Denot). CommitsBehind g.R.Rack s new) c.self.view_is
    (commits_behind g.R.Rack c.flags_of-served.result c.commit_members-made.new.serving old new c.commit_members-made.ensures.leaves c.note_fallen.ensures)

pub returns-clause-calls : goal.returns-clause-calls
returns-clause-calls g c =
    let calls = commit_called c.args.keep c.marks_of_fallen.result c.flags_of-served.result c.commit_members-made.new.serving c.commit_members-made.result c.flags_of-served.ensures c.marks_of_fallen.ensures in
    subst (λ (a : CommitAnswer). MostCalls g.R.Rack (double_commits c.args.keep a) c.args.self.now.rack c.commit_members-made.new.rack) (sym c.answer_of.ensures)
    (subst (λ (s : Double g.row.R.Denot). MostCalls g.R.Rack (double_commits c.args.keep (answer_in c.commit_members-made.result c.marks_of_fallen.result)) s.rack c.commit_members-made.new.rack) c.self.view_is
    (omega (arith, calls, c.commit_members-made.ensures.calls)))
