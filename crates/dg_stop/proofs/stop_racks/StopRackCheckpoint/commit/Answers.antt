use Rattle.std.proofs.Common.{◌≡◌, ◌≤◌, true, sym, subst, arith}
use Rattle.std.specs.Prelude.{IfSome, length}
use Rattle.dg_io.specs.Commits.{LeavesCommit}
use Rattle.dg_io.specs.declared.checkpoints.CommitAnswer.TheVariants.{Committed}
use Rattle.dg_stop.proofs.CommitDouble.{commit_doubled, commit_plain, commits_doubled, commits_plain}
use Rattle.dg_stop.specs.StopRacks.{StopCommits, stop_room, stop_stands, stop_words}
use Rattle.dg_stop.specs.declared.stop_racks.StopRack.{StopRack}
use Rattle.dg_stop.specs.declared.stop_racks.StopRack.TheVariants.{Plain, Doubled}
use Rattle.dg_stop.specs.Behind.{MostCalls}
use Rattle.dg_stop.specs.StopCalls.{behind, calls_to_commit}
use Rattle.dg_stop.proofs.stop_racks.StopRackCheckpoint.commit.Goals as goal

pub returns-in-Plain-clause-leaves : goal.returns-in-Plain-clause-leaves
returns-in-Plain-clause-leaves g c = subst (λ (s : StopRack g.row.R.Denot). LeavesCommit (stop_words g.R.Rack) stop_room c.args.keep c.args.extra.now (Committed 0 0) s (Plain c.in-Plain._rack)) (sym c.in-Plain.is)
    (commit_plain g.R.Rack c.args.keep c.args.extra.now c.in-Plain._rack)

pub commit-requires-clause-stand : goal.commit-requires-clause-stand
commit-requires-clause-stand g c = λ q on. subst (λ (s : StopRack g.row.R.Denot). stop_stands g.R.Rack s q ≡ true) c.in-Doubled.is (c.requires.stand q on)

pub commit-requires-clause-fits : goal.commit-requires-clause-fits
commit-requires-clause-fits g c = subst (λ (s : StopRack g.row.R.Denot). IfSome (stop_room s) (λ room. length c.args.extra.now ≤ room)) c.in-Doubled.is c.requires.fits

pub returns-in-Doubled-clause-leaves : goal.returns-in-Doubled-clause-leaves
returns-in-Doubled-clause-leaves g c = subst (λ (s : StopRack g.row.R.Denot). LeavesCommit (stop_words g.R.Rack) stop_room c.args.keep c.args.extra.now c.commit.result s (Doubled c.commit.new.self)) (sym c.in-Doubled.is)
    (commit_doubled g.R.Rack c.args.keep c.args.extra.now c.commit.result c.in-Doubled.double c.commit.new.self c.commit.ensures.leaves)

pub returns-in-Plain-clause-commits : goal.returns-in-Plain-clause-commits
returns-in-Plain-clause-commits g c = subst (λ (s : StopRack g.row.R.Denot). StopCommits g.R.Rack s (Plain c.in-Plain._rack)) (sym c.in-Plain.is) (commits_plain g.R.Rack c.in-Plain._rack)

pub returns-in-Doubled-clause-commits : goal.returns-in-Doubled-clause-commits
returns-in-Doubled-clause-commits g c = subst (λ (s : StopRack g.row.R.Denot). StopCommits g.R.Rack s (Doubled c.commit.new.self)) (sym c.in-Doubled.is)
    (commits_doubled g.R.Rack c.in-Doubled.double c.commit.new.self c.commit.ensures.commits)

pub returns-in-Plain-clause-calls : goal.returns-in-Plain-clause-calls
returns-in-Plain-clause-calls g c =
    subst (λ (s : StopRack g.row.R.Denot). MostCalls g.R.Rack (calls_to_commit s c.args.keep (Committed 0 0)) (behind s) c.in-Plain._rack) (sym c.in-Plain.is) (omega arith)

pub returns-in-Doubled-clause-calls : goal.returns-in-Doubled-clause-calls
returns-in-Doubled-clause-calls g c =
    subst (λ (s : StopRack g.row.R.Denot). MostCalls g.R.Rack (calls_to_commit s c.args.keep c.commit.result) (behind s) c.commit.new.self.rack) (sym c.in-Doubled.is) c.commit.ensures.calls
