use Rattle.std.proofs.Common.{refl}
use Rattle.dg_regroup.proofs.FrontCommits.{commit_shown}
use Rattle.dg_regroup.proofs.front_racks.FrontRackCheckpoint.commit.Goals as goal

pub returns : goal.returns
returns g c = record {
  leaves = commit_shown g.R.Rack c.args.self.now c.commit.new.self g.R.Checkpoint.room_of c.args.keep c.args.extra.now c.commit.result c.commit.ensures.leaves;
  commits = record { below = c.commit.ensures.commits; length = refl; fronts = refl; refused = refl; writes = refl };
}
