use Rattle.dg_store.proofs.OtherRack.{commit_leaves}
use Rattle.dg_store.proofs.store.Store.commit.Goals as goal

pub returns : goal.returns
returns g c = record {
  leaves = commit_leaves g.R.Rack g.met.R.Rack.told c.args.self.now c.commit.new.self g.R.Checkpoint.room_of c.args.keep c.args.extra.now c.commit.result c.commit.ensures.leaves;
  commits = c.commit.ensures.commits;
}
