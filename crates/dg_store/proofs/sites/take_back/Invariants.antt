use Rattle.std.proofs.Common.{vec_len}
use Rattle.dg_model.specs.Tables.{IsTable}
use Rattle.dg_store.specs.Evictions.{GaveUp}
use Rattle.dg_store.proofs.sites.take_back.Given as goal

abbrev pub invariant-loop-given : goal.invariant-loop-given
invariant-loop-given g l = IsTable l.map × GaveUp l.given_up.items g.before l.map

abbrev pub decreases-loop-given : goal.decreases-loop-given
decreases-loop-given g l = vec_len l.given_up
