use Rattle.std.proofs.Common.{◌∙◌}
use Rattle.dg_store.specs.Stores.{members_of, shape_of}
use Rattle.dg_store.proofs.TableLemmas.{degraded}
use Rattle.dg_store.proofs.store.Store.is_degraded.Goals as goal

pub returns : goal.returns
returns g c = c.is_some.ensures ∙ degraded (shape_of c.args.self.now) (members_of c.args.self.now) c.least_lost.result c.least_lost.ensures
