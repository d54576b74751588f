use Rattle.dg_store.specs.Rows.{members_in}
use Rattle.dg_store.proofs.LeftStores.{bits_leave}
use Rattle.dg_store.proofs.reductions.bits_leave_the_live.Goals as goal

pub returns : goal.returns
returns g c = bits_leave c.args.store.now.map.shape (members_in c.args.store.now.row.items)
