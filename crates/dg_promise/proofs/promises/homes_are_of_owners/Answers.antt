use Rattle.dg_promise.proofs.PromiseLaws.{no_home, owns_none}
use Rattle.dg_promise.proofs.promises.homes_are_of_owners.Goals as goal

pub returns : goal.returns
returns c = λ state i order regular. (
  no_home state order.wants order.seen.fit order.placed (order.seen.are tt) i regular,
  owns_none state order.wants order.seen.fit order.placed (order.seen.are tt) i,
)
