use Rattle.dg_store.proofs.EvictionCounts.{not_all_single}
use Rattle.dg_store.proofs.sites.least_spread.Goals as goal

pub unreachable-requires : goal.unreachable-requires
unreachable-requires c =
    not_all_single c.args.map.now c.args.block c.least_spread.ensures.table c.requires.packed c.requires.within c.requires.none
    (λ k lt. c.in-None.ensures.spread k)
