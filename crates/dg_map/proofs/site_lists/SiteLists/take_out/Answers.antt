use Rattle.std.proofs.Common.{refl}
use Rattle.dg_map.proofs.ListLemmas.{at_default, row_kept_at}
use Rattle.dg_map.proofs.site_lists.SiteLists.take_out.Goals as goal

pub returns-clause-rows : goal.returns-clause-rows
returns-clause-rows c =
    row_kept_at c.args.self.now _ c.set_count.new.self c.args.block c.start-start.result c.index-count.result.now c.requires.sound c.requires.within c.start-start.ensures.start
    (at_default _ _ _ c.requires.within c.index-count.ensures) refl refl c.keep_off-kept.result c.args.boundary c.keep_off-kept.ensures c.set_count.ensures
