use Rattle.std.proofs.Common.{refl}
use Rattle.dg_map.proofs.ListLemmas.{at_default, row_pushed_at}
use Rattle.dg_map.proofs.site_lists.SiteLists.push.Goals as goal

pub returns : goal.returns
returns c =
    row_pushed_at c.args.self.now _ c.set_count.new.self c.args.block c.start-start.result c.index-count.result.now c.requires.sound c.requires.within c.start-start.ensures.start
    (at_default _ _ _ c.requires.within c.index-count.ensures) refl refl c.args.site c.requires.room refl c.set_count.ensures
