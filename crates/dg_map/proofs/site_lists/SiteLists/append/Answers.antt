use Rattle.std.proofs.Common.{◌≡◌, length, refl, rules}
use Rattle.dg_map.proofs.BegunLemmas.{adds_row}
use Rattle.dg_map.proofs.site_lists.SiteLists.append.Goals as goal

pub returns : goal.returns
returns c =
    let at : c.len-block.result ≡ length c.args.self.now.counts.items = search rules in
    adds_row c.args.self.now _ c.args.sites.now c.requires.sound c.requires.few refl c.in_ok-append_row.ensures c.in-Ok.ensures.items c.requires.left c.len-block.result at c.set_spread.ensures
