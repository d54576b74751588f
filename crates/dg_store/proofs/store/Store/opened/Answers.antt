use Rattle.std.proofs.Common.{◌≡◌, length, rules}
use Rattle.dg_store.proofs.Sound.{sound_by}
use Rattle.dg_store.proofs.store.Store.opened.Goals as goal

pub returns-clause-sound : goal.returns-clause-sound
returns-clause-sound g c =
    let size : length c.in-Ok.block.items ≡ c.args.shape.l = search rules in
    sound_by g.R.Rack g.met.R.Rack.told _ c.args.shape c.requires.shape c.requires.table c.requires.row size c.new.ensures.items
