use Rattle.std.proofs.Common.{◌≡◌, ap, length, rules}
use Rattle.dg_model.specs.Tables.{Table}
use Rattle.dg_store.proofs.Blocks.{stands_blank}
use Rattle.dg_store.proofs.Sound.{sound_by}
use Rattle.dg_store.proofs.store.Store.new.Goals as goal

pub returns : goal.returns
returns g c =
    let row = c.in_ok-row.ensures in
    let empty = c.in_ok-map.ensures.empty in
    let size : length c.in-Ok.block.items ≡ c.args.shape.l = search rules in
    record {
      sound = sound_by g.R.Rack g.met.R.Rack.told _ c.args.shape (ap (λ (t : Table). t.shape) empty) c.in_ok-map.ensures.table row.row size c.new-2.ensures.items;
      table = empty;
      members = row.begins;
      stays = row.rack;
      made = row.made;
      own = row.own;
      nothing = row.nothing;
      fell = row.fell;
      blanked = row.zeros;
      stands = rw empty (stands_blank _ _ c.args.shape);
      most = row.most;
    }
