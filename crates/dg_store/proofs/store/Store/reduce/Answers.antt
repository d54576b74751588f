use Rattle.std.proofs.Common.{refl}
use Rattle.dg_store.specs.Rows.{members_in}
use Rattle.dg_store.proofs.LeftStores.{bits_within, reduced_is}
use Rattle.dg_store.proofs.store.Store.reduce.Goals as goal

pub keep_live-requires-clause-stands : goal.keep_live-requires-clause-stands
keep_live-requires-clause-stands g c = rw c.shape.ensures.shape c.requires.sound.built.stands

pub drop_lost-requires : goal.drop_lost-requires
drop_lost-requires g c =
    let old = c.args.self.now in
    rw c.lost-lost.ensures (bits_within (members_in old.row.items) old.map.shape.b (g.R.Reduces.boundaries old.rack) c.requires.boundaries)

pub returns : goal.returns
returns g c =
    let kept = rw c.shape.ensures.shape at c.keep_live.ensures in
    let dropped = rw c.lost-lost.ensures at c.drop_lost.ensures in
    reduced_is g.R.Rack g.met.R.Rack.told g.R.Reduces.boundaries g.R.Reduces.dropped c.args.self.now _ c.requires.sound c.requires.boundaries c.requires.map c.requires.table refl refl
    kept.count kept.stands kept.members dropped.leaves dropped.dropped dropped.boundaries
