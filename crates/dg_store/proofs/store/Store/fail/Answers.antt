use Rattle.std.proofs.Common.{refl, ◌∙◌}
use Rattle.dg_store.specs.ReadLaws.{own_none, rack_none}
use Rattle.dg_store.specs.Rows.{members_in}
use Rattle.dg_store.proofs.Blocks.{stands_kept}
use Rattle.dg_store.proofs.Sound.{row_of, sound_of, whole_of}
use Rattle.dg_store.proofs.Struck.{struck_keeps, struck_long, struck_row}
use Rattle.dg_store.proofs.store.Store.fail.Goals as goal

pub fail_side-requires-clause-stands : goal.fail_side-requires-clause-stands
fail_side-requires-clause-stands g c = rw c.shape.ensures.shape c.requires.whole.built.stands

pub returns-clause-whole : goal.returns-clause-whole
returns-clause-whole g c =
    let w = c.requires.whole in
    let k = rw c.shape.ensures.shape at c.fail_side.ensures in
    whole_of g.R.Rack _ w.table (k.count ∙ w.built.count) k.stands (struck_long c.args.self.now.map.shape (members_in c.args.self.now.row.items) (members_in c.fail_side.new.row.items) _ _ w.long k.struck) w.built.block w.built.given_up

pub returns-clause-sound : goal.returns-clause-sound
returns-clause-sound g c sound =
    let s = sound in
    let k = rw c.shape.ensures.shape at c.fail_side.ensures in
    sound_of g.R.Rack g.met.R.Rack.told _ s.table (struck_row g.R.Rack _ _ _ _ _ (row_of g.R.Rack c.args.self.now s) k.count k.stands k.struck) s.built.block s.built.given_up

pub returns-clause-stays : goal.returns-clause-stays
returns-clause-stays g c = record { shape = refl; stays = rack_none g.R.Rack c.args.self.now.rack; own = own_none g.R.Rack c.args.self.now.map.shape.b c.args.self.now.rack }

pub returns-clause-stands : goal.returns-clause-stands
returns-clause-stands g c V st = stands_kept _ _ _ _ V c.args.self.now.map (struck_keeps _ _ _ _ _ c.fail_side.ensures.struck) st
