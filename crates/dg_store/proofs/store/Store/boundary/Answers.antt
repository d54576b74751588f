use Rattle.std.proofs.Common.{◌+◌, ◌∙◌, ◌<◌, length, sym, arith}
use Rattle.dg_store.proofs.Filled.{filled_within}
use Rattle.dg_store.proofs.Rows.{there, set_changed}
use Rattle.dg_store.proofs.store.Store.boundary.Goals as goal

pub returns-clause-well : goal.returns-clause-well
returns-clause-well g c =
    let within : c.args.boundary < length c.args.self.now.row.items = omega (arith, c.requires.boundary, c.requires.sound.built.count) in
    (c.requires.sound.built.stands _ _ (there _ _ _ within c.index.ensures)).well

pub returns-clause-number : goal.returns-clause-number
returns-clause-number g c =
    let within : c.args.boundary < length c.args.self.now.row.items = omega (arith, c.requires.boundary, c.requires.sound.built.count) in
    (c.requires.sound.built.stands _ _ (there _ _ _ within c.index.ensures)).number_is

pub returns-clause-members : goal.returns-clause-members
returns-clause-members g c q at =
    let within : c.args.boundary < length c.args.self.now.row.items = omega (arith, c.requires.boundary, c.requires.sound.built.count) in
    let x = c.index.result.now in
    sym ((set_changed c.args.self.now.row.items c.args.boundary x x within (there _ _ x within c.index.ensures)).was q at)

pub returns-clause-filled : goal.returns-clause-filled
returns-clause-filled g c q have at fills =
    let within : c.args.boundary < length c.args.self.now.row.items = omega (arith, c.requires.boundary, c.requires.sound.built.count) in
    let x = c.index.result.now in
    let was = there _ _ x within c.index.ensures in
    let st = c.requires.sound.built.stands _ _ was in
    filled_within x q have (c.args.self.now.map.shape.k + 1) st.well st.slots_is
    (sym ((set_changed c.args.self.now.row.items c.args.boundary x x within was).was q at) ∙ fills)
