use Rattle.std.proofs.Common.{refl}
use Rattle.dg_store.proofs.Sound.{leaves_of, row_of}
use Rattle.dg_store.proofs.TableLemmas.{are_slots}
use Rattle.dg_store.proofs.store.Store.copy_out.Goals as goal

pub read_block-requires-clause-row : goal.read_block-requires-clause-row
read_block-requires-clause-row g c = rw c.shape-shape.ensures.shape (row_of g.R.Rack c.args.self.now c.requires.sound)

pub read_block-requires-clause-within : goal.read_block-requires-clause-within
read_block-requires-clause-within g c = rw (c.shape-shape.ensures.shape, c.sites-sites.ensures.sites) (are_slots c.args.self.now.map c.args.block _ c.requires.sound.table c.requires.sound.built.count)

pub returns-clause-leaves : goal.returns-clause-leaves
returns-clause-leaves g c =
    let s = c.requires.sound in
    let k = rw c.shape-shape.ensures.shape at c.read_block.ensures in
    leaves_of g.R.Rack g.met.R.Rack.told c.args.self.now _ refl s.table k.size s.built.given_up k.keeps

pub returns-clause-got : goal.returns-clause-got
returns-clause-got g c got told V st =
    let k = rw (c.shape-shape.ensures.shape, c.sites-sites.ensures.sites) at c.read_block.ensures in
    k.got got _ (st.held c.args.block c.requires.range) told
