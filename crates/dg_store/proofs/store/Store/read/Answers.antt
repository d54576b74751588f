use Rattle.std.proofs.Common.{refl}
use Rattle.dg_store.specs.ReadLaws.{reads_none}
use Rattle.dg_store.proofs.Sound.{leaves_of, row_of}
use Rattle.dg_store.proofs.TableLemmas.{are_slots}
use Rattle.dg_store.proofs.PlaceLemmas.{sites_tell}
use Rattle.dg_store.proofs.store.Store.read.Goals as goal

pub read_sites-requires-clause-row : goal.read_sites-requires-clause-row
read_sites-requires-clause-row g c = rw c.shape.ensures.shape (row_of g.R.Rack c.args.self.now c.requires.sound)

pub read_sites-requires-clause-within : goal.read_sites-requires-clause-within
read_sites-requires-clause-within g c = rw (c.shape.ensures.shape, c.sites-sites.ensures.sites) (are_slots c.args.self.now.map c.args.block _ c.requires.sound.table c.requires.sound.built.count)

pub returns-clause-sound : goal.returns-clause-sound
returns-clause-sound g c =
    let s = c.requires.sound in
    let k = rw c.shape.ensures.shape at c.read_sites.ensures in
    (leaves_of g.R.Rack g.met.R.Rack.told c.args.self.now _ refl s.table s.built.block s.built.given_up k.keeps).sound

pub returns-clause-reads : goal.returns-clause-reads
returns-clause-reads g c =
    let s = c.requires.sound in
    let k = rw c.shape.ensures.shape at c.read_sites.ensures in
    record { keeps = (leaves_of g.R.Rack g.met.R.Rack.told c.args.self.now _ refl s.table s.built.block s.built.given_up k.keeps).keeps; table = refl; writes = k.writes }

pub returns-clause-got : goal.returns-clause-got
returns-clause-got g c got told V st =
    let k = rw (c.shape.ensures.shape, c.sites-sites.ensures.sites) at c.read_sites.ensures in
    k.got got _ (st.held c.args.block c.requires.range) (sites_tell _ _ _ told)

pub returns-then-is_empty-clause-reads : goal.returns-then-is_empty-clause-reads
returns-then-is_empty-clause-reads g c = reads_none g.R.Rack c.args.self.now
