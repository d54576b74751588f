use Rattle.std.proofs.Common.{ap}
use Rattle.dg_model.specs.Tables.{Table}
use Rattle.dg_store.proofs.Blocks.{stands_fewer, without_fewer}
use Rattle.dg_store.proofs.RowLaws.{keeps_none}
use Rattle.dg_store.proofs.Sound.{leaves_of, row_of}
use Rattle.dg_store.proofs.TableLemmas.{on_boundary}
use Rattle.dg_store.proofs.store.Store.unplace.Goals as goal

pub drop_site-requires-clause-boundary : goal.drop_site-requires-clause-boundary
drop_site-requires-clause-boundary g c = on_boundary c.args.self.now.map c.args.block c.args.boundary c.requires.sound.table c.requires.one

pub returns-clause-leaves : goal.returns-clause-leaves
returns-clause-leaves g c =
    let s = c.requires.sound in
    leaves_of g.R.Rack g.met.R.Rack.told c.args.self.now _ (ap (λ (t : Table). t.shape) c.drop_site.ensures.dropped) c.drop_site.ensures.table s.built.block s.built.given_up
    (keeps_none g.R.Rack c.args.self.now.map.shape _ _ (row_of g.R.Rack c.args.self.now s))

pub returns-clause-written : goal.returns-clause-written
returns-clause-written g c =
    rw c.drop_site.ensures.dropped (without_fewer c.args.self.now.map c.args.block c.args.boundary c.requires.sound.table c.requires.range c.requires.other).written

pub returns-clause-stands : goal.returns-clause-stands
returns-clause-stands g c V st =
    rw c.drop_site.ensures.dropped
    (stands_fewer _ _ V c.args.self.now.map _ (without_fewer c.args.self.now.map c.args.block c.args.boundary c.requires.sound.table c.requires.range c.requires.other) st)
