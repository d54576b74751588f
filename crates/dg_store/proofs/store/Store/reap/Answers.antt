use Rattle.std.proofs.Common.{ap}
use Rattle.dg_model.specs.Tables.{Table}
use Rattle.dg_store.proofs.Blocks.{stands_reaped}
use Rattle.dg_store.proofs.RowLaws.{keeps_none}
use Rattle.dg_store.proofs.Sound.{leaves_of, row_of}
use Rattle.dg_store.proofs.store.Store.reap.Goals as goal

pub returns-clause-leaves : goal.returns-clause-leaves
returns-clause-leaves g c =
    let s = c.requires.sound in
    leaves_of g.R.Rack g.met.R.Rack.told c.args.self.now _ (ap (λ (t : Table). t.shape) c.give_up_all.ensures.none) c.give_up_all.ensures.table s.built.block s.built.given_up
    (keeps_none g.R.Rack c.args.self.now.map.shape _ _ (row_of g.R.Rack c.args.self.now s))

pub returns-clause-zeros : goal.returns-clause-zeros
returns-clause-zeros g c V st =
    rw c.give_up_all.ensures.none (stands_reaped _ _ V c.args.self.now.map c.args.block c.requires.sound.table c.requires.range st)
