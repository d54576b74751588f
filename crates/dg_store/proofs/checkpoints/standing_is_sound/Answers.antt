use Rattle.dg_store.proofs.checkpoints.standing_is_sound.Goals as goal

pub returns : goal.returns
returns g c =
    let w = c.requires.whole in
    record {
      table = w.table;
      paired = w.paired;
      others = w.others;
      long = w.long;
      stand = c.requires.stand;
      telling = λ q tells called. g.met.R.Rack.told c.args.store.now.rack q tells (c.requires.stand q called);
      built = w.built;
    }
