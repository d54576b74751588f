use Rattle.std.proofs.Common.{ℕ, List, sym, subst}
use Rattle.dg_stop.proofs.OpenedAll.{double_opened, failed_double, failed_opened, held_opened, plain_opened}
use Rattle.dg_stop.specs.DoubleOpenings.{OpensPlain}
use Rattle.dg_stop.proofs.stop_racks.StopRack.open.Goals as goal

pub over-requires : goal.over-requires
over-requires g c =
    held_opened g.R.Rack g.met.R.Rack.made_none g.met.R.Rack.made_both g.met.R.Rack.after c.in_ok-reading.reading c.args.rack c.read_rack.new.rack c.in_ok-reading.ensures c.in_ok-memory.memory c.in_ok-memory.extra.items
    c.attach.new.rack c.in_ok-memory.ensures

pub returns-then-is_bare-clause-opens : goal.returns-then-is_bare-clause-opens
returns-then-is_bare-clause-opens g c =
    subst (λ (l : List ℕ). OpensPlain g.R.Rack l c.args.rack c.read_rack.new.rack) (sym c.new.ensures.items)
    (plain_opened g.R.Rack g.met.R.Rack.made_none g.met.R.Rack.made_both g.met.R.Rack.after c.in_ok-reading.reading c.args.rack c.read_rack.new.rack c.in_ok-reading.ensures (c.is_bare.ensures.none c.if-is_bare.true))

pub returns-then-is_bare-clause-failed : goal.returns-then-is_bare-clause-failed
returns-then-is_bare-clause-failed g c =
    failed_opened g.R.Rack g.met.R.Rack.made_none g.met.R.Rack.made_both g.met.R.Rack.after c.in_ok-reading.reading c.args.rack c.read_rack.new.rack c.in_ok-reading.ensures

pub returns-clause-opens : goal.returns-clause-opens
returns-clause-opens g c =
    double_opened g.R.Rack g.met.R.Rack.made_none g.met.R.Rack.made_both g.met.R.Rack.after c.in_ok-reading.reading c.args.rack c.read_rack.new.rack c.in_ok-reading.ensures c.in_ok-memory.memory c.in_ok-memory.extra.items
    c.attach.new.rack (c.is_bare.ensures.some c.if-is_bare.false) c.in_ok-memory.ensures c.over.result c.over.ensures.rack c.over.ensures.memory c.over.ensures.tally

pub returns-clause-failed : goal.returns-clause-failed
returns-clause-failed g c =
    failed_double g.R.Rack c.args.rack c.over.result c.in_ok-memory.extra.items c.in_ok-memory.memory c.over.ensures.memory
    (double_opened g.R.Rack g.met.R.Rack.made_none g.met.R.Rack.made_both g.met.R.Rack.after c.in_ok-reading.reading c.args.rack c.read_rack.new.rack c.in_ok-reading.ensures c.in_ok-memory.memory c.in_ok-memory.extra.items
    c.attach.new.rack (c.is_bare.ensures.some c.if-is_bare.false) c.in_ok-memory.ensures c.over.result c.over.ensures.rack c.over.ensures.memory c.over.ensures.tally)
