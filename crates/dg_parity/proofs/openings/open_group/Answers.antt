use Rattle.dg_parity.specs.Openings.{fronts_in}
use Rattle.dg_parity.proofs.OpenedLemmas.{some-ready, some-kept}
use Rattle.dg_parity.proofs.openings.open_group.Goals as goal

pub returns-clause-opened : goal.returns-clause-opened
returns-clause-opened g c = record {
  fronts = fronts_in c.read_fronts-fronts.result;
  found = c.read_fronts-fronts.ensures.found;
  opened = c.group_of.ensures.opened;
  none = c.group_of.ensures.none;
}

pub returns-clause-ready : goal.returns-clause-ready
returns-clause-ready g c =
    some-ready g.R.Rack (fronts_in c.read_fronts-fronts.result) c.args.n c.args.s c.group_of.result c.args.rack.now c.read_fronts-fronts.new.rack c.requires.most c.read_fronts-fronts.ensures.found
    c.group_of.ensures.opened

pub returns-clause-kept : goal.returns-clause-kept
returns-clause-kept g c =
    some-kept g.R.Rack (fronts_in c.read_fronts-fronts.result) c.args.n c.args.s c.group_of.result c.args.rack.now c.read_fronts-fronts.new.rack c.requires.most c.read_fronts-fronts.ensures.found
    c.group_of.ensures.opened
