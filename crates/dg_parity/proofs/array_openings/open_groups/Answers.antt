use Rattle.std.proofs.Common.{refl}
use Rattle.dg_parity.specs.Openings.{fronts_by}
use Rattle.dg_parity.proofs.ArrayOpeningLemmas.{width-range}
use Rattle.dg_parity.proofs.JudgedLemmas.{opened-held}
use Rattle.dg_parity.proofs.array_openings.open_groups.Goals as goal

pub groups_of-requires : goal.groups_of-requires
groups_of-requires g c =
    let range = width-range g.R.Rack c.args.rack.now c.read_rows-rows.new.rack (fronts_by c.read_rows-rows.result) c.in-Some.width c.read_rows-rows.ensures.found c.in-Some.ensures.width in
    record { least = range.0; most = range.1 }

pub returns-in_default-clause-plain : goal.returns-in_default-clause-plain
returns-in_default-clause-plain g c e = record { fronts = fronts_by c.read_rows-rows.result; found = c.read_rows-rows.ensures.found; none = c.in_default.ensures.none refl }

pub returns-clause-held : goal.returns-clause-held
returns-clause-held g c =
    let fronts = fronts_by c.read_rows-rows.result in
    let range = width-range g.R.Rack c.args.rack.now c.read_rows-rows.new.rack fronts c.in-Some.width c.read_rows-rows.ensures.found c.in-Some.ensures.width in
    opened-held g.R.Rack fronts c.in-Some.width c.in_ok-groups.groups.items c.args.rack.now c.read_rows-rows.new.rack range.1 c.in_ok-groups.ensures.count c.read_rows-rows.ensures.found c.in_ok-groups.ensures.opened
