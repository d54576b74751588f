use Rattle.std.proofs.Common.{subst}
use Rattle.dg_stop.proofs.OpenedRack.{can_finish, sized_prepared, whole_at}
use Rattle.dg_stop.specs.Readings.{AreTables, HasTables}
use Rattle.dg_stop.proofs.attachments.attach.Goals as goal

pub attach_all-requires-clause-can : goal.attach_all-requires-clause-can
attach_all-requires-clause-can g c =
    let reading = c.args.reading in
    let t = c.in-Some.attached in
    let are : AreTables g.R.Rack reading.found c.args.rack.now t = subst (HasTables g.R.Rack reading.found c.args.rack.now) c.in-Some.is c.requires.1.tables in
    can_finish g.R.Rack reading.found reading.known reading.failed t c.requires.0 c.args.rack.now c.requires.1.found are are.many

pub attach_all-requires-clause-sized : goal.attach_all-requires-clause-sized
attach_all-requires-clause-sized g c =
    let reading = c.args.reading in
    let t = c.in-Some.attached in
    let are : AreTables g.R.Rack reading.found c.args.rack.now t = subst (HasTables g.R.Rack reading.found c.args.rack.now) c.in-Some.is c.requires.1.tables in
    sized_prepared g.R.Rack reading.found reading.known reading.failed t c.requires.0 c.args.rack.now c.requires.1.found are are.many

pub attach_all-requires-clause-count : goal.attach_all-requires-clause-count
attach_all-requires-clause-count g c =
    let reading = c.args.reading in
    let are : AreTables g.R.Rack reading.found c.args.rack.now c.in-Some.attached = subst (HasTables g.R.Rack reading.found c.args.rack.now) c.in-Some.is c.requires.1.tables in
    are.count

pub attach_all-requires-clause-whole : goal.attach_all-requires-clause-whole
attach_all-requires-clause-whole g c =
    let reading = c.args.reading in
    let t = c.in-Some.attached in
    let are : AreTables g.R.Rack reading.found c.args.rack.now t = subst (HasTables g.R.Rack reading.found c.args.rack.now) c.in-Some.is c.requires.1.tables in
    whole_at g.R.Rack reading.found reading.known reading.failed t c.requires.0 c.args.rack.now c.requires.1.found are are.many
