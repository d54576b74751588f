use Rattle.std.proofs.Common.{arith, subst}
use Rattle.std.specs.Prelude.{IfErr, IfOk, None}
use Rattle.dg_stop.proofs.FindLemmas.{finds_lose, finds_then}
use Rattle.dg_stop.proofs.ReadLemmas.{are_tables, borne_by, lost_found}
use Rattle.dg_stop.specs.Tables.{LosesHead, ReadsFirst, ReadsTables}
use Rattle.dg_stop.proofs.readings.read_by.Goals as goal

pub read_all-requires-clause-borne : goal.read_all-requires-clause-borne
read_all-requires-clause-borne g c = borne_by g.R.Rack c.args.found.now c.args.lead c.heads_of-heads.result c.heads_of-heads.ensures (omega (arith, c.heads_of-heads.type_inv)) c.args.rack.now c.requires.sound

pub returns-in-Some-clause-lost : goal.returns-in-Some-clause-lost
returns-in-Some-clause-lost g c =
    lost_found g.R.Rack c.args.found.now c.args.lead c.heads_of-heads.result c.heads_of-heads.ensures (omega (arith, c.heads_of-heads.type_inv)) c.args.rack.now c.read_all.new.rack c.in-Some.lost
    (subst (λ o. ReadsTables g.R.Rack c.heads_of-heads.result c.longest_of-most.result o c.read_all.new.all.items c.args.rack.now c.read_all.new.rack) c.in-Some.is c.in_ok-lost.ensures)

pub returns-in-Ok-clause-finds : goal.returns-in-Ok-clause-finds
returns-in-Ok-clause-finds g c =
    let tables : ReadsTables g.R.Rack c.heads_of-heads.result c.longest_of-most.result None c.read_all.new.all.items c.args.rack.now c.read_all.new.rack =
    subst (λ o. ReadsTables g.R.Rack c.heads_of-heads.result c.longest_of-most.result o c.read_all.new.all.items c.args.rack.now c.read_all.new.rack) c.in_default.is c.in_ok-lost.ensures in
    let first : ReadsFirst g.R.Rack c.heads_of-heads.result c.read_all.new.rack c.read_first.new.rack c.in-Ok.extra.items = subst (λ r. IfOk r (λ extra. ReadsFirst g.R.Rack c.heads_of-heads.result c.read_all.new.rack c.read_first.new.rack extra.items)) c.in-Ok.is c.in_ok-extra.ensures.read in
    finds_then g.R.Rack c.args.rack.now c.read_all.new.rack c.read_first.new.rack tables.0 first.finds

pub returns-in-Ok-clause-tables : goal.returns-in-Ok-clause-tables
returns-in-Ok-clause-tables g c =
    let tables : ReadsTables g.R.Rack c.heads_of-heads.result c.longest_of-most.result None c.read_all.new.all.items c.args.rack.now c.read_all.new.rack =
    subst (λ o. ReadsTables g.R.Rack c.heads_of-heads.result c.longest_of-most.result o c.read_all.new.all.items c.args.rack.now c.read_all.new.rack) c.in_default.is c.in_ok-lost.ensures in
    let first : ReadsFirst g.R.Rack c.heads_of-heads.result c.read_all.new.rack c.read_first.new.rack c.in-Ok.extra.items = subst (λ r. IfOk r (λ extra. ReadsFirst g.R.Rack c.heads_of-heads.result c.read_all.new.rack c.read_first.new.rack extra.items)) c.in-Ok.is c.in_ok-extra.ensures.read in
    are_tables g.R.Rack c.args.found.now
    (record { lead = c.args.lead; heads = c.heads_of-heads.result; most = c.longest_of-most.result; places = c.read_all.new.all; extra = c.in-Ok.extra })
    c.heads_of-heads.ensures (omega (arith, c.heads_of-heads.type_inv)) c.requires.leads c.args.rack.now c.read_all.new.rack c.read_first.new.rack c.requires.sound c.longest_of-most.ensures
    (omega (arith, c.if-most-ge-TOO_LONG.false)) tables first

pub returns-in-Err-clause-lost : goal.returns-in-Err-clause-lost
returns-in-Err-clause-lost g c =
    let tables : ReadsTables g.R.Rack c.heads_of-heads.result c.longest_of-most.result None c.read_all.new.all.items c.args.rack.now c.read_all.new.rack =
    subst (λ o. ReadsTables g.R.Rack c.heads_of-heads.result c.longest_of-most.result o c.read_all.new.all.items c.args.rack.now c.read_all.new.rack) c.in_default.is c.in_ok-lost.ensures in
    let lost : LosesHead g.R.Rack c.heads_of-heads.result c.read_all.new.rack c.read_first.new.rack c.in-Err.lost = subst (λ r. IfErr r (LosesHead g.R.Rack c.heads_of-heads.result c.read_all.new.rack c.read_first.new.rack)) c.in-Err.is c.in_ok-extra.ensures.lost in
    lost_found g.R.Rack c.args.found.now c.args.lead c.heads_of-heads.result c.heads_of-heads.ensures (omega (arith, c.heads_of-heads.type_inv)) c.args.rack.now c.read_first.new.rack c.in-Err.lost
    (finds_lose g.R.Rack c.in-Err.lost c.args.rack.now c.read_all.new.rack c.read_first.new.rack tables.0 lost.0, lost.1)
